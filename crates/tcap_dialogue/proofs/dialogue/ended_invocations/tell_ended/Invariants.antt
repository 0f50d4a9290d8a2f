use Rattle.std.proofs.Common.{◌≡◌, ◌+◌, ◌≤◌, ◌++◌, Option, length}
use Rattle.ber_core.specs.Place.{Slice}
use Rattle.tcap_primitives.specs.Slices.{LieInPlace}
use Rattle.tcap_invocation.specs.Closing.{ended_at}
use Rattle.tcap_model.specs.Table.TableMove.{ended_told}
use Rattle.tcap_dialogue.proofs.dialogue.ended_invocations.tell_ended.Given as goal

abbrev pub invariant-loop-number : goal.invariant-loop-number
invariant-loop-number g l =
    (l.sink.outputs ++ ended_told l.dialogue l.invocations ≡ l.initial.sink.outputs ++ ended_told l.dialogue l.initial.invocations)
    × (length (ended_at l.invocations.rows) ≤ l.sink.places)
    × (l.initial.sink.places + length (ended_at l.invocations.rows) ≤ l.sink.places + length (ended_at l.initial.invocations.rows))
    × ((portion : Option Slice) (components : Slice) → LieInPlace portion components l.initial.sink.slices → LieInPlace portion components l.sink.slices)

abbrev pub decreases-loop-number : goal.decreases-loop-number
decreases-loop-number g l = length (ended_at l.invocations.rows)
