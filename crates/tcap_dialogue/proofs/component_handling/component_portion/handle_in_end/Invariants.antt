use Rattle.std.proofs.Common.{◌≡◌, ◌≤◌, ◌+◌, Option, length}
use Rattle.ber_core.specs.Place.{Slice}
use Rattle.tcap_component.specs.ComponentReading.{components_of}
use Rattle.tcap_primitives.specs.Slices.{IsLeftOf, LieInPlace}
use Rattle.tcap_dialogue.specs.Walking.{told_from}
use Rattle.tcap_invocation.specs.Closing.{ended_at}
use Rattle.tcap_dialogue.proofs.component_handling.component_portion.handle_in_end.Given as goal

abbrev pub invariant-loop-left : goal.invariant-loop-left
invariant-loop-left g l =
    (told_from l.dialogue l.clock (record { told = l.sink.outputs; list = l.invocations }) (components_of l.left.octets.now)
    ≡ told_from l.dialogue l.clock (record { told = l.initial.sink.outputs; list = l.initial.invocations }) (components_of l.components))
    × (length (components_of l.left.octets.now) ≤ l.sink.places)
    × (l.initial.sink.places + length (components_of l.left.octets.now) ≤ l.sink.places + length (components_of l.components))
    × (length (ended_at l.invocations.rows) ≤ length (ended_at l.initial.invocations.rows))
    × IsLeftOf l.left.octets l.initial.left.octets
    × ((portion : Option Slice) → LieInPlace portion l.initial.left.octets l.initial.sink.slices → LieInPlace portion l.initial.left.octets l.sink.slices)
    × (length l.left.octets.now ≤ l.sink.octets)

abbrev pub decreases-loop-left : goal.decreases-loop-left
decreases-loop-left g l = length (components_of l.left.octets.now)
