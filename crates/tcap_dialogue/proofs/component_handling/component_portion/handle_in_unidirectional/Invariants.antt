use Rattle.std.proofs.Common.{◌≡◌, ◌≤◌, ◌++◌, Option, length}
use Rattle.ber_core.specs.Place.{Slice}
use Rattle.tcap_component.specs.ComponentReading.{components_of}
use Rattle.tcap_primitives.specs.Slices.{IsLeftOf, LieInPlace}
use Rattle.tcap_model.specs.Procedures.ComponentHandling.{uni_told}
use Rattle.tcap_dialogue.proofs.component_handling.component_portion.handle_in_unidirectional.Given as goal

abbrev pub invariant-loop-left : goal.invariant-loop-left
invariant-loop-left g l =
    (l.sink.outputs ++ uni_told (components_of l.left.octets.now) ≡ l.initial.sink.outputs ++ uni_told (components_of l.components))
    × (length (components_of l.left.octets.now) ≤ l.sink.places)
    × (length l.left.octets.now ≤ l.sink.octets)
    × IsLeftOf l.left.octets l.initial.left.octets
    × ((portion : Option Slice) → LieInPlace portion l.initial.left.octets l.initial.sink.slices → LieInPlace portion l.initial.left.octets l.sink.slices)

abbrev pub decreases-loop-left : goal.decreases-loop-left
decreases-loop-left g l = length (components_of l.left.octets.now)
