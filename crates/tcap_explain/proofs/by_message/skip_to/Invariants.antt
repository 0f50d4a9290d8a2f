use Rattle.std.proofs.Common.{◌≡◌, ◌≤◌, ◌-◌, length, is_err, Some}
use Rattle.std.specs.List.{position_from}
use Rattle.tcap_component.specs.ComponentReading.{components_of}
use Rattle.tcap_explain.specs.Explaining.{left_of}
use Rattle.tcap_explain.proofs.by_message.skip_to.Given as goal

abbrev pub invariant-loop-at : goal.invariant-loop-at
invariant-loop-at l =
    (length l.rest ≤ length l.content)
    × (left_of l.rest ≡ left_of l.content)
    × (position_from is_err l.at (components_of l.rest) ≡ Some l.number)

abbrev pub decreases-loop-at : goal.decreases-loop-at
decreases-loop-at l = l.number - l.at
