use Rattle.std.proofs.Common.{◌≡◌, ◌+◌, ◌≤◌, length, is_err}
use Rattle.std.specs.List.{position_from}
use Rattle.tcap_component.specs.ComponentReading.{components_of}
use Rattle.tcap_words.proofs.judge.faulty_place.Given as goal

-- the first faulty one of all is that of what is left
abbrev pub invariant-loop-rest : goal.invariant-loop-rest
invariant-loop-rest l =
    (position_from is_err l.place (components_of l.rest) ≡ position_from is_err 0 (components_of l.components))
    × (l.place + length l.rest ≤ length l.components)

abbrev pub decreases-loop-rest : goal.decreases-loop-rest
decreases-loop-rest l = length l.rest
