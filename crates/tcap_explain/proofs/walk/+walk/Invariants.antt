use Rattle.std.proofs.Common.{◌≡◌, ◌≤◌, ◌+◌, ◌-◌, ◌*◌, length, option_map}
use Rattle.tcap_explain.specs.Walk.{further, walk}
use Rattle.tcap_explain.proofs.walk.+walk.Given as goal

abbrev pub decreases-walk : goal.decreases-walk
decreases-walk l = 6 * length l.bytes.now + 5

abbrev pub decreases-take_step : goal.decreases-take_step
decreases-take_step l = 6 * length l.bytes.now + 4

abbrev pub decreases-inside_fault : goal.decreases-inside_fault
decreases-inside_fault l = 6 * length l.element.now.content.now + 8

abbrev pub decreases-listed_fault : goal.decreases-listed_fault
decreases-listed_fault l = 6 * length l.element.now.content.now + 7

abbrev pub decreases-elements_fault : goal.decreases-elements_fault
decreases-elements_fault l = 6 * length l.element.now.content.now + 6

-- what is left gives what all bytes give
abbrev pub invariant-walk-loop-rest : goal.invariant-walk-loop-rest
invariant-walk-loop-rest l =
    (length l.rest ≤ length l.bytes)
    × (option_map (further (length l.bytes - length l.rest)) (walk l.line l.rest) ≡ walk l.fn.line l.bytes)

abbrev pub decreases-walk-loop-rest : goal.decreases-walk-loop-rest
decreases-walk-loop-rest l = length l.rest
