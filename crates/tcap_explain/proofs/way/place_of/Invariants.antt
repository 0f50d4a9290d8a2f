use Rattle.std.proofs.Common.{◌≡◌, ◌≤◌, ◌-◌, true, length, is_ok}
use Rattle.std.specs.List.{list_all}
use Rattle.ber_core.specs.ListReading.{items_of}
use Rattle.ber_core.specs.Way.{further, inside}
use Rattle.tcap_explain.proofs.way.place_of.Given as goal

-- what is left gives what all bytes give, and can be read
abbrev pub invariant-loop-head : goal.invariant-loop-head
invariant-loop-head l =
    (length l.rest ≤ length l.bytes)
    × (further (length l.bytes - length l.rest) (inside l.tag l.rest) ≡ inside l.tag l.bytes)
    × (list_all is_ok (items_of l.rest) ≡ true)

abbrev pub decreases-loop-head : goal.decreases-loop-head
decreases-loop-head l = length l.rest
