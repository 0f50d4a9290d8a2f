use Rattle.std.proofs.Common.{◌≡◌, ◌≤◌, ◌-◌, length}
use Rattle.ber_core.specs.Way.{further, inside}
use Rattle.tcap_explain.proofs.way.find.Given as goal

-- what is left gives what all bytes give
abbrev pub invariant-loop-rest : goal.invariant-loop-rest
invariant-loop-rest l =
    (length l.rest ≤ length l.bytes)
    × (further (length l.bytes - length l.rest) (inside l.tag l.rest) ≡ inside l.tag l.bytes)

abbrev pub decreases-loop-rest : goal.decreases-loop-rest
decreases-loop-rest l = length l.rest
