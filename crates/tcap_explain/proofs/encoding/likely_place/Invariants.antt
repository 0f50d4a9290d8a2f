use Rattle.std.proofs.Common.{◌≤◌, length}
use Rattle.tcap_explain.proofs.encoding.likely_place.Given as goal

abbrev pub invariant-loop-left : goal.invariant-loop-left
invariant-loop-left l = length l.rest ≤ length l.bytes

abbrev pub decreases-loop-left : goal.decreases-loop-left
decreases-loop-left l = length l.rest
