use Rattle.std.proofs.Common.{length}
use Rattle.tcap_bench.proofs.Fed.{IsFed}
use Rattle.tcap_bench.proofs.feed_steps.feed_sum.Given as goal

-- the sum of the messages so far
abbrev pub invariant-loop-rest : goal.invariant-loop-rest
invariant-loop-rest l = IsFed l.bytes l.rest l.feed l.sum

abbrev pub decreases-loop-rest : goal.decreases-loop-rest
decreases-loop-rest l = length l.rest
