use Rattle.std.proofs.Common.{◌≡◌}
use Rattle.tcap_bench.proofs.engine_steps.count_laps.Given as goal

abbrev pub invariant-loop : goal.invariant-loop
invariant-loop g l = (l.fn.laps ≡ 0) → l.count ≡ 0
