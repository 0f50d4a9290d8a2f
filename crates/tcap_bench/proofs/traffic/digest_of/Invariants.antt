use Rattle.std.proofs.Common.{◌≡◌}
use Rattle.tcap_bench.proofs.traffic.digest_of.Given as goal

abbrev pub invariant-loop : goal.invariant-loop
invariant-loop l = (l.fn.turns ≡ 0) → l.traffic.digest.value ≡ 0
