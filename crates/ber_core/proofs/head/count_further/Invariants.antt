use Rattle.std.proofs.Common.{◌≡◌, ◌-◌, ◌+◌, drop}
use Rattle.std.specs.Prelude.{Ok}
use Rattle.ber_core.specs.Results.{◌>>=◌}
use Rattle.ber_core.specs.HeadReading.{further_at}
use Rattle.ber_core.proofs.head.count_further.Given as goal

abbrev pub invariant-loop-i : goal.invariant-loop-i
invariant-loop-i l = (further_at (4 - l.i) (drop l.i l.bytes) >>= (λ k. Ok (l.i + k))) ≡ further_at 4 l.bytes
