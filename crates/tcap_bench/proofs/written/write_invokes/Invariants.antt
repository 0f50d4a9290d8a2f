use Rattle.std.proofs.Common.{◌≡◌, ◌++◌, drop}
use Rattle.std.specs.List.{flat_map}
use Rattle.tcap_bench.specs.Messages.{written_invoke, written_invokes}
use Rattle.tcap_bench.proofs.written.write_invokes.Given as goal

abbrev pub invariant-loop-invocation : goal.invariant-loop-invocation
invariant-loop-invocation l = l.octets.items ++ flat_map (written_invoke l.pool) (drop l.invocation-index l.others) ≡ written_invokes l.pool l.invocations
