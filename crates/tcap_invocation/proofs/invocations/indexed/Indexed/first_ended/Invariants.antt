use Rattle.std.proofs.Common.{◌≡◌}
use Rattle.tcap_invocation.specs.Closing.{ended_at}
use Rattle.tcap_invocation.proofs.invocations.indexed.Indexed.first_ended.Given as goal

abbrev pub invariant-loop-id : goal.invariant-loop-id
invariant-loop-id g l = ended_at l.id-iterator ≡ ended_at l.self
