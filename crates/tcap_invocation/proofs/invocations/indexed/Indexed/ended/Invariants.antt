use Rattle.std.proofs.Common.{◌≡◌, ◌++◌, length, vec_capacity}
use Rattle.tcap_invocation.specs.Closing.{ended_at}
use Rattle.tcap_invocation.proofs.invocations.indexed.Indexed.ended.Given as goal

abbrev pub invariant-loop-id : goal.invariant-loop-id
invariant-loop-id g l = record {
  told : l.ended.items ++ ended_at l.id-iterator ≡ ended_at l.self;
  room : vec_capacity l.ended ≡ length (ended_at l.self);
}
