use Rattle.std.proofs.Common.{◌≡◌, ◌++◌, drop, length, vec_capacity}
use Rattle.tcap_invocation.specs.Closing.{ended_at}
use Rattle.tcap_invocation.proofs.invocations.few.ended.Given as goal

abbrev pub invariant-loop-row : goal.invariant-loop-row
invariant-loop-row g l = record {
  told : l.ended.items ++ ended_at (drop l.row-index l.rows) ≡ ended_at l.rows;
  room : vec_capacity l.ended ≡ length (ended_at l.rows);
}
