use Rattle.std.proofs.Common.{◌≡◌, ◌+◌, ◌≤◌, drop, length}
use Rattle.tcap_invocation.specs.Closing.{ended_at}
use Rattle.tcap_invocation.proofs.invocations.few.ended_count.Given as goal

abbrev pub invariant-loop-row : goal.invariant-loop-row
invariant-loop-row l = record {
  ended : l.count + length (ended_at (drop l.row-index l.rows)) ≡ length (ended_at l.rows);
  bound : l.count ≤ l.row-index;
}
