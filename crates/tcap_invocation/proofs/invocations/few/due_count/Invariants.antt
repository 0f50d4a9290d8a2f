use Rattle.std.proofs.Common.{◌≡◌, ◌+◌, ◌≤◌, drop, length}
use Rattle.tcap_invocation.specs.Lapses.{due_at}
use Rattle.tcap_invocation.proofs.invocations.few.due_count.Given as goal

abbrev pub invariant-loop-row : goal.invariant-loop-row
invariant-loop-row l = record {
  due : l.count + length (due_at l.clock (drop l.row-index l.rows)) ≡ length (due_at l.clock l.rows);
  bound : l.count ≤ l.row-index;
}
