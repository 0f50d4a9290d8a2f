use Rattle.std.proofs.Common.{◌≡◌, ◌++◌, drop, length, vec_capacity}
use Rattle.tcap_invocation.specs.Lapses.{due_at}
use Rattle.tcap_invocation.proofs.invocations.few_lapses.due.Given as goal

abbrev pub invariant-loop-row : goal.invariant-loop-row
invariant-loop-row g l = record {
  told : l.lapses.items ++ due_at l.clock (drop l.row-index l.rows) ≡ due_at l.clock l.rows;
  room : vec_capacity l.lapses ≡ length (due_at l.clock l.rows);
}
