use Rattle.std.proofs.Common.{◌≡◌, drop, None}
use Rattle.tcap_invocation.proofs.FewLemmas.{first_due_from}
use Rattle.tcap_invocation.proofs.invocations.few_lapses.first_due.Given as goal

abbrev pub invariant-loop-row : goal.invariant-loop-row
invariant-loop-row l = first_due_from l.clock l.first (drop l.row-index l.rows) ≡ first_due_from l.clock None l.rows
