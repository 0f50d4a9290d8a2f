use Rattle.std.proofs.Common.{◌≡◌, drop, None}
use Rattle.tcap_invocation.proofs.FewLemmas.{least_from}
use Rattle.tcap_invocation.proofs.invocations.lapse.next_timer_of.Given as goal

abbrev pub invariant-loop-row : goal.invariant-loop-row
invariant-loop-row l = least_from l.least (drop l.row-index l.rows) ≡ least_from None l.rows
