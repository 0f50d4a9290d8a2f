use Rattle.std.proofs.Common.{◌≡◌, drop}
use Rattle.tcap_invocation.specs.Invocations.{entry_at}
use Rattle.tcap_invocation.proofs.invocations.few.get.Given as goal

abbrev pub invariant-loop-row : goal.invariant-loop-row
invariant-loop-row l = entry_at (drop l.row-index l.rows) l.id ≡ entry_at l.rows l.id
