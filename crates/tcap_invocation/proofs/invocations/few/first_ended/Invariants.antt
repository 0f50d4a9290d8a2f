use Rattle.std.proofs.Common.{◌≡◌, drop}
use Rattle.tcap_invocation.specs.Closing.{ended_at}
use Rattle.tcap_invocation.proofs.invocations.few.first_ended.Given as goal

abbrev pub invariant-loop-row : goal.invariant-loop-row
invariant-loop-row l = ended_at (drop l.row-index l.rows) ≡ ended_at l.rows
