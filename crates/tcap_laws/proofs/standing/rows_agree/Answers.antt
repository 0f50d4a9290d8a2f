use Rattle.tcap_laws.proofs.Rows.IdentifiersInRows.{in_use-rows, pending-rows}
use Rattle.tcap_laws.proofs.standing.rows_agree.Goals as goal

pub returns-clause-in_use : goal.returns-clause-in_use
returns-clause-in_use c = in_use-rows

pub returns-clause-pending : goal.returns-clause-pending
returns-clause-pending c = pending-rows
