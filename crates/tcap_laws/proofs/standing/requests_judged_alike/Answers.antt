use Rattle.tcap_laws.proofs.Table.RequestsJudgedAlike.{situation-agrees, due-agrees, refused-agrees}
use Rattle.tcap_laws.proofs.standing.requests_judged_alike.Goals as goal

pub returns-clause-situation : goal.returns-clause-situation
returns-clause-situation c = situation-agrees

pub returns-clause-due : goal.returns-clause-due
returns-clause-due c = due-agrees

pub returns-clause-refused : goal.returns-clause-refused
returns-clause-refused c = refused-agrees
