use Rattle.tcap_laws.proofs.Table.LastAnswersAlike.{request-agrees}
use Rattle.tcap_laws.proofs.Table.RequestsJudgedAlike.{answer-agrees}
use Rattle.tcap_laws.proofs.standing.requests_answered_alike.Goals as goal

pub returns-clause-standing : goal.returns-clause-standing
returns-clause-standing c = answer-agrees

pub returns-clause-legal : goal.returns-clause-legal
returns-clause-legal c h dialogue d request legal = request-agrees h dialogue legal d request
