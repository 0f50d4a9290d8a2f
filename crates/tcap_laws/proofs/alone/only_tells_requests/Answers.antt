use Rattle.tcap_laws.proofs.Isolation.SeenRequests.{only_ended, only_due, alone_request}
use Rattle.tcap_laws.proofs.alone.only_tells_requests.Goals as goal

pub returns-clause-ended : goal.returns-clause-ended
returns-clause-ended c = λ h dialogue items legal. only_ended h.start dialogue h.pairs legal.1 items

pub returns-clause-due : goal.returns-clause-due
returns-clause-due c = λ h dialogue request legal not. only_due h dialogue legal request not

pub returns-clause-answer : goal.returns-clause-answer
returns-clause-answer c = λ h dialogue request legal not. alone_request h dialogue legal request not
