use Rattle.tcap_laws.proofs.Births.DrawnNumbers.{reply-numbered, number-next, numbers-drawn, numbers-rise, numbers-invocations}
use Rattle.tcap_laws.proofs.Births.NumbersFound.{invocation_of-found, numbers-below}
use Rattle.tcap_laws.proofs.Births.StartCounters.{start_number-within}
use Rattle.tcap_laws.proofs.drawing.number_is_drawn_once.Goals as goal

pub returns-clause-to_invoke : goal.returns-clause-to_invoke
returns-clause-to_invoke c = λ h event. (reply-numbered h event).0

pub returns-clause-next : goal.returns-clause-next
returns-clause-next c = number-next

pub returns-clause-drawn : goal.returns-clause-drawn
returns-clause-drawn c = λ h legal. numbers-drawn h.start h.pairs legal.1

pub returns-clause-rising : goal.returns-clause-rising
returns-clause-rising c = λ h legal. numbers-rise h.start h.pairs legal.1

pub returns-clause-of_invocations : goal.returns-clause-of_invocations
returns-clause-of_invocations c = λ h legal. numbers-invocations h.start h.pairs legal.1

pub returns-clause-found : goal.returns-clause-found
returns-clause-found c = λ h legal. invocation_of-found h.start h.pairs legal.1

pub returns-clause-within : goal.returns-clause-within
returns-clause-within c = λ h legal. numbers-below h.start h.pairs legal.1 (start_number-within h.start legal.0)
