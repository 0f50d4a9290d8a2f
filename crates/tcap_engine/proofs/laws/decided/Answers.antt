use Rattle.tcap_engine.proofs.StandingLemmas.{headline}
use Rattle.tcap_engine.proofs.laws.decided.Goals as goal

pub returns-clause-as_decided : goal.returns-clause-as_decided
returns-clause-as_decided c = λ h n legal. (headline h legal).decided n

pub returns-clause-plainly : goal.returns-clause-plainly
returns-clause-plainly c = λ h n legal. (headline h legal).plainly n
