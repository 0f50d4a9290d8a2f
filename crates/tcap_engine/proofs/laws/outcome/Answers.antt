use Rattle.tcap_engine.proofs.StandingLemmas.{headline}
use Rattle.tcap_engine.proofs.laws.outcome.Goals as goal

pub returns : goal.returns
returns c = λ h n legal. (headline h legal).outcome n
