use Rattle.tcap_engine.proofs.StandingLemmas.{headline}
use Rattle.tcap_engine.proofs.laws.bound.Goals as goal

pub returns : goal.returns
returns c = λ h legal. (headline h legal).bounded
