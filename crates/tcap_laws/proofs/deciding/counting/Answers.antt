use Rattle.tcap_laws.proofs.Decisions.CountedHistories.{counted}
use Rattle.tcap_laws.proofs.deciding.counting.Goals as goal

pub returns : goal.returns
returns c = λ h n legal. counted h n legal.1
