use Rattle.tcap_laws.proofs.Decisions.DecidedHistories.{closings_are}
use Rattle.tcap_laws.proofs.Decisions.DecidedOutcomes.{plainly_decided}
use Rattle.tcap_laws.proofs.deciding.decided.Goals as goal

pub returns-clause-as_decided : goal.returns-clause-as_decided
returns-clause-as_decided c = λ h n legal. closings_are h.start h.pairs n legal.1

pub returns-clause-plainly : goal.returns-clause-plainly
returns-clause-plainly c = λ h n legal. plainly_decided h n legal
