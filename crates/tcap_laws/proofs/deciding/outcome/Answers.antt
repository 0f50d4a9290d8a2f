use Rattle.tcap_laws.proofs.Decisions.DecidedOutcomes.{outcome_told}
use Rattle.tcap_laws.proofs.deciding.outcome.Goals as goal

pub returns : goal.returns
returns c = λ h n legal i found. outcome_told h.start h.pairs n i legal.1 found
