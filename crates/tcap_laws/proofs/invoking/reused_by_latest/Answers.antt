use Rattle.tcap_laws.proofs.Spans.SupersededInvocations.{reused_of_number}
use Rattle.tcap_laws.proofs.invoking.reused_by_latest.Goals as goal

pub returns : goal.returns
returns c = λ h n i legal found. reused_of_number h.start h.pairs n i legal.1 found
