use Rattle.tcap_laws.proofs.Spans.SupersededInvocations.{decided_if_superseded, decided_if_reused, latest_if_open}
use Rattle.tcap_laws.proofs.invoking.superseded_is_decided.Goals as goal

pub returns-clause-superseded : goal.returns-clause-superseded
returns-clause-superseded c = λ h n i legal found e. decided_if_superseded h.start h.pairs n i legal.1 found e

pub returns-clause-reused : goal.returns-clause-reused
returns-clause-reused c = λ h n i legal found e. decided_if_reused h.start h.pairs n i legal.1 found e

pub returns-clause-current : goal.returns-clause-current
returns-clause-current c = λ h n i legal found e. latest_if_open h.start h.pairs n i legal.1 found e
