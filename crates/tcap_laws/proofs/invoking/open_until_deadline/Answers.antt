use Rattle.tcap_laws.proofs.Decisions.CountedHistories.{open_before}
use Rattle.tcap_laws.proofs.Spans.SentClocks.{deadline_within}
use Rattle.tcap_laws.proofs.invoking.open_until_deadline.Goals as goal

pub returns-clause-within : goal.returns-clause-within
returns-clause-within c = deadline_within

pub returns-clause-before : goal.returns-clause-before
returns-clause-before c = λ h n i until legal found none at. open_before h.start h.pairs n legal.1 i until found none at
