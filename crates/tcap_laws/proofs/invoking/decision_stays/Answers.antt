use Rattle.tcap_laws.proofs.Spans.DecisionSteps.{invocation_stays, outcome_stays, decision_stays}
use Rattle.tcap_laws.proofs.invoking.decision_stays.Goals as goal

pub returns-clause-invoked : goal.returns-clause-invoked
returns-clause-invoked c = invocation_stays

pub returns-clause-outcome : goal.returns-clause-outcome
returns-clause-outcome c = outcome_stays

pub returns-clause-decision : goal.returns-clause-decision
returns-clause-decision c = decision_stays
