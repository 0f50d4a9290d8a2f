use Rattle.tcap_laws.proofs.Spans.EarlierMoments.{clock_still, life_still, invocations_still, outcome_still, decision_still, deadline_still, held_still}
use Rattle.tcap_laws.proofs.invoking.earlier_moment_does_nothing.Goals as goal

pub returns-clause-clock : goal.returns-clause-clock
returns-clause-clock c = clock_still

pub returns-clause-life : goal.returns-clause-life
returns-clause-life c = life_still

pub returns-clause-invocations : goal.returns-clause-invocations
returns-clause-invocations c = invocations_still

pub returns-clause-outcome : goal.returns-clause-outcome
returns-clause-outcome c = outcome_still

pub returns-clause-decision : goal.returns-clause-decision
returns-clause-decision c = decision_still

pub returns-clause-deadline : goal.returns-clause-deadline
returns-clause-deadline c = deadline_still

pub returns-clause-held : goal.returns-clause-held
returns-clause-held c = held_still
