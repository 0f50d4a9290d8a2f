use Rattle.tcap_laws.proofs.Spans.SpanSteps.{span_new, span_grows, span_stays, reused_new, reused_step}
use Rattle.tcap_laws.proofs.invoking.span_steps.Goals as goal

pub returns-clause-begins : goal.returns-clause-begins
returns-clause-begins c = span_new

pub returns-clause-unused : goal.returns-clause-unused
returns-clause-unused c = reused_new

pub returns-clause-used : goal.returns-clause-used
returns-clause-used c = reused_step

pub returns-clause-grows : goal.returns-clause-grows
returns-clause-grows c = span_grows

pub returns-clause-stays : goal.returns-clause-stays
returns-clause-stays c = span_stays
