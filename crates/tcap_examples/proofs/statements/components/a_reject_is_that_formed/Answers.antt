use Rattle.tcap_examples.proofs.ComponentsSent.{past-sent-from}
use Rattle.tcap_examples.proofs.statements.components.a_reject_is_that_formed.Goals as goal

pub returns-clause-all : goal.returns-clause-all
returns-clause-all c = past-sent-from
