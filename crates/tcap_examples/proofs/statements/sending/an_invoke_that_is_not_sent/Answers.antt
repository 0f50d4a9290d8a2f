use Rattle.tcap_examples.proofs.SendingBroken.{missing-not_in_order}
use Rattle.tcap_examples.proofs.statements.sending.an_invoke_that_is_not_sent.Goals as goal

pub returns-clause-not_in_order : goal.returns-clause-not_in_order
returns-clause-not_in_order c = missing-not_in_order
