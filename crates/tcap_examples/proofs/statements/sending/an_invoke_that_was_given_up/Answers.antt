use Rattle.tcap_examples.proofs.SendingBroken.{given_up-sent_from, given_up-not_in_order}
use Rattle.tcap_examples.proofs.statements.sending.an_invoke_that_was_given_up.Goals as goal

pub returns-clause-from_its_dialogue : goal.returns-clause-from_its_dialogue
returns-clause-from_its_dialogue c = given_up-sent_from

pub returns-clause-not_in_order : goal.returns-clause-not_in_order
returns-clause-not_in_order c = given_up-not_in_order
