use Rattle.tcap_examples.proofs.SendingBroken.{twice-sent_from, twice-not_in_order}
use Rattle.tcap_examples.proofs.statements.sending.an_invoke_that_is_sent_twice.Goals as goal

pub returns-clause-from_its_dialogue : goal.returns-clause-from_its_dialogue
returns-clause-from_its_dialogue c = twice-sent_from

pub returns-clause-not_in_order : goal.returns-clause-not_in_order
returns-clause-not_in_order c = twice-not_in_order
