use Rattle.tcap_examples.proofs.SendingBroken.{swapped-sent_from, swapped-not_in_order}
use Rattle.tcap_examples.proofs.statements.sending.invokes_that_are_swapped.Goals as goal

pub returns-clause-from_its_dialogue : goal.returns-clause-from_its_dialogue
returns-clause-from_its_dialogue c = swapped-sent_from

pub returns-clause-not_in_order : goal.returns-clause-not_in_order
returns-clause-not_in_order c = swapped-not_in_order
