use Rattle.tcap_examples.specs.Statements.SendingExamples.{begun_by_the_peer}
use Rattle.tcap_examples.proofs.SendingWorks.{answer-legal}
use Rattle.tcap_examples.proofs.statements.sending.a_dialogue_that_the_peer_begins.Goals as goal

pub returns-clause-in_order : goal.returns-clause-in_order
returns-clause-in_order c = c.sent_once_in_order.ensures begun_by_the_peer answer-legal
