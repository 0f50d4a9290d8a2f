use Rattle.tcap_examples.specs.Statements.SendingExamples.{sent_in_parts}
use Rattle.tcap_examples.proofs.SendingWorks.{parts-legal}
use Rattle.tcap_examples.proofs.statements.sending.a_dialogue_sends_in_parts.Goals as goal

pub returns-clause-in_order : goal.returns-clause-in_order
returns-clause-in_order c = c.sent_once_in_order.ensures sent_in_parts parts-legal
