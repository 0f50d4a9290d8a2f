use Rattle.tcap_examples.proofs.ComponentsWork.{crossed-not-sent-from}
use Rattle.tcap_examples.proofs.statements.components.queues_that_are_crossed.Goals as goal

pub returns-clause-not_sent_from : goal.returns-clause-not_sent_from
returns-clause-not_sent_from c = crossed-not-sent-from
