use Rattle.tcap_examples.specs.Statements.SendingExamples.{up_to_the_continue}
use Rattle.tcap_examples.proofs.SendingWorks.{waiting-legal}
use Rattle.tcap_examples.proofs.statements.sending.what_waits_is_unsent.Goals as goal

pub returns-clause-same : goal.returns-clause-same
returns-clause-same c = c.queue_is_unsent.ensures up_to_the_continue waiting-legal
