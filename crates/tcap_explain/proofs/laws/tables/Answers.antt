use Rattle.tcap_explain.proofs.ComponentAgain.{component_again}
use Rattle.tcap_explain.proofs.MessageAgain.{message_again}
use Rattle.tcap_explain.proofs.PortionAgain.{known_again, portion_again}
use Rattle.tcap_explain.proofs.laws.tables.Goals as goal

pub returns-clause-messages : goal.returns-clause-messages
returns-clause-messages c = message_again

pub returns-clause-portions : goal.returns-clause-portions
returns-clause-portions c = known_again

pub returns-clause-abort_portions : goal.returns-clause-abort_portions
returns-clause-abort_portions c = portion_again

pub returns-clause-components : goal.returns-clause-components
returns-clause-components c = component_again
