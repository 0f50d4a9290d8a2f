use Rattle.tcap_examples.proofs.ComponentsWork.{begin-told}
use Rattle.tcap_examples.proofs.statements.components.an_invoke_is_that_received.Goals as goal

pub returns-clause-all : goal.returns-clause-all
returns-clause-all c = begin-told
