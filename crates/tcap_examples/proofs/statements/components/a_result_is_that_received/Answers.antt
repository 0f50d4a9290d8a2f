use Rattle.tcap_examples.proofs.ComponentsWork.{past-told-from}
use Rattle.tcap_examples.proofs.statements.components.a_result_is_that_received.Goals as goal

pub returns-clause-all : goal.returns-clause-all
returns-clause-all c = past-told-from
