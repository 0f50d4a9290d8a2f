use Rattle.tcap_examples.proofs.ComponentsBroken.{misread-not_told_from}
use Rattle.tcap_examples.proofs.statements.components.an_invoke_that_is_misread.Goals as goal

pub returns-clause-not_told_from : goal.returns-clause-not_told_from
returns-clause-not_told_from c = misread-not_told_from
