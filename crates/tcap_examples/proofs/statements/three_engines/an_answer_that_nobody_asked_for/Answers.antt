use Rattle.tcap_examples.proofs.ThreeEngines.{three-from-asked}
use Rattle.tcap_examples.proofs.statements.three_engines.an_answer_that_nobody_asked_for.Goals as goal

pub returns-clause-asked : goal.returns-clause-asked
returns-clause-asked c = three-from-asked
