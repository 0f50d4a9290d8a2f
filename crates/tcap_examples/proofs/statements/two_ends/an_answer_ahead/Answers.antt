use Rattle.tcap_examples.proofs.AnswersAhead.{ahead-uses_once}
use Rattle.tcap_examples.proofs.statements.two_ends.an_answer_ahead.Goals as goal

pub returns-clause-uses_once : goal.returns-clause-uses_once
returns-clause-uses_once c = ahead-uses_once
