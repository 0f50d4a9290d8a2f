use Rattle.tcap_examples.proofs.AnswersAhead.{again-answers, again-used_twice}
use Rattle.tcap_examples.proofs.statements.two_ends.an_identifier_used_again.Goals as goal

pub returns-clause-answers_what_it_was_told : goal.returns-clause-answers_what_it_was_told
returns-clause-answers_what_it_was_told c = again-answers

pub returns-clause-used_twice : goal.returns-clause-used_twice
returns-clause-used_twice c = again-used_twice
