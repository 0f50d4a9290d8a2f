use Rattle.tcap_examples.proofs.RepeatedBegin.{repeat-uses_once, repeat-answers, repeat-after}
use Rattle.tcap_examples.proofs.statements.two_ends.an_answer_comes_after_its_invoke.Goals as goal

pub returns-clause-uses_once : goal.returns-clause-uses_once
returns-clause-uses_once c = repeat-uses_once

pub returns-clause-answers_what_it_was_told : goal.returns-clause-answers_what_it_was_told
returns-clause-answers_what_it_was_told c = repeat-answers

pub returns-clause-after : goal.returns-clause-after
returns-clause-after c = repeat-after
