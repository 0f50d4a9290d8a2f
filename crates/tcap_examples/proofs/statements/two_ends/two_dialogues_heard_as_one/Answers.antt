use Rattle.tcap_examples.proofs.AnswersAhead.{heard-uses_once, heard-answers}
use Rattle.tcap_examples.proofs.statements.two_ends.two_dialogues_heard_as_one.Goals as goal

pub returns-clause-uses_once : goal.returns-clause-uses_once
returns-clause-uses_once c = heard-uses_once

pub returns-clause-answers_what_it_was_told : goal.returns-clause-answers_what_it_was_told
returns-clause-answers_what_it_was_told c = heard-answers
