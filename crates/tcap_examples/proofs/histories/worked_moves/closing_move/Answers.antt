use Rattle.std.proofs.Common.{refl}
use Rattle.tcap_examples.specs.Computing.{computing}
use Rattle.tcap_examples.proofs.histories.worked_moves.closing_move.Goals as goal

pub returns-clause-each_answer_of_each_class : goal.returns-clause-each_answer_of_each_class
unfolding computing
returns-clause-each_answer_of_each_class c =
    (refl, (refl, (refl, (refl, (refl, (refl, (refl, (refl, (refl, (refl, (refl, (refl, (refl, (refl, (refl, (refl, tt))))))))))))))))
