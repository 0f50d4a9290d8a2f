-- Isolation on histories in which dialogues stay idle too long.
use Rattle.std.specs.Prelude.{◌≢◌, refl}
use Rattle.tcap_examples.proofs.Apart.{apart, answer_number}
use Rattle.tcap_examples.specs.Computing.{computing}
use Rattle.tcap_examples.specs.Histories.IdleLimit.{idle_start}
use Rattle.tcap_examples.specs.Statements.IdleExamples.{before_the_last, both_end, both_idle, lapsed_in_the_other}
use Rattle.tcap_examples.specs.Statements.IsolationExamples.{IsAloneThroughout}
use Rattle.tcap_model.specs.Replies.Reply.{reply}
use Rattle.tcap_model.specs.Words.Answer.{Answer}
use Rattle.tcap_model.specs.Words.Fault.{Fault}

pub both-left : reply (before_the_last both_idle) both_end ≢ Answer.refused Fault.numbers_spent
unfolding computing
both-left same = apart answer_number same refl

pub first-both_idle : IsAloneThroughout 1 idle_start both_idle.pairs
unfolding computing
first-both_idle = (refl, (refl, (refl, (tt, (tt, (tt, tt))))))

pub second-both_idle : IsAloneThroughout 2 idle_start both_idle.pairs
unfolding computing
second-both_idle = (refl, (tt, (refl, (refl, (tt, (tt, tt))))))

pub first-lapsed : IsAloneThroughout 1 idle_start lapsed_in_the_other.pairs
unfolding computing
first-lapsed = (refl, (refl, (tt, (tt, (tt, (refl, (refl, (tt, tt))))))))

pub second-lapsed : IsAloneThroughout 2 idle_start lapsed_in_the_other.pairs
unfolding computing
second-lapsed = (refl, (refl, (refl, (refl, (tt, (refl, (tt, (tt, tt))))))))

-- What the tests state.
pub ruleset idle_alone = (both-left, first-both_idle, second-both_idle, first-lapsed, second-lapsed)
