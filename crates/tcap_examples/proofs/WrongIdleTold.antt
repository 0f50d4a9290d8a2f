-- Histories in which dialogues that were idle too long are judged or told wrongly aren't legal.
use Rattle.std.specs.Prelude.{refl}
use Rattle.tcap_examples.proofs.Apart.{apart, first_number, told_number}
use Rattle.tcap_examples.proofs.LegalHistories.{goes_wrong, goes_wrong_by}
use Rattle.tcap_examples.specs.Computing.{computing}
use Rattle.tcap_examples.specs.Wrong.WrongHistories.{GoesWrong, TellsWrong, whole}
use Rattle.tcap_examples.specs.Wrong.WrongIdle as wrong

pub ended_past_the_deadline : GoesWrong wrong.ended_past_the_deadline
unfolding computing
ended_past_the_deadline = goes_wrong wrong.ended_past_the_deadline refl refl refl refl refl

pub ended_past_the_deadline-told : TellsWrong 1 (whole wrong.ended_past_the_deadline)
unfolding computing
ended_past_the_deadline-told = λ h. apart told_number h refl

pub idle_ends_before_lapses : GoesWrong wrong.idle_ends_before_lapses
unfolding computing
idle_ends_before_lapses = goes_wrong_by first_number wrong.idle_ends_before_lapses refl refl refl refl refl

pub judged_in_received : GoesWrong wrong.judged_in_received
unfolding computing
judged_in_received = goes_wrong wrong.judged_in_received refl refl refl refl refl

pub judged_before_the_begin : GoesWrong wrong.judged_before_the_begin
unfolding computing
judged_before_the_begin = goes_wrong wrong.judged_before_the_begin refl refl refl refl refl

pub renewed_by_an_invoke : GoesWrong wrong.renewed_by_an_invoke
unfolding computing
renewed_by_an_invoke = goes_wrong wrong.renewed_by_an_invoke refl refl refl refl refl

pub renewed_by_an_invoke-told : TellsWrong 1 (whole wrong.renewed_by_an_invoke)
unfolding computing
renewed_by_an_invoke-told = λ h. apart told_number h refl

pub not_renewed_by_a_continue : GoesWrong wrong.not_renewed_by_a_continue
unfolding computing
not_renewed_by_a_continue = goes_wrong wrong.not_renewed_by_a_continue refl refl refl refl refl

pub not_renewed_by_a_continue-told : TellsWrong 1 (whole wrong.not_renewed_by_a_continue)
unfolding computing
not_renewed_by_a_continue-told = λ h. apart told_number h refl

pub a_message_is_sent : GoesWrong wrong.a_message_is_sent
unfolding computing
a_message_is_sent = goes_wrong wrong.a_message_is_sent refl refl refl refl refl

pub order_by_dialogue_alone : GoesWrong wrong.order_by_dialogue_alone
unfolding computing
order_by_dialogue_alone = goes_wrong_by first_number wrong.order_by_dialogue_alone refl refl refl refl refl

pub over_past_the_limit : GoesWrong wrong.over_past_the_limit
unfolding computing
over_past_the_limit = goes_wrong wrong.over_past_the_limit refl refl refl refl refl

pub over_past_the_limit-told : TellsWrong 1 (whole wrong.over_past_the_limit)
unfolding computing
over_past_the_limit-told = λ h. apart told_number h refl

-- All of them.
pub ruleset wrong_idle_told = (
  ended_past_the_deadline,
  ended_past_the_deadline-told,
  idle_ends_before_lapses,
  judged_in_received,
  judged_before_the_begin,
  renewed_by_an_invoke,
  renewed_by_an_invoke-told,
  not_renewed_by_a_continue,
  not_renewed_by_a_continue-told,
  a_message_is_sent,
  order_by_dialogue_alone,
  over_past_the_limit,
  over_past_the_limit-told,
)
