-- The histories with a wrong answer aren't legal; those with a wrong end don't tell what was decided.
use Rattle.std.specs.Prelude.{refl}
use Rattle.tcap_examples.proofs.LegalHistories.{goes_wrong}
use Rattle.tcap_examples.proofs.Apart.{apart, told_number}
use Rattle.tcap_examples.specs.Computing.{computing}
use Rattle.tcap_examples.specs.Wrong.WrongHistories.{GoesWrong, TellsWrong, TellsElsewhere, whole}
use Rattle.tcap_examples.specs.Wrong.WrongAnswers as answers
use Rattle.tcap_examples.specs.Wrong.WrongEnds as ends

-- ---- wrong answers

pub components_after_a_fault : GoesWrong answers.components_after_a_fault
unfolding computing
components_after_a_fault = goes_wrong answers.components_after_a_fault refl refl refl refl refl

pub identifier_freed_early : GoesWrong answers.identifier_freed_early
unfolding computing
identifier_freed_early = goes_wrong answers.identifier_freed_early refl refl refl refl refl

pub clock_set_back : GoesWrong answers.clock_set_back
unfolding computing
clock_set_back = goes_wrong answers.clock_set_back refl refl refl refl refl

pub moving_peer : GoesWrong answers.moving_peer
unfolding computing
moving_peer = goes_wrong answers.moving_peer refl refl refl refl refl

pub recognised_begin : GoesWrong answers.recognised_begin
unfolding computing
recognised_begin = goes_wrong answers.recognised_begin refl refl refl refl refl

pub reused_dialogue_identifier : GoesWrong answers.reused_dialogue_identifier
unfolding computing
reused_dialogue_identifier = goes_wrong answers.reused_dialogue_identifier refl refl refl refl refl

pub everything_wrong_state : GoesWrong answers.everything_wrong_state
unfolding computing
everything_wrong_state = goes_wrong answers.everything_wrong_state refl refl refl refl refl

pub drops_every_message : GoesWrong answers.drops_every_message
unfolding computing
drops_every_message = goes_wrong answers.drops_every_message refl refl refl refl refl

pub fault_answered_to_the_peer : GoesWrong answers.fault_answered_to_the_peer
unfolding computing
fault_answered_to_the_peer = goes_wrong answers.fault_answered_to_the_peer refl refl refl refl refl

pub faulty_end_answered : GoesWrong answers.faulty_end_answered
unfolding computing
faulty_end_answered = goes_wrong answers.faulty_end_answered refl refl refl refl refl

-- All of them.
pub ruleset wrong_answers_given = (
  components_after_a_fault,
  identifier_freed_early,
  clock_set_back,
  moving_peer,
  recognised_begin,
  reused_dialogue_identifier,
  everything_wrong_state,
  drops_every_message,
  fault_answered_to_the_peer,
  faulty_end_answered,
)

-- ---- wrong ends

pub double_result : GoesWrong ends.double_result
unfolding computing
double_result = goes_wrong ends.double_result refl refl refl refl refl

pub double_result-told : TellsWrong 1 (whole ends.double_result)
unfolding computing
double_result-told = λ h. apart told_number h refl

pub stale_timer : GoesWrong ends.stale_timer
unfolding computing
stale_timer = goes_wrong ends.stale_timer refl refl refl refl refl

pub stale_timer-told : TellsWrong 1 (whole ends.stale_timer)
unfolding computing
stale_timer-told = λ h. apart told_number h refl

pub empty_result_at_a_lapse : GoesWrong ends.empty_result_at_a_lapse
unfolding computing
empty_result_at_a_lapse = goes_wrong ends.empty_result_at_a_lapse refl refl refl refl refl

pub empty_result_at_a_lapse-told : TellsWrong 1 (whole ends.empty_result_at_a_lapse)
unfolding computing
empty_result_at_a_lapse-told = λ h. apart told_number h refl

pub ended_at_once : GoesWrong ends.ended_at_once
unfolding computing
ended_at_once = goes_wrong ends.ended_at_once refl refl refl refl refl

pub ended_at_once-told : TellsWrong 1 (whole ends.ended_at_once)
unfolding computing
ended_at_once-told = λ h. apart told_number h refl

pub lapse_by_identifier : GoesWrong ends.lapse_by_identifier
unfolding computing
lapse_by_identifier = goes_wrong ends.lapse_by_identifier refl refl refl refl refl

pub lapse_by_identifier-told : TellsWrong 2 (whole ends.lapse_by_identifier)
unfolding computing
lapse_by_identifier-told = λ h. apart told_number h refl

pub end_before_components : GoesWrong ends.end_before_components
unfolding computing
end_before_components = goes_wrong ends.end_before_components refl refl refl refl refl

pub end_before_components-told : TellsWrong 1 (whole ends.end_before_components)
unfolding computing
end_before_components-told = λ h. apart told_number h refl

pub class_two_result : GoesWrong ends.class_two_result
unfolding computing
class_two_result = goes_wrong ends.class_two_result refl refl refl refl refl

pub class_two_result-told : TellsWrong 1 (whole ends.class_two_result)
unfolding computing
class_two_result-told = λ h. apart told_number h refl

pub class_two_part : GoesWrong ends.class_two_part
unfolding computing
class_two_part = goes_wrong ends.class_two_part refl refl refl refl refl

pub class_two_part-told : TellsWrong 1 (whole ends.class_two_part)
unfolding computing
class_two_part-told = λ h. apart told_number h refl

pub class_three_error : GoesWrong ends.class_three_error
unfolding computing
class_three_error = goes_wrong ends.class_three_error refl refl refl refl refl

pub class_three_error-told : TellsWrong 1 (whole ends.class_three_error)
unfolding computing
class_three_error-told = λ h. apart told_number h refl

pub reject_of_a_result_closes : GoesWrong ends.reject_of_a_result_closes
unfolding computing
reject_of_a_result_closes = goes_wrong ends.reject_of_a_result_closes refl refl refl refl refl

pub reject_of_a_result_closes-told : TellsWrong 1 (whole ends.reject_of_a_result_closes)
unfolding computing
reject_of_a_result_closes-told = λ h. apart told_number h refl

pub result_told_late : TellsElsewhere 1 ends.result_told_late
unfolding computing
result_told_late = record { is_outcome = refl; tells_wrong = λ h. apart told_number h refl }

pub lapse_told_late : TellsElsewhere 1 ends.lapse_told_late
unfolding computing
lapse_told_late = record { is_outcome = refl; tells_wrong = λ h. apart told_number h refl }

-- All of them.
pub ruleset wrong_ends_told = (
  double_result,
  double_result-told,
  stale_timer,
  stale_timer-told,
  empty_result_at_a_lapse,
  empty_result_at_a_lapse-told,
  ended_at_once,
  ended_at_once-told,
  lapse_by_identifier,
  lapse_by_identifier-told,
  end_before_components,
  end_before_components-told,
  class_two_result,
  class_two_result-told,
  class_two_part,
  class_two_part-told,
  class_three_error,
  class_three_error-told,
  reject_of_a_result_closes,
  reject_of_a_result_closes-told,
  result_told_late,
  lapse_told_late,
)
