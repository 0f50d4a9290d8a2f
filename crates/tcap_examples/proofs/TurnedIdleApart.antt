-- Moves with one rule of the idle limit turned aren't the engine's.
use Rattle.std.specs.Prelude.{ℕ, sum_by, refl}
use Rattle.tcap_examples.proofs.Apart.{answer_number, apart, first_number}
use Rattle.tcap_examples.specs.Computing.{computing}
use Rattle.tcap_examples.specs.Wrong.TurnedIdle.{IdleBeforeLapsesShows, IdleByDialogueShows, JudgingReceivedShows}
use Rattle.tcap_examples.specs.Wrong.TurnedIdle.{PastTheDeadlineShows, PastTheLimitShows, RenewingShows}
use Rattle.tcap_examples.specs.Wrong.TurnedIdle.{SendingAbortsShows}
use Rattle.tcap_model.specs.Table.Dialogue.{Dialogue}
use Rattle.tcap_model.specs.Table.EngineMove.{EngineMoved}

abbrev told : EngineMoved → ℕ
told m = answer_number m.answer

abbrev first_told : EngineMoved → ℕ
first_told m = first_number m.answer

abbrev when_touched : EngineMoved → ℕ
when_touched m = sum_by (λ (d : Dialogue). d.touched) m.after.dialogues

pub past_the_deadline_shows : PastTheDeadlineShows
unfolding computing
past_the_deadline_shows = record { is_right = refl; is_turned = λ same. apart told same refl }

pub idle_before_lapses_shows : IdleBeforeLapsesShows
unfolding computing
idle_before_lapses_shows = record { is_right = refl; is_turned = λ same. apart first_told same refl }

pub idle_by_dialogue_shows : IdleByDialogueShows
unfolding computing
idle_by_dialogue_shows = record { is_right = refl; is_turned = λ same. apart first_told same refl }

pub sending_aborts_shows : SendingAbortsShows
unfolding computing
sending_aborts_shows = record { is_right = refl; is_turned = λ same. apart told same refl }

pub judging_received_shows : JudgingReceivedShows
unfolding computing
judging_received_shows = record { is_right = refl; is_turned = λ same. apart told same refl }

pub past_the_limit_shows : PastTheLimitShows
unfolding computing
past_the_limit_shows = record { is_right = refl; is_turned = λ same. apart told same refl }

pub renewing_shows : RenewingShows
unfolding computing
renewing_shows = record { is_right = refl; is_turned = λ same. apart when_touched same refl }

-- What the examples cite.
pub ruleset turned_idle_shown = (
  past_the_deadline_shows,
  idle_before_lapses_shows,
  idle_by_dialogue_shows,
  sending_aborts_shows,
  judging_received_shows,
  past_the_limit_shows,
  renewing_shows,
)
