-- The marks of an event, by the life of the dialogue before it.
use Rattle.std.proofs.Common.{◌≡◌, ℕ, ℤ, true, false, List, [], Option, refl, ap, ◌∙◌}
use Rattle.tcap_laws.proofs.Spans.MarksAfterBirth.{noted_at_clock}
use Rattle.tcap_model.specs.Words.Answer.{Answer, is_accepted}
use Rattle.tcap_model.specs.Histories.Clock.{clock}
use Rattle.tcap_model.specs.Words.Event.{Event}
use Rattle.tcap_model.specs.Histories.Life.{Life, life, touched, life_by_event}
use Rattle.tcap_model.specs.Invocations.Marks.{Noted, marks, marks_after_birth, marks_by_event}
use Rattle.tcap_model.specs.Histories.Names.{names}
use Rattle.tcap_model.specs.Histories.Pair.{Pair, Past}
use Rattle.tcap_model.specs.Words.State.{State}

module _ (dialogue : ℕ) (id : ℤ) (event : Event) (answer : Answer) (idle_ms : ℕ) (past : Past) where
  abbrev pub now_pair : Pair
  now_pair = record { event = event; answer = answer; idle_ms = idle_ms }

  abbrev pub last : ℕ
  last = touched dialogue past

  abbrev none : List Noted
  none = []

  -- an event that doesn't name the dialogue
  pub unnamed_marks : names event dialogue ≡ false → marks dialogue id now_pair past ≡ []
  unnamed_marks e = go (life dialogue past)
    where
      go : (l : Life) → noted_at_clock (clock past) (marks_after_birth dialogue id last l now_pair) ≡ none
      go Life.unborn = refl
      go (Life.standing s c) = rw e refl
      go Life.over = rw e refl

  -- an event that names a dialogue that stands
  pub standing_marks : (s : State) (c : Option (List ℕ)) → life dialogue past ≡ Life.standing s c
      → names event dialogue ≡ true
      → marks dialogue id now_pair past ≡ noted_at_clock (clock past)
      (marks_by_event id (Life.standing s c) (life_by_event idle_ms last s c event (is_accepted answer)) event
      (is_accepted answer))
  standing_marks s c q e =
      ap (λ l. noted_at_clock (clock past) (marks_after_birth dialogue id last l now_pair)) q ∙ rw e (rw e refl)

  -- an event that names a dialogue that is over
  pub over_marks : life dialogue past ≡ Life.over → names event dialogue ≡ true
      → marks dialogue id now_pair past ≡ noted_at_clock (clock past)
      (marks_by_event id Life.over Life.over event (is_accepted answer))
  over_marks q e = ap (λ l. noted_at_clock (clock past) (marks_after_birth dialogue id last l now_pair)) q ∙ rw e refl

  -- before its birth
  pub unborn_marks : life dialogue past ≡ Life.unborn → marks dialogue id now_pair past ≡ []
  unborn_marks q = ap (λ l. noted_at_clock (clock past) (marks_after_birth dialogue id last l now_pair)) q
