-- A request on a dialogue moves the engine as the history says.
use Rattle.std.proofs.Common.{◌≡◌, ℕ, ◌+◌, Bool, true, false, cond, nat_eq, is_some, Option, Some, None, filter_map}
use Rattle.std.proofs.Common.{refl, sym, ap, ◌∙◌, arith}
use Rattle.std.proofs.lemmas.Bool.{eqb-true}
use Rattle.std.specs.Prelude.{option_map}
use Rattle.tcap_laws.proofs.Births.DrawnNumbers.{reply-numbered}
use Rattle.tcap_laws.proofs.Engine.DialoguesFound.{own-at, looked-up}
use Rattle.tcap_laws.proofs.Engine.TableLookup.{one-changes}
use Rattle.tcap_laws.proofs.Engine.WorldAfter.{before, later, each-stays, world-made, moved-made, next-kept}
use Rattle.tcap_laws.proofs.Engine.WorldAfter.{dialogues-kept, world-stays}
use Rattle.tcap_laws.proofs.Table.LastAnswersAlike.{request-agrees}
use Rattle.tcap_laws.proofs.Table.OtherDialogues.{unnamed-stays}
use Rattle.tcap_laws.proofs.Table.RequestsMovedAlike.{request-moves}
use Rattle.tcap_model.specs.Histories.Birth.{dialogues, next_dialogue}
use Rattle.tcap_model.specs.Histories.Clock.{clock}
use Rattle.tcap_model.specs.Histories.History.{History}
use Rattle.tcap_model.specs.Histories.Life.{Life, life}
use Rattle.tcap_model.specs.Invocations.Invocation.{Invocation, invokes, invoked_of, next_number}
use Rattle.tcap_model.specs.Invocations.Numbers.{number_of}
use Rattle.tcap_model.specs.Replies.Due.{due_by}
use Rattle.tcap_model.specs.Replies.Legal.{IsLegal}
use Rattle.tcap_model.specs.Replies.Reply.{request_answer, reply}
use Rattle.tcap_model.specs.Statements.EngineMoves.{with_pair, moved_at}
use Rattle.tcap_model.specs.Table.Agreement.{setting_at}
use Rattle.tcap_model.specs.Table.Dialogue.{Dialogue}
use Rattle.tcap_model.specs.Table.EngineMove.{dialogue_in, moved_in, number_after, requested_in, with_dialogue}
use Rattle.tcap_model.specs.Table.TableMove.{DialogueEvent, Moved, table_move, left_standing}
use Rattle.tcap_model.specs.Table.World.{dialogue_by, world_of}
use Rattle.tcap_model.specs.Words.Answer.{Answer}
use Rattle.tcap_model.specs.Words.Event.{Event}
use Rattle.tcap_model.specs.Words.Fault.{Fault}
use Rattle.tcap_model.specs.Words.InRange.{InRange}
use Rattle.tcap_model.specs.Words.Request.{Request}

-- ---- the counter of invocations

number-counted : (start invoked : ℕ) (a : Answer)
    → number_after a (start + invoked) ≡ start + cond (is_some (number_of a)) (invoked + 1) invoked
number-counted start invoked (Answer.number n) = omega arith
number-counted start invoked (Answer.new_dialogue d) = refl
number-counted start invoked Answer.done = refl
number-counted start invoked (Answer.given_up n) = refl
number-counted start invoked (Answer.outputs os) = refl
number-counted start invoked (Answer.refused f) = refl

same_some : {X Y : Type 0} (f : X → Y) (o : Option X) → is_some (option_map f o) ≡ is_some o
same_some f None = refl
same_some f (Some x) = refl

pub number-follows : (h : History) (event : Event)
    → number_after (reply h event) (next_number h) ≡ next_number (with_pair h event)
number-follows h event =
    number-counted h.start.next_number (invokes h.pairs) (reply h event)
    ∙ ap (λ b. h.start.next_number + cond b (invokes h.pairs + 1) (invokes h.pairs))
    (ap is_some (reply-numbered h event).0
    ∙ same_some (λ (i : Invocation). i.number) (invoked_of event (reply h event)))

-- ---- one dialogue moves

module _ (h : History) (event : Event) (dialogue : ℕ) (d : Dialogue) (there : before h event dialogue ≡ Some d)
    (m : Moved) where
  -- the answer, the dialogue itself and all others make the engine
  pub dialogue-moves : m.answer ≡ reply h event → next_dialogue (with_pair h event) ≡ next_dialogue h
      → clock (with_pair h event).pairs ≡ clock h.pairs
      → dialogues (with_pair h event).pairs ≡ dialogues h.pairs → later h event dialogue ≡ left_standing m
      → ((i : ℕ) → nat_eq dialogue i ≡ false → later h event i ≡ before h event i)
      → moved_in (world_of h) dialogue m ≡ moved_at h event
  dialogue-moves answered next still listed itself others =
      moved-made h event m.answer (moved_in (world_of h) dialogue m).after answered
      (world-made h event (next_dialogue h) (number_after m.answer (next_number h)) (clock h.pairs)
      (with_dialogue dialogue (left_standing m) (world_of h).dialogues)
      next (sym (ap (λ (a : Answer). number_after a (next_number h)) answered ∙ number-follows h event)) still
      (ap (filter_map (later h event)) listed
      ∙ sym (one-changes (before h event) (own-at h.start.reject_ms h.start.idle_ms h.pairs) dialogue (later h event)
      (left_standing m) d there itself others (dialogues h.pairs))))

-- ---- requests

module _ (h : History) (legal : IsLegal h) (dialogue : ℕ) (request : Request)
    (within : InRange (Event.on_dialogue dialogue request)) where
  abbrev event : Event
  event = Event.on_dialogue dialogue request

  known : (d : Dialogue) → before h event dialogue ≡ Some d
      → requested_in (world_of h) dialogue request (Some d) ≡ moved_at h event
  known d there =
      dialogue-moves h event dialogue d there (table_move (setting_at h) d (DialogueEvent.request request))
      (request-agrees h dialogue legal d request there) (next-kept h event refl) refl (dialogues-kept h event refl)
      (request-moves h dialogue d request legal within there)
      (λ i other. each-stays h event i refl (λ x at. unnamed-stays h i x event legal at other))

  unknown : before h event dialogue ≡ None → requested_in (world_of h) dialogue request None ≡ moved_at h event
  unknown nowhere =
      moved-made h event (Answer.refused Fault.unknown_dialogue) (world_of h) (sym answered)
      (world-stays h event refl (ap (invoked_of event) answered) refl
      (λ i d there. stays i d there (nat_eq dialogue i) refl))
    where
      by_life : (l : Life) → dialogue_by h.start.reject_ms h.start.idle_ms dialogue h.pairs l ≡ None
          → request_answer h dialogue request l (due_by h dialogue request l) ≡ Answer.refused Fault.unknown_dialogue
      by_life Life.unborn e = refl
      by_life (Life.standing state context) e = absurd cc
      by_life Life.over e = refl

      answered : reply h event ≡ Answer.refused Fault.unknown_dialogue
      answered = by_life (life dialogue h.pairs) nowhere

      stays : (i : ℕ) (d : Dialogue) → before h event i ≡ Some d → (b : Bool) → nat_eq dialogue i ≡ b
          → later h event i ≡ Some d
      stays i d there true e =
          let never : None ≡ Some d = sym nowhere ∙ (ap (before h event) (eqb-true dialogue i e) ∙ there) in absurd cc
      stays i d there false e = unnamed-stays h i d event legal there e

  pub requests-move : requested_in (world_of h) dialogue request (dialogue_in dialogue (world_of h).dialogues)
      ≡ moved_at h event
  requests-move = go (before h event dialogue) refl
    where
      go : (o : Option Dialogue) → before h event dialogue ≡ o
          → requested_in (world_of h) dialogue request (dialogue_in dialogue (world_of h).dialogues) ≡ moved_at h event
      go None e = ap (requested_in (world_of h) dialogue request) (looked-up h legal dialogue None e) ∙ unknown e
      go (Some d) e =
          ap (requested_in (world_of h) dialogue request) (looked-up h legal dialogue (Some d) e) ∙ known d e
