-- A moment moves the engine as the history says.
use Rattle.std.proofs.Common.{◌≡◌, ℕ, max, Bool, true, false, cond, nat_lt, List, [], ◌∷◌, ◌++◌, Option, Some, None}
use Rattle.std.proofs.Common.{filter_map, refl, sym, ap, ◌∙◌, arith}
use Rattle.std.proofs.lemmas.Bool.{ltb-true, ltb-false}
use Rattle.std.specs.List.{cons_option}
use Rattle.tcap_laws.proofs.Engine.IdleAlike.{idle-alike}
use Rattle.tcap_laws.proofs.Engine.LapsesAlike.{lapses-alike}
use Rattle.tcap_laws.proofs.Engine.StayingDialogues.{refused-stays, early-stays}
use Rattle.tcap_laws.proofs.Engine.WorldAfter.{here, before, later, each-stays, world-made, moved-made, number-kept}
use Rattle.tcap_laws.proofs.Engine.WorldAfter.{next-kept, dialogues-kept, world-stays}
use Rattle.tcap_laws.proofs.Table.MessagesMovedAlike.{lapsed-moves}
use Rattle.tcap_model.specs.Histories.Birth.{dialogues, next_dialogue}
use Rattle.tcap_model.specs.Histories.Clock.{clock, clock_after}
use Rattle.tcap_model.specs.Histories.History.{History}
use Rattle.tcap_model.specs.Invocations.Invocation.{next_number}
use Rattle.tcap_model.specs.Replies.Legal.{IsLegal}
use Rattle.tcap_model.specs.Replies.Reply.{lapses, moment_outputs, moment_answer, reply}
use Rattle.tcap_model.specs.Statements.EngineMoves.{moved_at}
use Rattle.tcap_model.specs.Table.Agreement.{setting_at}
use Rattle.tcap_model.specs.Table.Dialogue.{Dialogue, is_idle_at}
use Rattle.tcap_model.specs.Table.DueLapses.{all_idle_told, at_moment, left_at}
use Rattle.tcap_model.specs.Table.EngineMove.{advanced, moment_in, unmoved}
use Rattle.tcap_model.specs.Table.TableMove.{DialogueEvent, idled, lapsed, table_move, left_standing}
use Rattle.tcap_model.specs.Table.World.{world_of}
use Rattle.tcap_model.specs.Words.Answer.{Answer, is_accepted}
use Rattle.tcap_model.specs.Words.Event.{Event}
use Rattle.tcap_model.specs.Words.Fault.{Fault}
use Rattle.tcap_model.specs.Words.Time.{moment_fault}

-- what is left of a dialogue that stands
abbrev left_if : (Dialogue → Option Dialogue) → Option Dialogue → Option Dialogue
left_if f None = None
left_if f (Some d) = f d

each_after : (at after : ℕ → Option Dialogue) (f : Dialogue → Option Dialogue)
    → ((i : ℕ) → after i ≡ left_if f (at i)) → (ids : List ℕ)
    → filter_map f (filter_map at ids) ≡ filter_map after ids
each_after at after f same [] = refl
each_after at after f same (i ∷ ids) =
    go (at i) (each_after at after f same ids) ∙ sym (ap (λ o. cons_option o (filter_map after ids)) (same i))
  where
    go : (o : Option Dialogue) → filter_map f (filter_map at ids) ≡ filter_map after ids
        → filter_map f (cons_option o (filter_map at ids)) ≡ cons_option (left_if f o) (filter_map after ids)
    go None e = e
    go (Some d) e = ap (cons_option (f d)) e

-- what a dialogue does at a moment leaves it so
lapsed_is : (h : History) (d : Dialogue) (now : ℕ)
    → left_standing (table_move (setting_at h) d (DialogueEvent.moment now)) ≡ left_at now d
unfolding table_move
lapsed_is h d now = go (is_idle_at now d)
  where
    go : (b : Bool) → left_standing (cond b (idled d now) (lapsed d now)) ≡ cond b None (Some (at_moment now d))
    go true = refl
    go false = refl

module _ (h : History) (legal : IsLegal h) (now : ℕ) where
  abbrev event : Event
  event = Event.moment now

  -- one above the limit
  refused_moves : (fault : Fault) → moment_fault now ≡ Some fault
      → unmoved (world_of h) (Answer.refused fault) ≡ moved_at h event
  refused_moves fault e =
      let answered : moment_answer h.start.idle_ms h.pairs now (moment_fault now) ≡ Answer.refused fault =
      ap (moment_answer h.start.idle_ms h.pairs now) e in
      moved-made h event (Answer.refused fault) (world_of h) (sym answered)
      (world-stays h event refl refl (ap (λ a. clock_after (clock h.pairs) event (is_accepted a)) answered)
      (λ i d there. refused-stays h i d now fault legal there e))

  module _ (timely : moment_fault now ≡ None) where
    answer_is : (early : Bool) → nat_lt now (clock h.pairs) ≡ early
        → reply h event ≡ cond early (Answer.outputs [])
        (Answer.outputs (moment_outputs h.start.idle_ms h.pairs now))
    answer_is early e =
        ap (moment_answer h.start.idle_ms h.pairs now) timely
        ∙ ap (λ b. cond b (Answer.outputs []) (Answer.outputs (moment_outputs h.start.idle_ms h.pairs now))) e

    clock_is : (early : Bool) → nat_lt now (clock h.pairs) ≡ early
        → clock (here h event ∷ h.pairs) ≡ max (clock h.pairs) now
    clock_is true e = ap (λ a. clock_after (clock h.pairs) event (is_accepted a)) (answer_is true e)
    clock_is false e = ap (λ a. clock_after (clock h.pairs) event (is_accepted a)) (answer_is false e)

    -- one below the clock
    early_moves : nat_lt now (clock h.pairs) ≡ true → unmoved (world_of h) (Answer.outputs []) ≡ moved_at h event
    early_moves e =
        let early = ltb-true now (clock h.pairs) e in
        let still : max (clock h.pairs) now ≡ clock h.pairs = omega (arith, early) in
        moved-made h event (Answer.outputs []) (world_of h) (sym (answer_is true e))
        (world-stays h event refl refl (clock_is true e ∙ still)
        (λ i d there. early-stays h i d now legal there timely early))

    -- any other
    later_is : (i : ℕ) → later h event i ≡ left_if (left_at now) (before h event i)
    later_is i = go (before h event i) refl
      where
        go : (o : Option Dialogue) → before h event i ≡ o → later h event i ≡ left_if (left_at now) o
        go None e = each-stays h event i refl (λ d there. absurd (nowhere d there)) ∙ e
          where
            nowhere : (d : Dialogue) → before h event i ≡ Some d → ⊥
            nowhere d there = let never : None ≡ Some d = sym e ∙ there in cc
        go (Some d) e = lapsed-moves h i d now legal e timely ∙ lapsed_is h d now

    moment_moves : nat_lt now (clock h.pairs) ≡ false → advanced (world_of h) now ≡ moved_at h event
    moment_moves e =
        let from = ltb-false now (clock h.pairs) e in
        let on : max (clock h.pairs) now ≡ now = omega (arith, from) in
        let ds = (world_of h).dialogues in
        moved-made h event (advanced (world_of h) now).answer (advanced (world_of h) now).after
        (ap (λ z. Answer.outputs (z ++ all_idle_told now ds))
        (lapses-alike h.start h.pairs legal.1 now h.start.reject_ms h.start.idle_ms)
        ∙ (ap (λ z. Answer.outputs (lapses h.pairs now ++ z))
        (idle-alike h.start h.pairs legal.1 now h.start.reject_ms h.start.idle_ms)
        ∙ sym (answer_is false e)))
        (world-made h event (next_dialogue h) (next_number h) now (filter_map (left_at now) (world_of h).dialogues)
        (next-kept h event refl) (number-kept h event refl) (clock_is false e ∙ on)
        (ap (filter_map (later h event)) (dialogues-kept h event refl)
        ∙ sym (each_after (before h event) (later h event) (left_at now) later_is (dialogues h.pairs))))

  pub moments-move : moment_in (world_of h) now (moment_fault now) ≡ moved_at h event
  moments-move = go (moment_fault now) refl
    where
      go : (f : Option Fault) → moment_fault now ≡ f → moment_in (world_of h) now f ≡ moved_at h event
      go (Some fault) e = refused_moves fault e
      go None e = at (nat_lt now (clock h.pairs)) refl
        where
          at : (early : Bool) → nat_lt now (clock h.pairs) ≡ early
              → cond early (unmoved (world_of h) (Answer.outputs [])) (advanced (world_of h) now) ≡ moved_at h event
          at true q = early_moves e q
          at false q = moment_moves e q
