-- What a dialogue sees of a legal history has its decisions, each at the place that it sees.
use Rattle.std.proofs.Common.{◌≡◌, ℕ, ℤ, ◌+◌, ◌==◌, Bool, true, false, not, ◌&&◌, ◌||◌, nat_le, [], ◌∷◌, ◌++◌, Option, Some, None, refl, ap, sym, ◌∙◌, subst, arith, if◌then◌else◌}
use Rattle.std.proofs.lemmas.Bool.Decides.{nat_tests}
use Rattle.std.specs.Prelude.{is_none, option_map}
use Rattle.std.specs.Option.{option_or}
use Rattle.std.specs.List.{list_any}
use Rattle.tcap_laws.proofs.Births.DrawnDialogues.{unborn-life}
use Rattle.tcap_laws.proofs.Spans.DecisionSteps.{closing_of_decision, decision_place}
use Rattle.tcap_laws.proofs.Spans.EarlierMoments.{since_end}
use Rattle.tcap_laws.proofs.Spans.LatestInvocations.{latest_is}
use Rattle.tcap_laws.proofs.Isolation.SeenInvocations.{found_own, found_span, only_outcome}
use Rattle.tcap_laws.proofs.Isolation.SeenLives.{with_answer, IsUnseen, unseen, within_accepted, seen_or_not, only_clock}
use Rattle.tcap_model.specs.Words.Answer.{Answer, is_accepted}
use Rattle.tcap_model.specs.Histories.Birth.{was_born}
use Rattle.tcap_model.specs.Histories.Clock.{clock}
use Rattle.tcap_model.specs.Invocations.Closings.{Told}
use Rattle.tcap_model.specs.Invocations.Decision.{decided_of, decided_at, decision, told_outcome}
use Rattle.tcap_model.specs.Replies.Due.{due_by}
use Rattle.tcap_model.specs.Words.Event.{Event}
use Rattle.tcap_model.specs.Replies.Held.{held, held_by, holds_identifier, is_waiting, is_rejectable, rejects_answer, pair_ends_wait, since, pending, if_pending}
use Rattle.tcap_model.specs.Histories.History.{History, Start}
use Rattle.tcap_model.specs.Invocations.Invocation.{Invocation, invocation_of, latest}
use Rattle.tcap_model.specs.Replies.Legal.{AreReplies}
use Rattle.tcap_model.specs.Histories.Life.{Life, life}
use Rattle.tcap_model.specs.Statements.Only.{pair_within, is_seen_by, only}
use Rattle.tcap_model.specs.Invocations.Outcome.{outcome_of, outcome}
use Rattle.tcap_model.specs.Words.Output.{Closing}
use Rattle.tcap_model.specs.Histories.Pair.{Past}
use Rattle.tcap_model.specs.Replies.Reply.{request_answer}
use Rattle.tcap_model.specs.Words.Request.{Request}
use Rattle.tcap_laws.proofs.BoolLemmas.{and_false}
use Rattle.tcap_laws.proofs.Isolation.OwnInvocations.{IsOwn, only_invocation, only_latest, own_before}

-- a decision at the place that the dialogue sees
abbrev pub told_within : ℕ → Told → Told
told_within dialogue t = record { place = only dialogue t.place; dialogue = t.dialogue; id = t.id; closing = t.closing }

-- ---- decisions

undecided_at : (n : ℕ) (place : Past) → outcome n place ≡ None → decided_at n place ≡ None
undecided_at n place e = go (invocation_of n place) refl
  where
    go : (o : Option Invocation) → invocation_of n place ≡ o → decided_of place o ≡ None
    go None q = refl
    go (Some i) q = ap (told_outcome place i) (ap (λ o. outcome_of o place) (sym q) ∙ e)

-- a request on a dialogue that wasn't born is refused
pub unborn_refused : (start : Start) (named : ℕ) (r : Request) (answer : Answer) (idle_ms : ℕ) (past : Past)
    → AreReplies start (with_answer (Event.on_dialogue named r) answer idle_ms ∷ past) → life named past ≡ Life.unborn
    → is_accepted answer ≡ false
unborn_refused start named r answer idle_ms past legal unborn =
    let h : History = record { start = start; pairs = past } in
    ap is_accepted (legal.1 ∙ ap (λ l. request_answer h named r l (due_by h named r l)) unborn)

module _ (start : Start) (dialogue : ℕ) where
  told_same : (past : Past) (i : Invocation) (o : Option Closing)
      → told_outcome (only dialogue past) i o ≡ option_map (told_within dialogue) (told_outcome past i o)
  told_same past i None = refl
  told_same past i (Some c) = refl

  only_decided_at : (n : ℕ) (past : Past) → AreReplies start past → IsOwn start dialogue n past
      → decided_at n (only dialogue past) ≡ option_map (told_within dialogue) (decided_at n past)
  only_decided_at n past legal own =
      ap (decided_of (only dialogue past)) (only_invocation start dialogue n past legal own)
      ∙ go (invocation_of n past) refl
    where
      go : (o : Option Invocation) → invocation_of n past ≡ o
          → decided_of (only dialogue past) o ≡ option_map (told_within dialogue) (decided_of past o)
      go None q = refl
      go (Some i) q = let same =
          found_span start dialogue past legal n i q (own i q) in rw same (told_same past i (outcome_of (Some i) past))

  both : (a b : Option Told) → option_or (option_map (told_within dialogue) a) (option_map (told_within dialogue) b)
      ≡ option_map (told_within dialogue) (option_or a b)
  both None b = refl
  both (Some t) b = refl

  pub only_decision : (n : ℕ) (past : Past) → AreReplies start past → IsOwn start dialogue n past
      → decision n (only dialogue past) ≡ option_map (told_within dialogue) (decision n past)
  only_decision n [] legal own = refl
  only_decision n (pair ∷ past) legal own =
      go (is_seen_by dialogue pair past) refl (only_decided_at n (pair ∷ past) legal own)
      (only_outcome start dialogue (pair ∷ past) legal n own) (only_decision n past legal.2 before)
    where
      before : IsOwn start dialogue n past
      before = own_before start dialogue n pair past own

      not_seen : (d : Option Told) → option_map (λ (t : Told). t.closing) d ≡ outcome n past
          → outcome n (pair ∷ past) ≡ outcome n past
          → option_map (told_within dialogue) d ≡ option_map (told_within dialogue)
          (option_or d (decided_at n (pair ∷ past)))
      not_seen None q same = ap (option_map (told_within dialogue)) (sym (undecided_at n (pair ∷ past) (same ∙ sym q)))
      not_seen (Some t) q same = refl

      go : (b : Bool) → is_seen_by dialogue pair past ≡ b
          → decided_at n (seen_or_not dialogue b pair past)
          ≡ option_map (told_within dialogue) (decided_at n (pair ∷ past))
          → outcome n (seen_or_not dialogue b pair past) ≡ outcome n (pair ∷ past)
          → decision n (only dialogue past) ≡ option_map (told_within dialogue) (decision n past)
          → decision n (seen_or_not dialogue b pair past) ≡ option_map (told_within dialogue) (decision n (pair ∷ past))
      go true e here same ih =
          ap (λ o. option_or o (decided_at n (pair_within dialogue pair.event pair.answer pair.idle_ms ∷ only dialogue past))) ih
          ∙ (ap (option_or (option_map (told_within dialogue) (decision n past))) here
          ∙ both (decision n past) (decided_at n (pair ∷ past)))
      go false e here same ih =
          ih ∙ not_seen (decision n past) (closing_of_decision n past)
          (sym same ∙ only_outcome start dialogue past legal.2 n before)

  -- ---- waits

  module _ (until : ℕ) (id : ℤ) where
    ends_within : (event : Event) (answer : Answer) (idle_ms : ℕ)
        → pair_ends_wait until dialogue id (pair_within dialogue event answer idle_ms)
        ≡ pair_ends_wait until dialogue id (with_answer event answer idle_ms)
    ends_within Event.new_dialogue answer idle_ms = refl
    ends_within (Event.on_dialogue asked request) answer idle_ms = refl
    ends_within (Event.received from bytes) answer idle_ms = refl
    ends_within (Event.moment now) answer idle_ms = ap (λ b. b && nat_le until now) (within_accepted dialogue answer)

    unseen_request : (named : ℕ) (r : Request) (answer : Answer) (idle_ms : ℕ) (past : Past)
        → AreReplies start (with_answer (Event.on_dialogue named r) answer idle_ms ∷ past)
        → IsUnseen dialogue (with_answer (Event.on_dialogue named r) answer idle_ms) past
        → (is_accepted answer && ((named == dialogue) && rejects_answer id r)) ≡ false
    unseen_request named r answer idle_ms past legal is = go (named == dialogue) (was_born dialogue past) refl refl
      where
        go : (a b : Bool) → (named == dialogue) ≡ a → was_born dialogue past ≡ b
            → (is_accepted answer && (a && rejects_answer id r)) ≡ false
        go false b p q = and_false (is_accepted answer)
        go true true p q = let never : true ≡ false = sym p ∙ is.not_named q in absurd cc
        go true false p q =
            let same : named ≡ dialogue = grind (arith, nat_tests) in
            ap (λ b. b && (true && rejects_answer id r))
            (unborn_refused start named r answer idle_ms past legal
            (ap (λ d. life d past) same ∙ unborn-life dialogue past q))

    unseen_ends : (event : Event) (answer : Answer) (idle_ms : ℕ) (past : Past)
        → AreReplies start (with_answer event answer idle_ms ∷ past)
        → IsUnseen dialogue (with_answer event answer idle_ms) past
        → pair_ends_wait until dialogue id (with_answer event answer idle_ms) ≡ false
    unseen_ends Event.new_dialogue answer idle_ms past legal is = and_false (is_accepted answer)
    unseen_ends (Event.on_dialogue named r) answer idle_ms past legal is = unseen_request named r answer idle_ms past legal is
    unseen_ends (Event.received from bytes) answer idle_ms past legal is = and_false (is_accepted answer)
    unseen_ends (Event.moment now) answer idle_ms past legal is = let no = is.no_moment in absurd cc

    -- what follows a place, as the dialogue sees it
    pub record IsPart (newer place : Past) : Type 0 where
      pub part : Past
      pub is_only : only dialogue (newer ++ place) ≡ part ++ only dialogue place
      pub ends : list_any (pair_ends_wait until dialogue id) part ≡ list_any (pair_ends_wait until dialogue id) newer

    parted : (newer place : Past) → AreReplies start (newer ++ place) → IsPart newer place
    parted [] place legal = record { part = []; is_only = refl; ends = refl }
    parted (pair ∷ newer) place legal = go (is_seen_by dialogue pair (newer ++ place)) refl (parted newer place legal.2)
      where
        go : (b : Bool) → is_seen_by dialogue pair (newer ++ place) ≡ b → IsPart newer place
            → IsPart (pair ∷ newer) place
        go true e r = record {
          part = pair_within dialogue pair.event pair.answer pair.idle_ms ∷ r.part;
          is_only = ap (λ b. seen_or_not dialogue b pair (newer ++ place)) e
              ∙ ap (λ z. pair_within dialogue pair.event pair.answer pair.idle_ms ∷ z) r.is_only;
          ends = ap (λ b. b || list_any (pair_ends_wait until dialogue id) r.part) (ends_within pair.event pair.answer pair.idle_ms)
              ∙ ap (λ b. pair_ends_wait until dialogue id pair || b) r.ends;
        }
        go false e r = record {
          part = r.part;
          is_only = ap (λ b. seen_or_not dialogue b pair (newer ++ place)) e ∙ r.is_only;
          ends = r.ends ∙ ap (λ b. b || list_any (pair_ends_wait until dialogue id) newer)
              (sym (unseen_ends pair.event pair.answer pair.idle_ms (newer ++ place) legal
              (unseen dialogue pair (newer ++ place) e)));
        }

    waits_same : (past newer place : Past) → past ≡ newer ++ place → AreReplies start past
        → list_any (pair_ends_wait until dialogue id) (since (only dialogue place) (only dialogue past))
        ≡ list_any (pair_ends_wait until dialogue id) (since place past)
    waits_same past newer place whole legal =
        let r = parted newer place (subst (AreReplies start) whole legal) in
        ap (λ z. list_any (pair_ends_wait until dialogue id) (since (only dialogue place) z))
        (ap (only dialogue) whole ∙ r.is_only)
        ∙ (ap (list_any (pair_ends_wait until dialogue id)) (since_end r.part (only dialogue place))
        ∙ (r.ends
        ∙ ap (list_any (pair_ends_wait until dialogue id)) (sym (ap (since place) whole ∙ since_end newer place))))

  -- ---- identifiers

  module _ (reject_ms : ℕ) (id : ℤ) (past : Past) (legal : AreReplies start past) where
    waiting_same : (n : ℕ) (t : Told) → decision n past ≡ Some t
        → is_waiting reject_ms dialogue id (only dialogue past) (told_within dialogue t)
        ≡ is_waiting reject_ms dialogue id past t
    waiting_same n t e =
        let d = decision_place n past t e in
        let whole : past ≡ d.newer ++ t.place = d.whole ∙ ap (λ z. d.newer ++ z) (sym d.place) in
        ap (λ b. is_rejectable t.closing && not b)
        (ap (λ c. list_any (pair_ends_wait (c + reject_ms) dialogue id)
        (since (only dialogue t.place) (only dialogue past))) (only_clock dialogue t.place)
        ∙ waits_same (clock t.place + reject_ms) id past d.newer t.place whole legal)

    holds_same : (n : ℕ) (d : Option Told) → decision n past ≡ d
        → holds_identifier reject_ms dialogue id (only dialogue past) (option_map (told_within dialogue) d)
        ≡ holds_identifier reject_ms dialogue id past d
    holds_same n None q = refl
    holds_same n (Some t) q = waiting_same n t q

    pub latest_own : (i : Invocation) → latest dialogue id past ≡ Some i → IsOwn start dialogue i.number past
    latest_own i q = let l =
        latest_is start past dialogue id i legal q in
        found_own start dialogue past legal i.number i l.is_found l.dialogue_is

    pub only_held : held reject_ms dialogue id (only dialogue past) ≡ held reject_ms dialogue id past
    only_held = ap (held_by reject_ms dialogue id (only dialogue past)) (only_latest start dialogue id past legal)
        ∙ go (latest dialogue id past) refl
      where
        go : (o : Option Invocation) → latest dialogue id past ≡ o
            → held_by reject_ms dialogue id (only dialogue past) o ≡ held_by reject_ms dialogue id past o
        go None q = refl
        go (Some i) q =
            ap (holds_identifier reject_ms dialogue id (only dialogue past))
            (only_decision i.number past legal (latest_own i q))
            ∙ holds_same i.number (decision i.number past) refl

  pub only_pending : (id : ℤ) (past : Past) (legal : AreReplies start past)
      → pending dialogue id (only dialogue past) ≡ pending dialogue id past
  only_pending id past legal =
      ap (if_pending (only dialogue past)) (only_latest start dialogue id past legal)
      ∙ go (latest dialogue id past) refl
    where
      go : (o : Option Invocation) → latest dialogue id past ≡ o → if_pending (only dialogue past) o ≡ if_pending past o
      go None q = refl
      go (Some i) q = ap (λ o. if is_none o then Some i.number else None)
          (only_outcome start dialogue past legal i.number (latest_own 0 id past legal i q))
