-- What a dialogue sees of a legal history has its invocations, with their spans.
use Rattle.std.proofs.Common.{◌≡◌, ℕ, ◌+◌, Bool, true, false, ◌||◌, List, [], ◌∷◌, ◌++◌, Option, Some, None, refl, ap, sym, ◌∙◌, append-nil}
use Rattle.std.specs.Prelude.{is_some, option_map}
use Rattle.tcap_laws.proofs.Spans.DecisionSteps.{invocation_stays, number_found}
use Rattle.tcap_laws.proofs.Isolation.SeenLives.{unseen, unseen_marks, seen_marks, invoked_within, seen_or_not}
use Rattle.tcap_laws.proofs.Spans.SpanSteps.{reused_new, reused_step, span_new, span_grows, span_stays}
use Rattle.tcap_model.specs.Invocations.Deadline.{sent_clock, deadline}
use Rattle.tcap_model.specs.Histories.History.{Start}
use Rattle.tcap_model.specs.Invocations.Invocation.{Invocation, invoked_by, invocation_of, has_id}
use Rattle.tcap_model.specs.Replies.Legal.{AreReplies}
use Rattle.tcap_model.specs.Invocations.Marks.{Noted, marks}
use Rattle.tcap_model.specs.Statements.Only.{pair_within, is_seen_by, only}
use Rattle.tcap_model.specs.Invocations.Outcome.{outcome_of, outcome}
use Rattle.tcap_model.specs.Histories.Pair.{Pair, Past}
use Rattle.tcap_model.specs.Invocations.Reuse.{is_reused}
use Rattle.tcap_model.specs.Invocations.Span.{is_invoked, span}
use Rattle.tcap_laws.proofs.BoolLemmas.{or_false}
use Rattle.tcap_laws.proofs.Isolation.OwnInvocations.{unseen_own, IsOwn, own_before, only_invocation}

-- ---- the spans

made_before : (n : ℕ) (pair : Pair) (past : Past) → is_some (invocation_of n (pair ∷ past)) ≡ false
    → is_some (invocation_of n past) ≡ false
made_before n pair past e = go (invocation_of n past) refl
  where
    go : (o : Option Invocation) → invocation_of n past ≡ o → is_some (invocation_of n past) ≡ false
    go None q = ap is_some q
    go (Some i) q = let never : true ≡ false = sym (ap is_some (invocation_stays n pair past i q)) ∙ e in absurd cc

reused_none : (i : Invocation) (past : Past) → is_some (invocation_of i.number past) ≡ false → is_reused i past ≡ false
reused_none i [] e = refl
reused_none i (pair ∷ past) e = reused_new i pair past (made_before i.number pair past e)

pub span_none : (i : Invocation) (past : Past) → is_some (invocation_of i.number past) ≡ false → span i past ≡ []
span_none i [] e = refl
span_none i (pair ∷ past) e = span_new i pair past (made_before i.number pair past e)

module _ (start : Start) (i : Invocation) where
  abbrev mine : Past → Past
  mine past = only i.dialogue past

  made_same : (past : Past) → AreReplies start past → IsOwn start i.dialogue i.number past
      → is_some (invocation_of i.number (mine past)) ≡ is_some (invocation_of i.number past)
  made_same past legal own = ap is_some (only_invocation start i.dialogue i.number past legal own)

  only_reused : (past : Past) → AreReplies start past → IsOwn start i.dialogue i.number past
      → is_reused i (mine past) ≡ is_reused i past
  only_reused [] legal own = refl
  only_reused (pair ∷ past) legal own =
      go (is_seen_by i.dialogue pair past) (is_some (invocation_of i.number past)) refl refl
      (made_same past legal.2 before) (only_reused past legal.2 before)
    where
      before : IsOwn start i.dialogue i.number past
      before = own_before start i.dialogue i.number pair past own

      not_used : is_seen_by i.dialogue pair past ≡ false → (o : Option Invocation) → invoked_by pair ≡ o
          → is_invoked (has_id i.dialogue i.id) o ≡ false
      not_used e None q = refl
      not_used e (Some j) q = rw (unseen_own start i.dialogue pair past legal e j q) refl

      go : (b m : Bool) → is_seen_by i.dialogue pair past ≡ b → is_some (invocation_of i.number past) ≡ m
          → is_some (invocation_of i.number (mine past)) ≡ is_some (invocation_of i.number past)
          → is_reused i (mine past) ≡ is_reused i past
          → is_reused i (seen_or_not i.dialogue b pair past) ≡ is_reused i (pair ∷ past)
      go true true e m made same =
          reused_step i (pair_within i.dialogue pair.event pair.answer pair.idle_ms) (mine past) (made ∙ m)
          ∙ (ap (λ o. is_reused i (mine past) || is_invoked (has_id i.dialogue i.id) o)
          (invoked_within i.dialogue pair.event pair.answer pair.idle_ms)
          ∙ (ap (λ b. b || is_invoked (has_id i.dialogue i.id) (invoked_by pair)) same
          ∙ sym (reused_step i pair past m)))
      go true false e m made same =
          reused_new i (pair_within i.dialogue pair.event pair.answer pair.idle_ms) (mine past) (made ∙ m)
          ∙ sym (reused_new i pair past m)
      go false true e m made same =
          same ∙ (sym (or_false (is_reused i past)) ∙ (ap (λ b. is_reused i past || b)
          (sym (not_used e (invoked_by pair) refl)) ∙ sym (reused_step i pair past m)))
      go false false e m made same = same ∙ (reused_none i past m ∙ sym (reused_new i pair past m))

  pub only_span : (past : Past) → AreReplies start past → IsOwn start i.dialogue i.number past
      → span i (mine past) ≡ span i past
  only_span [] legal own = refl
  only_span (pair ∷ past) legal own =
      go (is_seen_by i.dialogue pair past) refl (only_reused (pair ∷ past) legal own) (made_same past legal.2 before)
      (only_span past legal.2 before)
    where
      before : IsOwn start i.dialogue i.number past
      before = own_before start i.dialogue i.number pair past own

      seen : (m u : Bool) → is_some (invocation_of i.number past) ≡ m → is_reused i (pair ∷ past) ≡ u
          → is_reused i (pair_within i.dialogue pair.event pair.answer pair.idle_ms ∷ mine past) ≡ is_reused i (pair ∷ past)
          → is_some (invocation_of i.number (mine past)) ≡ is_some (invocation_of i.number past)
          → span i (mine past) ≡ span i past
          → span i (pair_within i.dialogue pair.event pair.answer pair.idle_ms ∷ mine past) ≡ span i (pair ∷ past)
      seen false u m r reused made same =
          span_new i (pair_within i.dialogue pair.event pair.answer pair.idle_ms) (mine past) (made ∙ m)
          ∙ sym (span_new i pair past m)
      seen true true m r reused made same =
          span_stays i (pair_within i.dialogue pair.event pair.answer pair.idle_ms) (mine past) (made ∙ m) (reused ∙ r)
          ∙ (same ∙ sym (span_stays i pair past m r))
      seen true false m r reused made same =
          span_grows i (pair_within i.dialogue pair.event pair.answer pair.idle_ms) (mine past) (made ∙ m) (reused ∙ r)
          ∙ (ap (λ z. z ++ marks i.dialogue i.id (pair_within i.dialogue pair.event pair.answer pair.idle_ms) (mine past)) same
          ∙ (ap (λ z. span i past ++ z) (seen_marks i.dialogue i.id pair past)
          ∙ sym (span_grows i pair past m r)))

      not_seen : (m u : Bool) → is_some (invocation_of i.number past) ≡ m → is_reused i (pair ∷ past) ≡ u
          → is_seen_by i.dialogue pair past ≡ false → span i past ≡ span i (pair ∷ past)
      not_seen false u m r e = span_none i past m ∙ sym (span_new i pair past m)
      not_seen true true m r e = sym (span_stays i pair past m r)
      not_seen true false m r e =
          sym (span_grows i pair past m r ∙ (ap (λ z. span i past ++ z)
          (unseen_marks i.dialogue pair past (unseen i.dialogue pair past e) i.id) ∙ append-nil (span i past)))

      go : (b : Bool) → is_seen_by i.dialogue pair past ≡ b
          → is_reused i (seen_or_not i.dialogue b pair past) ≡ is_reused i (pair ∷ past)
          → is_some (invocation_of i.number (mine past)) ≡ is_some (invocation_of i.number past)
          → span i (mine past) ≡ span i past
          → span i (seen_or_not i.dialogue b pair past) ≡ span i (pair ∷ past)
      go true e reused made same =
          seen (is_some (invocation_of i.number past)) (is_reused i (pair ∷ past)) refl refl reused made same
      go false e reused made same =
          same ∙ not_seen (is_some (invocation_of i.number past)) (is_reused i (pair ∷ past)) refl refl e

-- ---- by the number

module _ (start : Start) (dialogue : ℕ) (past : Past) (legal : AreReplies start past) where
  pub found_own : (n : ℕ) (i : Invocation) → invocation_of n past ≡ Some i → i.dialogue ≡ dialogue
      → IsOwn start dialogue n past
  found_own n i found own = λ j e. let same : i ≡ j = cc in ap (λ (i : Invocation). i.dialogue) (sym same) ∙ own

  pub found_only : (n : ℕ) (i : Invocation) → invocation_of n past ≡ Some i → i.dialogue ≡ dialogue
      → invocation_of n (only dialogue past) ≡ Some i
  found_only n i found own = only_invocation start dialogue n past legal (found_own n i found own) ∙ found

  pub found_span : (n : ℕ) (i : Invocation) → invocation_of n past ≡ Some i → i.dialogue ≡ dialogue
      → span i (only dialogue past) ≡ span i past
  found_span n i found own =
      ap (λ d. span i (only d past)) (sym own)
      ∙ only_span start i past legal (λ j e. let same : i ≡ j = let there : invocation_of n past ≡ Some j =
      ap (λ m. invocation_of m past) (sym (number_found n past i found)) ∙ e in cc in
      ap (λ (i : Invocation). i.dialogue) (sym same))

  pub found_deadline : (n : ℕ) (i : Invocation) → invocation_of n past ≡ Some i → i.dialogue ≡ dialogue
      → deadline i (only dialogue past) ≡ deadline i past
  found_deadline n i found own =
      ap (λ (marks : List Noted). option_map (λ sent. sent + i.timeout) (sent_clock marks)) (found_span n i found own)

  pub only_outcome : (n : ℕ) → IsOwn start dialogue n past → outcome n (only dialogue past) ≡ outcome n past
  only_outcome n own =
      ap (λ o. outcome_of o (only dialogue past)) (only_invocation start dialogue n past legal own)
      ∙ go (invocation_of n past) refl
    where
      go : (o : Option Invocation) → invocation_of n past ≡ o → outcome_of o (only dialogue past) ≡ outcome_of o past
      go None q = refl
      go (Some i) q = let same = found_span n i q (own i q) in rw same refl
