-- An identifier is used again only once its invocation is decided.
use Rattle.std.proofs.Common.{◌≡◌, ℕ, ℤ, Bool, true, false, not, ◌||◌, [], ◌∷◌, Option, Some, None, refl, ap, sym, ◌∙◌, arith}
use Rattle.std.proofs.lemmas.Bool.Decides.{nat_tests}
use Rattle.std.specs.Prelude.{is_some, option_map}
use Rattle.tcap_laws.proofs.Spans.DecisionSteps.{number_found, invocation_stays, outcome_stays, closing_of_decision}
use Rattle.tcap_laws.proofs.Spans.DrawnInvocations.{Draws, draws}
use Rattle.tcap_laws.proofs.Spans.LatestInvocations.{id_of, IsLatest, latest_is, reused_is}
use Rattle.tcap_laws.proofs.Spans.SpanSteps.{reused_step, reused_new}
use Rattle.tcap_model.specs.Invocations.Closings.{Told}
use Rattle.tcap_model.specs.Invocations.Decision.{decision}
use Rattle.tcap_model.specs.Replies.Held.{held, held_by, holds_identifier}
use Rattle.tcap_model.specs.Histories.History.{Start}
use Rattle.tcap_model.specs.Invocations.Invocation.{Invocation, invoked_by, invocation_of, has_id, latest}
use Rattle.tcap_model.specs.Replies.Legal.{AreReplies}
use Rattle.tcap_model.specs.Invocations.Outcome.{outcome}
use Rattle.tcap_model.specs.Words.Output.{Closing}
use Rattle.tcap_model.specs.Histories.Pair.{Pair, Past}
use Rattle.tcap_model.specs.Invocations.Reuse.{is_reused}
use Rattle.tcap_model.specs.Invocations.Span.{is_invoked}
use Rattle.tcap_model.specs.Table.World.{is_number}

pub decided_stays : (n : ℕ) (pair : Pair) (past : Past) → is_some (outcome n past) ≡ true
    → is_some (outcome n (pair ∷ past)) ≡ true
decided_stays n pair past e = go (outcome n past) refl e
  where
    go : (o : Option Closing) → outcome n past ≡ o → is_some o ≡ true → is_some (outcome n (pair ∷ past)) ≡ true
    go None q e = absurd cc
    go (Some c) q e = ap is_some (outcome_stays n pair past c q)

-- the latest invocation of an identifier, found by its number
pub latest_found : (start : Start) (past : Past) (i : Invocation) → AreReplies start past
    → invocation_of i.number past ≡ Some i → is_number i.number (latest i.dialogue i.id past) ≡ true
    → latest i.dialogue i.id past ≡ Some i
latest_found start past i legal found e = go (latest i.dialogue i.id past) refl e
  where
    go : (o : Option Invocation) → latest i.dialogue i.id past ≡ o → is_number i.number o ≡ true
        → latest i.dialogue i.id past ≡ Some i
    go None q e = absurd cc
    go (Some k) q e =
        let l : IsLatest i.dialogue i.id past k = latest_is start past i.dialogue i.id k legal q in
        let number : k.number ≡ i.number = grind (arith, nat_tests) in
        let there : invocation_of i.number past ≡ Some k = ap (λ n. invocation_of n past) (sym number) ∙ l.is_found in
        let same : k ≡ i = cc in
        q ∙ ap Some same

-- an invocation whose identifier is free is decided
free_decided : (n reject_ms dialogue : ℕ) (id : ℤ) (past : Past)
    → holds_identifier reject_ms dialogue id past (decision n past) ≡ false → is_some (outcome n past) ≡ true
free_decided n reject_ms dialogue id past e = go (decision n past) (closing_of_decision n past) e
  where
    go : (d : Option Told) → option_map (λ (t : Told). t.closing) d ≡ outcome n past
        → holds_identifier reject_ms dialogue id past d ≡ false → is_some (outcome n past) ≡ true
    go None q e = absurd cc
    go (Some t) q e = ap is_some (sym q)

not_false : (b : Bool) → false ≡ not b → b ≡ true
not_false true e = refl
not_false false e = absurd cc

-- at the next use of its identifier an invocation is decided
used_decided : (start : Start) (pair : Pair) (past : Past) (i new : Invocation) → AreReplies start (pair ∷ past)
    → invocation_of i.number past ≡ Some i → is_reused i past ≡ false
    → invoked_by pair ≡ Some new → has_id i.dialogue i.id new ≡ true → is_some (outcome i.number past) ≡ true
used_decided start pair past i new legal found unused made has =
    let drawn : Draws (record { start = start; pairs = past }) new = draws start pair past new legal made in
    let ids = id_of i.dialogue i.id new has in
    let free : held start.reject_ms i.dialogue i.id past ≡ false =
    ap (λ d. held start.reject_ms d i.id past) (sym ids.0)
    ∙ (ap (λ k. held start.reject_ms new.dialogue k past) (sym ids.1) ∙ drawn.free) in
    let here : latest i.dialogue i.id past ≡ Some i =
    latest_found start past i legal.2 found (not_false (is_number i.number (latest i.dialogue i.id past))
    (sym unused ∙ reused_is start past i legal.2 found)) in
    free_decided i.number start.reject_ms i.dialogue i.id past
    (ap (held_by start.reject_ms i.dialogue i.id past) (sym here) ∙ free)

module _ (start : Start) (pair : Pair) (past : Past) (i : Invocation) (legal : AreReplies start (pair ∷ past))
    (ih : invocation_of i.number past ≡ Some i → is_reused i past ≡ true → is_some (outcome i.number past) ≡ true) where
  superseded_by : (o p : Option Invocation) → invocation_of i.number past ≡ o → invoked_by pair ≡ p
      → invocation_of i.number (pair ∷ past) ≡ Some i → is_reused i (pair ∷ past) ≡ true
      → is_some (outcome i.number (pair ∷ past)) ≡ true
  superseded_by None p q w e used = let never : false ≡ true =
      sym (reused_new i pair past (ap is_some q)) ∙ used in absurd cc
  superseded_by (Some j) p q w e used =
      decided_stays i.number pair past (go (is_reused i past) refl p w
      (ap (λ o. is_reused i past || is_invoked (has_id i.dialogue i.id) o) (sym w)
      ∙ (sym (reused_step i pair past (ap is_some q)) ∙ used)))
    where
      found : invocation_of i.number past ≡ Some i
      found = let stays : invocation_of i.number (pair ∷ past) ≡ Some j =
          invocation_stays i.number pair past j q in let same : j ≡ i = cc in q ∙ ap Some same

      go : (b : Bool) → is_reused i past ≡ b → (p : Option Invocation) → invoked_by pair ≡ p
          → (is_reused i past || is_invoked (has_id i.dialogue i.id) p) ≡ true → is_some (outcome i.number past) ≡ true
      go true r p w u = ih found r
      go false r None w u = let never : (false || false) ≡ true = rw r at u in absurd cc
      go false r (Some new) w u = used_decided start pair past i new legal found r w (rw r at u)

pub reused_decided : (start : Start) (past : Past) (i : Invocation) → AreReplies start past
    → invocation_of i.number past ≡ Some i → is_reused i past ≡ true → is_some (outcome i.number past) ≡ true
reused_decided start [] i legal found used = absurd cc
reused_decided start (pair ∷ past) i legal found used =
    superseded_by start pair past i legal (λ q r. reused_decided start past i legal.2 q r) (invocation_of i.number past)
    (invoked_by pair) refl refl found used

-- ---- by the number that was asked for

module _ (start : Start) (past : Past) (n : ℕ) (i : Invocation) (legal : AreReplies start past)
    (found : invocation_of n past ≡ Some i) where
  pub found_own : invocation_of i.number past ≡ Some i
  found_own = ap (λ m. invocation_of m past) (number_found n past i found) ∙ found

  pub reused_of_number : is_reused i past ≡ not (is_number n (latest i.dialogue i.id past))
  reused_of_number = reused_is start past i legal found_own
      ∙ ap (λ m. not (is_number m (latest i.dialogue i.id past))) (number_found n past i found)

  pub decided_if_reused : is_reused i past ≡ true → is_some (outcome n past) ≡ true
  decided_if_reused e =
      ap (λ m. is_some (outcome m past)) (sym (number_found n past i found))
      ∙ reused_decided start past i legal found_own e

  pub decided_if_superseded : is_number n (latest i.dialogue i.id past) ≡ false → is_some (outcome n past) ≡ true
  decided_if_superseded e = decided_if_reused (reused_of_number ∙ ap not e)

  pub unused_if_open : outcome n past ≡ None → is_reused i past ≡ false
  unused_if_open e = go (is_reused i past) refl
    where
      go : (b : Bool) → is_reused i past ≡ b → is_reused i past ≡ false
      go false q = q
      go true q = let never : false ≡ true = ap is_some (sym e) ∙ decided_if_reused q in absurd cc

  pub latest_if_open : outcome n past ≡ None → latest i.dialogue i.id past ≡ Some i
  latest_if_open e = latest_found start past i legal found_own
      (not_false (is_number i.number (latest i.dialogue i.id past))
      (sym (unused_if_open e) ∙ reused_is start past i legal found_own))
