-- In a legal history the closing indications of a number are its decision.
use Rattle.std.proofs.Common.{◌≡◌, ℕ, Bool, true, false, List, [], ◌∷◌, ◌++◌, Option, Some, None, refl, ap, sym, ◌∙◌, subst}
use Rattle.std.proofs.lemmas.List.{append-nil}
use Rattle.std.specs.Prelude.{is_some, option_map}
use Rattle.std.specs.Option.{option_or}
use Rattle.tcap_laws.proofs.Decisions.ComponentTellings.{unless}
use Rattle.tcap_laws.proofs.Spans.DecisionSteps.{first_closing-append, number_found, made_found, invocation_stays, closing_of_decision, undecided, decided_now}
use Rattle.tcap_laws.proofs.Decisions.OpenEvents.{reply_open}
use Rattle.tcap_laws.proofs.Decisions.OpenNumbers.{wanted}
use Rattle.tcap_laws.proofs.Decisions.QuietNumbers.{IsSettled, reply_quiet}
use Rattle.tcap_laws.proofs.Spans.SpanSteps.{span_new, span_grows, span_stays}
use Rattle.tcap_laws.proofs.Spans.SupersededInvocations.{latest_if_open, decided_if_reused}
use Rattle.tcap_laws.proofs.Decisions.ToldParts.{gain}
use Rattle.tcap_model.specs.Words.Answer.{Answer}
use Rattle.tcap_model.specs.Invocations.Closings.{Told, told_by_answer, closings}
use Rattle.tcap_model.specs.Invocations.Decision.{told_outcome, decided_of, decided_at, decision, as_list}
use Rattle.tcap_model.specs.Histories.History.{History, Start}
use Rattle.tcap_model.specs.Invocations.Invocation.{Invocation, invocation_of, latest}
use Rattle.tcap_model.specs.Replies.Legal.{AreReplies}
use Rattle.tcap_model.specs.Invocations.Marks.{Noted, marks}
use Rattle.tcap_model.specs.Invocations.Outcome.{closing_after, first_closing, outcome_of, outcome}
use Rattle.tcap_model.specs.Words.Output.{Closing}
use Rattle.tcap_model.specs.Histories.Pair.{Pair, Past}
use Rattle.tcap_model.specs.Replies.Reply.{reply}
use Rattle.tcap_model.specs.Invocations.Reuse.{is_reused}
use Rattle.tcap_model.specs.Invocations.Span.{span}

module _ (start : Start) (pair : Pair) (past : Past) (n : ℕ) (legal : AreReplies start (pair ∷ past)) where
  abbrev place : Past
  place = pair ∷ past

  abbrev h : History
  h = record { start = start; pairs = past }

  abbrev told_here : List Told
  told_here = told_by_answer n place pair.event pair.answer

  abbrev Steps : Type 0
  Steps = as_list (decision n past) ++ told_here ≡ as_list (decision n place)

  -- ---- nothing is told

  settled_silent : IsSettled n past → told_here ≡ []
  settled_silent settled =
      ap (told_by_answer n place pair.event) legal.1 ∙ reply_quiet start past place n legal.2 settled pair.event

  new_undecided : (o : Option Invocation) → invocation_of n past ≡ None → invocation_of n place ≡ o
      → decided_of place o ≡ None
  new_undecided None q w = refl
  new_undecided (Some i) q w =
      let number : i.number ≡ n = number_found n place i w in
      let new : is_some (invocation_of i.number past) ≡ false =
      ap (λ m. is_some (invocation_of m past)) number ∙ ap is_some q in
      ap (λ ms. told_outcome place i (first_closing i.class i.timeout ms)) (span_new i pair past new)

  none_step : invocation_of n past ≡ None → Steps
  none_step q =
      let settled : IsSettled n past = λ i found. absurd (cc (q, found)) in
      let none : outcome n past ≡ None = ap (λ o. outcome_of o past) q in
      let before : decision n past ≡ None = undecided n past none in
      let after : decision n place ≡ None =
      decided_now n pair past none ∙ new_undecided (invocation_of n place) q refl in
      ap (λ d. as_list d ++ told_here) before ∙ (settled_silent settled ∙ ap as_list (sym after))

  decided_step : (i : Invocation) (c : Closing) → invocation_of n past ≡ Some i
      → first_closing i.class i.timeout (span i past) ≡ Some c → Steps
  decided_step i c q w =
      ap (λ z. as_list (decision n past) ++ z) (settled_silent settled)
      ∙ (append-nil (as_list (decision n past)) ∙ go (decision n past) (closing_of_decision n past))
    where
      settled : IsSettled n past
      settled j found = let same : i ≡ j =
          cc in subst (λ (j : Invocation). (c : Closing) × (first_closing j.class j.timeout (span j past) ≡ Some c))
          same (c, w)

      go : (d : Option Told) → option_map (λ (t : Told). t.closing) d ≡ outcome n past
          → as_list d ≡ as_list (option_or d (decided_at n place))
      go (Some t) e = refl
      go None e = let never : None ≡ Some c = e ∙ (ap (λ o. outcome_of o past) q ∙ w) in absurd cc

  -- ---- the deciding pair, or one that decides nothing

  module _ (i : Invocation) (found : invocation_of n past ≡ Some i)
      (still_open : first_closing i.class i.timeout (span i past) ≡ None) where
    no_outcome : outcome n past ≡ None
    no_outcome = ap (λ o. outcome_of o past) found ∙ still_open

    here : latest i.dialogue i.id past ≡ Some i
    here = latest_if_open start past n i legal.2 found no_outcome

    abbrev added : List Noted
    added = marks i.dialogue i.id pair past

    told_open : told_here ≡ wanted place past i added
    told_open = subst (λ (answer : Answer). told_by_answer n place pair.event answer
        ≡ wanted place past i (marks i.dialogue i.id
        (record { event = pair.event; answer = answer; idle_ms = pair.idle_ms }) past))
        (sym legal.1)
        (reply_open start past place n i legal.2 found here pair.event
        ∙ ap (λ idle_ms. wanted place past i (marks i.dialogue i.id
        (record { event = pair.event; answer = reply h pair.event; idle_ms = idle_ms }) past))
        (sym legal.0.is_limited))

    -- no pair uses the identifier of an open invocation again
    unused : is_reused i place ≡ false
    unused = go (is_reused i place) refl
      where
        go : (b : Bool) → is_reused i place ≡ b → is_reused i place ≡ false
        go false q = q
        go true q =
            let still : outcome n place ≡ None =
            ap (λ o. outcome_of o place) (invocation_stays n pair past i found)
            ∙ (ap (first_closing i.class i.timeout) (span_stays i pair past (made_found n past i found) q)
            ∙ still_open) in
            let never : false ≡ true =
            ap is_some (sym still) ∙ decided_if_reused start place n i legal (invocation_stays n pair past i found)
            q in
            absurd cc

    closing_now : first_closing i.class i.timeout (span i place) ≡ closing_after i.class i.timeout (span i past) added
    closing_now =
        ap (first_closing i.class i.timeout) (span_grows i pair past (made_found n past i found) unused)
        ∙ (first_closing-append i.class i.timeout (span i past) added
        ∙ ap (λ o. option_or o (closing_after i.class i.timeout (span i past) added)) still_open)

    decision_now : decision n place ≡ told_outcome place i (closing_after i.class i.timeout (span i past) added)
    decision_now = decided_now n pair past no_outcome
        ∙ (ap (decided_of place) (invocation_stays n pair past i found) ∙ ap (told_outcome place i) closing_now)

    open_step : Steps
    open_step =
        ap (λ d. as_list d ++ told_here) (undecided n past no_outcome)
        ∙ (told_open ∙ (ap (λ o. unless o (gain place i (closing_after i.class i.timeout (span i past) added)))
        still_open ∙ ap as_list (sym decision_now)))

  step : Steps
  step = go (invocation_of n past) refl
    where
      one : (i : Invocation) (f : Option Closing) → invocation_of n past ≡ Some i
          → first_closing i.class i.timeout (span i past) ≡ f → Steps
      one i None q w = open_step i q w
      one i (Some c) q w = decided_step i c q w

      go : (o : Option Invocation) → invocation_of n past ≡ o → Steps
      go None q = none_step q
      go (Some i) q = one i (first_closing i.class i.timeout (span i past)) q refl

pub closings_are : (start : Start) (past : Past) (n : ℕ) → AreReplies start past
    → closings n past ≡ as_list (decision n past)
closings_are start [] n legal = refl
closings_are start (pair ∷ past) n legal =
    ap (λ z. z ++ told_by_answer n (pair ∷ past) pair.event pair.answer) (closings_are start past n legal.2)
    ∙ step start pair past n legal
