-- What is told of the end of an invocation is its outcome.
use Rattle.std.proofs.Common.{◌≡◌, ℕ, map, [], Option, Some, None, refl, sym, ap, ◌∙◌}
use Rattle.std.specs.Prelude.{option_map}
use Rattle.tcap_laws.proofs.Decisions.DecidedHistories.{closings_are}
use Rattle.tcap_laws.proofs.Spans.DecisionSteps.{closing_of_decision, decision_place, undecided}
use Rattle.tcap_model.specs.Invocations.Closings.{Told, closings}
use Rattle.tcap_model.specs.Invocations.Decision.{decision, as_list}
use Rattle.tcap_model.specs.Statements.Headline.{told_closing, closing_due, IsToldOnce, PlainlyDecided}
use Rattle.tcap_model.specs.Histories.History.{Start, History}
use Rattle.tcap_model.specs.Invocations.Invocation.{Invocation, invocation_of}
use Rattle.tcap_model.specs.Replies.Legal.{AreReplies, IsLegal}
use Rattle.tcap_model.specs.Invocations.Outcome.{outcome_of, outcome}
use Rattle.tcap_model.specs.Words.Output.{Closing}
use Rattle.tcap_model.specs.Histories.Pair.{Past}

module _ (past : Past) (n : ℕ) (i : Invocation) (found : invocation_of n past ≡ Some i) where
  ending_decided : (d : Option Told) → decision n past ≡ d →
      option_map (λ (t : Told). t.closing) d ≡ outcome_of (Some i) past →
      map told_closing (as_list d) ≡ closing_due i (outcome_of (Some i) past)
  ending_decided None q e = ap (closing_due i) e
  ending_decided (Some t) q e =
      let d = decision_place n past t q in
      let same : d.invocation ≡ i = let there : invocation_of n past ≡ Some d.invocation = d.is_found in cc in
      let dialogue : t.dialogue ≡ i.dialogue = d.dialogue ∙ ap (λ (i : Invocation). i.dialogue) same in
      let id : t.id ≡ i.id = d.id ∙ ap (λ (i : Invocation). i.id) same in
      rw (dialogue, id) (ap (closing_due i) e)

  pub ending_is : map told_closing (as_list (decision n past)) ≡ closing_due i (outcome_of (Some i) past)
  ending_is = ending_decided (decision n past) refl (closing_of_decision n past ∙ ap (λ o. outcome_of o past) found)

pub outcome_told : (start : Start) (past : Past) (n : ℕ) (i : Invocation) → AreReplies start past →
    invocation_of n past ≡ Some i → map told_closing (closings n past) ≡ closing_due i (outcome_of (Some i) past)
outcome_told start past n i legal found =
    ap (map told_closing) (closings_are start past n legal) ∙ ending_is past n i found

-- ---- the plain form

told_none : (h : History) (n : ℕ) → IsLegal h → outcome n h.pairs ≡ None → closings n h.pairs ≡ []
told_none h n legal none = closings_are h.start h.pairs n legal.1 ∙ ap as_list (undecided n h.pairs none)

told_once : (h : History) (n : ℕ) (closing : Closing) (d : Option Told) → IsLegal h → outcome n h.pairs ≡ Some closing
    → decision n h.pairs ≡ d → option_map (λ (t : Told). t.closing) d ≡ outcome n h.pairs → IsToldOnce n closing h.pairs
told_once h n closing None legal is q e = let never : None ≡ Some closing = e ∙ is in absurd cc
told_once h n closing (Some t) legal is q e =
    let d = decision_place n h.pairs t q in
    let same : t.closing ≡ closing = let both : Some t.closing ≡ Some closing = e ∙ is in cc in
    record {
      told = t;
      pair = d.pair;
      before = d.before;
      is_all = closings_are h.start h.pairs n legal.1 ∙ ap as_list q;
      is_closing = same;
      is_place = d.place;
      stands = record { later = d.newer; is_past = d.whole };
      is_decided = record {
        is_outcome = ap (outcome n) (sym d.place) ∙ (d.outcome_there ∙ ap Some same);
        none_before = d.none_before;
      };
    }

pub plainly_decided : (h : History) (n : ℕ) → IsLegal h → PlainlyDecided h n
plainly_decided h n legal = record {
  none = told_none h n legal;
  one = λ closing is. told_once h n closing (decision n h.pairs) legal is refl (closing_of_decision n h.pairs);
}
