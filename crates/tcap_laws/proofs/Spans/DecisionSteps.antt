-- What is decided stays, and a decision is an outcome at its first place.
use Rattle.std.proofs.Common.{◌≡◌, ℕ, ◌==◌, Bool, true, false, cond, List, [], ◌∷◌, ◌++◌, Option, Some, None, refl, ap, sym, ◌∙◌, subst, arith, append_assoc}
use Rattle.std.proofs.lemmas.Bool.Decides.{nat_tests}
use Rattle.std.proofs.lemmas.List.{append-nil}
use Rattle.std.proofs.lemmas.List.Folds.{find-append}
use Rattle.std.specs.Prelude.{find, is_some, option_map, option_to_list}
use Rattle.std.specs.Option.{option_or}
use Rattle.tcap_invocation.specs.declared.class.Class.{Class}
use Rattle.tcap_laws.proofs.Spans.SpanSteps.{span_grows, span_stays}
use Rattle.tcap_model.specs.Invocations.Closes.{closes}
use Rattle.tcap_model.specs.Invocations.Closings.{Told}
use Rattle.tcap_model.specs.Invocations.Decision.{decided_of, decided_at, decision, told_outcome}
use Rattle.tcap_model.specs.Invocations.Invocation.{Invocation, invoked_by, invocations, invocation_of}
use Rattle.tcap_model.specs.Invocations.Marks.{Noted, marks}
use Rattle.tcap_model.specs.Invocations.Outcome.{closing_after, first_closing, outcome_of, outcome}
use Rattle.tcap_model.specs.Words.Output.{Closing}
use Rattle.tcap_model.specs.Histories.Pair.{Pair, Past}
use Rattle.tcap_model.specs.Invocations.Reuse.{is_reused}
use Rattle.tcap_model.specs.Invocations.Span.{span}

-- ---- the first closing of more marks

or_assoc : (a b c : Option Closing) → option_or a (option_or b c) ≡ option_or (option_or a b) c
or_assoc None b c = refl
or_assoc (Some x) b c = refl

pub closing_after-append : (class : Class) (timeout : ℕ) (before xs ys : List Noted)
    → closing_after class timeout before (xs ++ ys)
    ≡ option_or (closing_after class timeout before xs) (closing_after class timeout (before ++ xs) ys)
closing_after-append class timeout before [] ys = ap (λ z. closing_after class timeout z ys) (sym (append-nil before))
closing_after-append class timeout before (x ∷ xs) ys =
    let first : Option Closing = closes class timeout before x in
    ap (option_or first) (closing_after-append class timeout (before ++ x ∷ []) xs ys)
    ∙ (or_assoc first (closing_after class timeout (before ++ x ∷ []) xs)
    (closing_after class timeout ((before ++ x ∷ []) ++ xs) ys)
    ∙ ap (λ z. option_or (option_or first (closing_after class timeout (before ++ x ∷ []) xs))
    (closing_after class timeout z ys)) (append_assoc before (x ∷ []) xs))

pub first_closing-append : (class : Class) (timeout : ℕ) (xs ys : List Noted)
    → first_closing class timeout (xs ++ ys) ≡ option_or (first_closing class timeout xs)
    (closing_after class timeout xs ys)
first_closing-append class timeout xs ys = closing_after-append class timeout [] xs ys

-- ---- the invocation of a number

find_passes : {X : Type 0} (test : X → Bool) (xs : List X) (y : X) → find test xs ≡ Some y → test y ≡ true
find_passes test [] y e = absurd cc
find_passes {X = X} test (x ∷ xs) y e = go (test x) refl e (find_passes test xs y)
  where
    go : (b : Bool) → test x ≡ b → cond b (Some x) (find test xs) ≡ Some y → (find test xs ≡ Some y → test y ≡ true)
        → test y ≡ true
    go true q e more = let same : x ≡ y = cc in subst (λ (z : X). test z ≡ true) same q
    go false q e more = more e

pub number_found : (n : ℕ) (past : Past) (i : Invocation) → invocation_of n past ≡ Some i → i.number ≡ n
number_found n past i e =
    let passes : (i.number == n) ≡ true = find_passes (λ (i : Invocation). i.number == n) (invocations past) i e in
    grind (arith, nat_tests)

pub made_found : (n : ℕ) (past : Past) (i : Invocation) → invocation_of n past ≡ Some i
    → is_some (invocation_of i.number past) ≡ true
made_found n past i e = ap (λ m. is_some (invocation_of m past)) (number_found n past i e) ∙ ap is_some e

pub invocation_stays : (n : ℕ) (pair : Pair) (past : Past) (i : Invocation) → invocation_of n past ≡ Some i
    → invocation_of n (pair ∷ past) ≡ Some i
invocation_stays n pair past i e =
    let test : Invocation → Bool = λ (i : Invocation). i.number == n in
    find-append test (invocations past) (option_to_list (invoked_by pair))
    ∙ ap (λ o. option_or o (find test (option_to_list (invoked_by pair)))) e

-- ---- what is decided stays

closing_stays : (i : Invocation) (pair : Pair) (past : Past) (c : Closing)
    → is_some (invocation_of i.number past) ≡ true
    → first_closing i.class i.timeout (span i past) ≡ Some c
    → first_closing i.class i.timeout (span i (pair ∷ past)) ≡ Some c
closing_stays i pair past c made e = go (is_reused i (pair ∷ past)) refl
  where
    go : (b : Bool) → is_reused i (pair ∷ past) ≡ b → first_closing i.class i.timeout (span i (pair ∷ past)) ≡ Some c
    go true q = ap (first_closing i.class i.timeout) (span_stays i pair past made q) ∙ e
    go false q = ap (first_closing i.class i.timeout) (span_grows i pair past made q)
        ∙ (first_closing-append i.class i.timeout (span i past) (marks i.dialogue i.id pair past)
        ∙ ap (λ o. option_or o (closing_after i.class i.timeout (span i past) (marks i.dialogue i.id pair past))) e)

pub outcome_stays : (n : ℕ) (pair : Pair) (past : Past) (c : Closing) → outcome n past ≡ Some c
    → outcome n (pair ∷ past) ≡ Some c
outcome_stays n pair past c e = go (invocation_of n past) refl e
  where
    go : (o : Option Invocation) → invocation_of n past ≡ o → outcome_of o past ≡ Some c
        → outcome n (pair ∷ past) ≡ Some c
    go None q e = absurd cc
    go (Some i) q e = ap (λ o. outcome_of o (pair ∷ past)) (invocation_stays n pair past i q)
        ∙ closing_stays i pair past c (made_found n past i q) e

pub decision_stays : (n : ℕ) (pair : Pair) (past : Past) (t : Told) → decision n past ≡ Some t
    → decision n (pair ∷ past) ≡ Some t
decision_stays n pair past t e = ap (λ o. option_or o (decided_at n (pair ∷ past))) e

-- ---- a decision is an outcome

decided_closing : (place : Past) (o : Option Invocation)
    → option_map (λ (t : Told). t.closing) (decided_of place o) ≡ outcome_of o place
decided_closing place None = refl
decided_closing place (Some i) = go (outcome_of (Some i) place)
  where
    go : (c : Option Closing) → option_map (λ (t : Told). t.closing) (told_outcome place i c) ≡ c
    go None = refl
    go (Some c) = refl

pub closing_of_decision : (n : ℕ) (past : Past)
    → option_map (λ (t : Told). t.closing) (decision n past) ≡ outcome n past
closing_of_decision n [] = refl
closing_of_decision n (pair ∷ past) = go (decision n past) (closing_of_decision n past)
  where
    go : (d : Option Told) → option_map (λ (t : Told). t.closing) d ≡ outcome n past
        → option_map (λ (t : Told). t.closing) (option_or d (decided_at n (pair ∷ past))) ≡ outcome n (pair ∷ past)
    go None e = decided_closing (pair ∷ past) (invocation_of n (pair ∷ past))
    go (Some t) e = sym (outcome_stays n pair past t.closing (sym e))

pub undecided : (n : ℕ) (past : Past) → outcome n past ≡ None → decision n past ≡ None
undecided n past e = go (decision n past) (closing_of_decision n past)
  where
    go : (d : Option Told) → option_map (λ (t : Told). t.closing) d ≡ outcome n past → d ≡ None
    go None q = refl
    go (Some t) q = let never : Some t.closing ≡ None = q ∙ e in absurd cc

pub decided_now : (n : ℕ) (pair : Pair) (past : Past) → outcome n past ≡ None
    → decision n (pair ∷ past) ≡ decided_at n (pair ∷ past)
decided_now n pair past e = ap (λ o. option_or o (decided_at n (pair ∷ past))) (undecided n past e)

-- ---- where and of what

-- what a decision says, where it stands, and that nothing was decided before
pub record DecidedAt (n : ℕ) (past : Past) (t : Told) : Type 0 where
  pub pair : Pair
  pub before : Past
  pub newer : Past
  pub place : t.place ≡ pair ∷ before
  pub whole : past ≡ newer ++ (pair ∷ before)
  pub outcome_there : outcome n t.place ≡ Some t.closing
  pub none_before : outcome n before ≡ None
  pub invocation : Invocation
  pub is_found : invocation_of n past ≡ Some invocation
  pub dialogue : t.dialogue ≡ invocation.dialogue
  pub id : t.id ≡ invocation.id

decided_here : (n : ℕ) (pair : Pair) (past : Past) (t : Told) → outcome n past ≡ None
    → decided_at n (pair ∷ past) ≡ Some t → DecidedAt n (pair ∷ past) t
decided_here n pair past t none e = go (invocation_of n (pair ∷ past)) refl e
  where
    go2 : (i : Invocation) (c : Option Closing) → invocation_of n (pair ∷ past) ≡ Some i
        → outcome_of (Some i) (pair ∷ past) ≡ c → told_outcome (pair ∷ past) i c ≡ Some t → DecidedAt n (pair ∷ past) t
    go2 i None q w e = absurd cc
    go2 i (Some c) q w e =
        let same : record { place = pair ∷ past; dialogue = i.dialogue; id = i.id; closing = c } ≡ t = cc in
        subst (λ (t : Told). DecidedAt n (pair ∷ past) t) same (record {
          pair = pair;
          before = past;
          newer = [];
          place = refl;
          whole = refl;
          outcome_there = ap (λ o. outcome_of o (pair ∷ past)) q ∙ w;
          none_before = none;
          invocation = i;
          is_found = q;
          dialogue = refl;
          id = refl;
        })

    go : (o : Option Invocation) → invocation_of n (pair ∷ past) ≡ o → decided_of (pair ∷ past) o ≡ Some t
        → DecidedAt n (pair ∷ past) t
    go None q e = absurd cc
    go (Some i) q e = go2 i (outcome_of (Some i) (pair ∷ past)) q refl e

pub decision_place : (n : ℕ) (past : Past) (t : Told) → decision n past ≡ Some t → DecidedAt n past t
decision_place n [] t e = absurd cc
decision_place n (pair ∷ past) t e = go (decision n past) refl e (decision_place n past t)
  where
    go : (d : Option Told) → decision n past ≡ d → option_or d (decided_at n (pair ∷ past)) ≡ Some t
        → (decision n past ≡ Some t → DecidedAt n past t) → DecidedAt n (pair ∷ past) t
    go None q e more =
        let none : outcome n past ≡ None =
        sym (closing_of_decision n past) ∙ ap (option_map (λ (t : Told). t.closing)) q in
        decided_here n pair past t none e
    go (Some s) q e more =
        let d = more (q ∙ e) in
        record {
          pair = d.pair;
          before = d.before;
          newer = pair ∷ d.newer;
          place = d.place;
          whole = ap (λ z. pair ∷ z) d.whole;
          outcome_there = d.outcome_there;
          none_before = d.none_before;
          invocation = d.invocation;
          is_found = invocation_stays n pair past d.invocation d.is_found;
          dialogue = d.dialogue;
          id = d.id;
        }
