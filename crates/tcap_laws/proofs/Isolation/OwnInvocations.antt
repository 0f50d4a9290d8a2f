-- Who makes an invocation, and that what a dialogue sees of a history has its own invocations and no others.
use Rattle.std.proofs.Common.{◌≡◌, ℕ, ℤ, ◌==◌, Bool, true, false, cond, ◌&&◌, List, [], ◌∷◌, ◌++◌, Option, Some, None, refl, ap, sym, ◌∙◌, arith, append-nil}
use Rattle.std.proofs.lemmas.Bool.Decides.{nat_tests}
use Rattle.std.proofs.lemmas.List.Elements.{filter-append}
use Rattle.std.specs.Prelude.{filter, find, option_to_list}
use Rattle.std.specs.Option.{option_or}
use Rattle.tcap_laws.proofs.Spans.DecisionSteps.{invocation_stays}
use Rattle.tcap_laws.proofs.Spans.DrawnInvocations.{draws}
use Rattle.tcap_laws.proofs.Isolation.SeenLives.{with_answer, unseen, unnamed_if, invoked_within, seen_or_not}
use Rattle.tcap_model.specs.Words.Answer.{Answer}
use Rattle.tcap_model.specs.Histories.Birth.{was_born}
use Rattle.tcap_model.specs.Words.Event.{Event}
use Rattle.tcap_model.specs.Histories.History.{Start}
use Rattle.tcap_model.specs.Invocations.Invocation.{Invocation, invoked_under, invoked_of, invoked_by, invocations, invocation_of, with_id, latest}
use Rattle.tcap_model.specs.Replies.Legal.{AreReplies}
use Rattle.tcap_model.specs.Histories.Life.{Life, life}
use Rattle.tcap_model.specs.Histories.Names.{names}
use Rattle.tcap_model.specs.Invocations.Numbers.{number_of}
use Rattle.tcap_model.specs.Statements.Only.{is_seen_by, only}
use Rattle.tcap_model.specs.Histories.Pair.{Pair, Past}
use Rattle.tcap_model.specs.Words.Request.{Request, ComponentRequest}

-- ---- who makes an invocation

own_request : (d : ℕ) (r : Request) (o : Option ℕ) (i : Invocation) → invoked_under d r o ≡ Some i → i.dialogue ≡ d
own_request d r None i e = absurd cc
own_request d (Request.component (ComponentRequest.invoke id class code parameter linked timeout)) (Some n) i e =
    let same : record { number = n; dialogue = d; id = id; class = class; timeout = timeout } ≡ i = cc in
    ap (λ (i : Invocation). i.dialogue) (sym same)
own_request d (Request.component (ComponentRequest.result_last id body)) (Some n) i e = absurd cc
own_request d (Request.component (ComponentRequest.result_more id body)) (Some n) i e = absurd cc
own_request d (Request.component (ComponentRequest.error_back id code parameter)) (Some n) i e = absurd cc
own_request d (Request.component (ComponentRequest.u_reject id problem)) (Some n) i e = absurd cc
own_request d (Request.component (ComponentRequest.u_cancel id)) (Some n) i e = absurd cc
own_request d (Request.dialogue asked) (Some n) i e = absurd cc

invoked_names : (event : Event) (answer : Answer) (i : Invocation) → invoked_of event answer ≡ Some i
    → names event i.dialogue ≡ true
invoked_names Event.new_dialogue answer i e = absurd cc
invoked_names (Event.on_dialogue d r) answer i e = let same =
    own_request d r (number_of answer) i e in grind (arith, nat_tests)
invoked_names (Event.received from bytes) answer i e = absurd cc
invoked_names (Event.moment now) answer i e = absurd cc

-- an invocation of the dialogue
abbrev pub is_of_dialogue : ℕ → Invocation → Bool
is_of_dialogue dialogue i = i.dialogue == dialogue

pub own_true : (dialogue : ℕ) (i : Invocation) → is_of_dialogue dialogue i ≡ true → i.dialogue ≡ dialogue
own_true dialogue i e = grind (arith, nat_tests)

pub true_own : (dialogue : ℕ) (i : Invocation) → i.dialogue ≡ dialogue → is_of_dialogue dialogue i ≡ true
true_own dialogue i e = grind (arith, nat_tests)

and_right : (a b : Bool) → (a && b) ≡ true → b ≡ true
and_right true b e = e
and_right false b e = absurd cc

seen_own : (dialogue : ℕ) (event : Event) (answer : Answer) (idle_ms : ℕ) (past : Past) (i : Invocation)
    → is_seen_by dialogue (with_answer event answer idle_ms) past ≡ true → invoked_of event answer ≡ Some i
    → is_of_dialogue dialogue i ≡ true
seen_own dialogue Event.new_dialogue answer idle_ms past i e q = absurd cc
seen_own dialogue (Event.on_dialogue d r) answer idle_ms past i e q =
    let named : (d == dialogue) ≡ true = and_right (was_born dialogue past) (d == dialogue) e in
    let same = own_request d r (number_of answer) i q in
    grind (arith, nat_tests)
seen_own dialogue (Event.received from bytes) answer idle_ms past i e q = absurd cc
seen_own dialogue (Event.moment now) answer idle_ms past i e q = absurd cc

-- ---- lists

kept : {X : Type 0} (own : X → Bool) (o : Option X) → ((x : X) → o ≡ Some x → own x ≡ true)
    → filter own (option_to_list o) ≡ option_to_list o
kept own None h = refl
kept own (Some x) h = rw (h x refl) refl

left_out : {X : Type 0} (own : X → Bool) (o : Option X) → ((x : X) → o ≡ Some x → own x ≡ false)
    → filter own (option_to_list o) ≡ []
left_out own None h = refl
left_out own (Some x) h = rw (h x refl) refl

find_filter : {X : Type 0} (test own : X → Bool) (xs : List X) → ((x : X) → find test xs ≡ Some x → own x ≡ true)
    → find test (filter own xs) ≡ find test xs
find_filter test own [] h = refl
find_filter {X = X} test own (x ∷ xs) h = go (test x) (own x) refl refl h (find_filter test own xs)
  where
    go : (t o : Bool) → test x ≡ t → own x ≡ o → ((y : X) → cond t (Some x) (find test xs) ≡ Some y → own y ≡ true)
        → (((y : X) → find test xs ≡ Some y → own y ≡ true) → find test (filter own xs) ≡ find test xs)
        → find test (cond o (x ∷ filter own xs) (filter own xs)) ≡ cond t (Some x) (find test xs)
    go true true p q h ih = rw p refl
    go true false p q h ih = let mine : own x ≡ true = h x refl in absurd cc
    go false true p q h ih = rw p (ih h)
    go false false p q h ih = ih h

-- ---- the invocations

module _ (start : Start) (dialogue : ℕ) where
  pub unseen_own : (pair : Pair) (past : Past) → AreReplies start (pair ∷ past) → is_seen_by dialogue pair past ≡ false
      → (i : Invocation) → invoked_by pair ≡ Some i → is_of_dialogue dialogue i ≡ false
  unseen_own pair past legal e i q = go (is_of_dialogue dialogue i) refl
    where
      go : (b : Bool) → is_of_dialogue dialogue i ≡ b → is_of_dialogue dialogue i ≡ false
      go false p = p
      go true p =
          let same = own_true dialogue i p in
          let drawn = draws start pair past i legal q in
          let not = unnamed_if dialogue pair past (unseen dialogue pair past e)
          (Life.standing drawn.state drawn.context) (ap (λ d. life d past) (sym same) ∙ drawn.stands) (λ never. cc)
          in
          let named = invoked_names pair.event pair.answer i q in
          let never : true ≡ false = sym named ∙ (ap (names pair.event) same ∙ not) in
          absurd cc

  pub only_invocations : (past : Past) → AreReplies start past
      → invocations (only dialogue past) ≡ filter (is_of_dialogue dialogue) (invocations past)
  only_invocations [] legal = refl
  only_invocations (pair ∷ past) legal = go (is_seen_by dialogue pair past) refl (only_invocations past legal.2)
    where
      go : (b : Bool) → is_seen_by dialogue pair past ≡ b
          → invocations (only dialogue past) ≡ filter (is_of_dialogue dialogue) (invocations past)
          → invocations (seen_or_not dialogue b pair past)
          ≡ filter (is_of_dialogue dialogue) (invocations (pair ∷ past))
      go true e same =
          ap (λ o. invocations (only dialogue past) ++ option_to_list o)
          (invoked_within dialogue pair.event pair.answer pair.idle_ms)
          ∙ (ap (λ z. z ++ option_to_list (invoked_by pair)) same
          ∙ (ap (λ z. filter (is_of_dialogue dialogue) (invocations past) ++ z)
          (sym (kept (is_of_dialogue dialogue) (invoked_by pair)
          (λ i q. seen_own dialogue pair.event pair.answer pair.idle_ms past i e q)))
          ∙ sym (filter-append (is_of_dialogue dialogue) (invocations past) (option_to_list (invoked_by pair)))))
      go false e same =
          same
          ∙ (sym (append-nil (filter (is_of_dialogue dialogue) (invocations past)))
          ∙ (ap (λ z. filter (is_of_dialogue dialogue) (invocations past) ++ z)
          (sym (left_out (is_of_dialogue dialogue) (invoked_by pair) (unseen_own pair past legal e)))
          ∙ sym (filter-append (is_of_dialogue dialogue) (invocations past) (option_to_list (invoked_by pair)))))

  pub only_latest : (id : ℤ) (past : Past) → AreReplies start past
      → latest dialogue id (only dialogue past) ≡ latest dialogue id past
  only_latest id [] legal = refl
  only_latest id (pair ∷ past) legal = go (is_seen_by dialogue pair past) refl (only_latest id past legal.2)
    where
      go : (b : Bool) → is_seen_by dialogue pair past ≡ b
          → latest dialogue id (only dialogue past) ≡ latest dialogue id past
          → latest dialogue id (seen_or_not dialogue b pair past) ≡ latest dialogue id (pair ∷ past)
      go true e same = ap (λ o. option_or (with_id dialogue id o) (latest dialogue id (only dialogue past)))
          (invoked_within dialogue pair.event pair.answer pair.idle_ms) ∙ ap (option_or (with_id dialogue id (invoked_by pair))) same
      go false e same = same ∙ ap (λ o. option_or o (latest dialogue id past))
          (sym (none (invoked_by pair) (unseen_own pair past legal e)))
        where
          none : (o : Option Invocation) → ((i : Invocation) → o ≡ Some i → is_of_dialogue dialogue i ≡ false)
              → with_id dialogue id o ≡ None
          none None h = refl
          none (Some i) h = rw (h i refl) refl

  -- a number that no other dialogue's invocation has
  abbrev pub IsOwn : ℕ → Past → Type 0
  IsOwn n past = (i : Invocation) → invocation_of n past ≡ Some i → i.dialogue ≡ dialogue

  pub own_before : (n : ℕ) (pair : Pair) (past : Past) → IsOwn n (pair ∷ past) → IsOwn n past
  own_before n pair past own = λ i e. own i (invocation_stays n pair past i e)

  pub only_invocation : (n : ℕ) (past : Past) → AreReplies start past → IsOwn n past
      → invocation_of n (only dialogue past) ≡ invocation_of n past
  only_invocation n past legal own =
      ap (find (λ (i : Invocation). i.number == n)) (only_invocations past legal)
      ∙ find_filter (λ (i : Invocation). i.number == n) (is_of_dialogue dialogue) (invocations past)
      (λ i e. true_own dialogue i (own i e))
