-- An invoke that was accepted drew the next number, for an identifier that was free.
use Rattle.std.proofs.Common.{◌≡◌, ℕ, ℤ, ◌+◌, ◌<◌, ◌≤◌, ◌==◌, Bool, true, false, not, cond, ◌&&◌, nat_lt, nat_le, List, [], ◌∷◌, ◌++◌, Option, Some, None, refl, ap, sym, ◌∙◌, subst, arith}
use Rattle.std.proofs.lemmas.Bool.Decides.{nat_tests}
use Rattle.std.proofs.lemmas.List.Folds.{find-append}
use Rattle.std.specs.Prelude.{find, is_some, option_to_list}
use Rattle.std.specs.Option.{option_or}
use Rattle.tcap_component.specs.Component.{CodeParts}
use Rattle.tcap_invocation.specs.declared.class.Class.{Class}
use Rattle.tcap_invocation.specs.Stage.{moment_limit}
use Rattle.tcap_model.specs.Replies.Due.{due_by, due, situation_of, standing_of}
use Rattle.tcap_model.specs.Words.Event.{Event}
use Rattle.tcap_model.specs.Words.Fault.{Fault}
use Rattle.tcap_model.specs.Replies.Held.{held}
use Rattle.tcap_model.specs.Histories.History.{History, Start}
use Rattle.tcap_model.specs.Invocations.Invocation.{Invocation, invoked_under, invoked_of, invoked_by, invokes, invocations, invocation_of, next_number}
use Rattle.tcap_model.specs.Replies.Legal.{AreReplies}
use Rattle.tcap_model.specs.Histories.Life.{Life, life}
use Rattle.tcap_model.specs.Invocations.Numbers.{number_of}
use Rattle.tcap_model.specs.Histories.Pair.{Pair, Past}
use Rattle.tcap_model.specs.Procedures.Refusals.{Situation, first_that, holds, due_on}
use Rattle.tcap_model.specs.Replies.Reply.{reply, request_answer}
use Rattle.tcap_model.specs.Words.Request.{Request, ComponentRequest}
use Rattle.tcap_model.specs.Words.State.{State}

-- a new invocation: its dialogue stands, its number is the next one, and its identifier is free
pub record Draws (h : History) (i : Invocation) : Type 0 where
  pub number : i.number ≡ next_number h
  pub state : State
  pub context : Option (List ℕ)
  pub stands : life i.dialogue h.pairs ≡ Life.standing state context
  pub free : held h.start.reject_ms i.dialogue i.id h.pairs ≡ false
  pub timely : 0 < i.timeout

-- where no fault is due, none of the list holds
none_that : (test : Fault → Bool) (before : List Fault) (f : Fault) (after : List Fault)
    → first_that test (before ++ f ∷ after) ≡ None → test f ≡ false
none_that test [] f after e = go (test f) refl e
  where
    go : (b : Bool) → test f ≡ b → cond b (Some f) (first_that test after) ≡ None → test f ≡ false
    go true q e = absurd cc
    go false q e = q
none_that test (g ∷ before) f after e = go (test g) e (none_that test before f after)
  where
    go : (b : Bool) → cond b (Some g) (first_that test (before ++ f ∷ after)) ≡ None
        → (first_that test (before ++ f ∷ after) ≡ None → test f ≡ false) → test f ≡ false
    go true e more = absurd cc
    go false e more = more e

not_in_use : (s : Situation) (id : ℤ) (class : Class) (code : CodeParts) (parameter : Option (List ℕ))
    (linked : Option ℤ) (timeout : ℕ) → due_on s
    (Request.component (ComponentRequest.invoke id class code parameter linked timeout)) ≡ None → s.is_in_use ≡ false
not_in_use s id class code parameter linked timeout e =
    none_that (holds s (Request.component (ComponentRequest.invoke id class code parameter linked timeout)))
    (Fault.unknown_dialogue ∷ Fault.bad_timeout ∷ Fault.bad_oid ∷ Fault.bad_parameter ∷ []) Fault.invoke_id_in_use
    (Fault.numbers_spent ∷ Fault.too_long ∷ Fault.out_of_memory ∷ []) e

timely : (s : Situation) (id : ℤ) (class : Class) (code : CodeParts) (parameter : Option (List ℕ)) (linked : Option ℤ)
    (timeout : ℕ) → due_on s (Request.component (ComponentRequest.invoke id class code parameter linked timeout)) ≡ None
    → 0 < timeout
timely s id class code parameter linked timeout e = go (nat_lt 0 timeout) refl not_bad
  where
    not_bad : not (nat_lt 0 timeout && nat_le timeout moment_limit) ≡ false
    not_bad = none_that (holds s (Request.component (ComponentRequest.invoke id class code parameter linked timeout)))
        (Fault.unknown_dialogue ∷ []) Fault.bad_timeout
        (Fault.bad_oid ∷ Fault.bad_parameter ∷ Fault.invoke_id_in_use ∷ Fault.numbers_spent ∷ Fault.too_long
        ∷ Fault.out_of_memory ∷ []) e

    go : (b : Bool) → nat_lt 0 timeout ≡ b → not (b && nat_le timeout moment_limit) ≡ false → 0 < timeout
    go true q e = grind (arith, nat_tests)
    go false q e = absurd cc

module _ (h : History) (dialogue : ℕ) (id : ℤ) (class : Class) (code : CodeParts) (parameter : Option (List ℕ))
    (linked : Option ℤ) (timeout : ℕ) where
  abbrev asked : Request
  asked = Request.component (ComponentRequest.invoke id class code parameter linked timeout)

  abbrev Makes : Life → Option Fault → Invocation → Type 0
  Makes l f i = invoked_under dialogue asked (number_of (request_answer h dialogue asked l f)) ≡ Some i

  draws_standing : (state : State) (context : Option (List ℕ)) (i : Invocation)
      → life dialogue h.pairs ≡ Life.standing state context → (f : Option Fault)
      → due_on (situation_of h dialogue (standing_of dialogue h.pairs state context) asked) asked ≡ f
      → Makes (Life.standing state context) f i → Draws h i
  draws_standing state context i stands (Some f) q e = absurd cc
  draws_standing state context i stands None q e =
      let same : record { number = next_number h; dialogue = dialogue; id = id; class = class; timeout = timeout } ≡ i =
      cc in
      subst (λ (i : Invocation). Draws h i) same (record {
        number = refl;
        state = state;
        context = context;
        stands = stands;
        timely = timely (situation_of h dialogue (standing_of dialogue h.pairs state context) asked) id class code
            parameter linked timeout q;
        free = not_in_use (situation_of h dialogue (standing_of dialogue h.pairs state context) asked) id class code
            parameter linked timeout q;
      })

  draws_living : (l : Life) (i : Invocation) → life dialogue h.pairs ≡ l → Makes l (due_by h dialogue asked l) i
      → Draws h i
  draws_living Life.unborn i q e = absurd cc
  draws_living Life.over i q e = absurd cc
  draws_living (Life.standing state context) i q e =
      draws_standing state context i q (due_on (situation_of h dialogue (standing_of dialogue h.pairs state context)
      asked) asked) refl e

  pub draws_asked : (i : Invocation) → Makes (life dialogue h.pairs) (due h dialogue asked) i → Draws h i
  draws_asked i e = draws_living (life dialogue h.pairs) i refl e

draws_request : (h : History) (d : ℕ) (r : Request) (i : Invocation) (o : Option ℕ)
    → number_of (reply h (Event.on_dialogue d r)) ≡ o → invoked_under d r o ≡ Some i → Draws h i
draws_request h d r i None q e = absurd cc
draws_request h d (Request.component (ComponentRequest.invoke id class code parameter linked timeout)) i (Some n) q e =
    draws_asked h d id class code parameter linked timeout i
    (ap (invoked_under d (Request.component (ComponentRequest.invoke id class code parameter linked timeout))) q
    ∙ e)
draws_request h d (Request.component (ComponentRequest.result_last id body)) i (Some n) q e = absurd cc
draws_request h d (Request.component (ComponentRequest.result_more id body)) i (Some n) q e = absurd cc
draws_request h d (Request.component (ComponentRequest.error_back id code parameter)) i (Some n) q e = absurd cc
draws_request h d (Request.component (ComponentRequest.u_reject id problem)) i (Some n) q e = absurd cc
draws_request h d (Request.component (ComponentRequest.u_cancel id)) i (Some n) q e = absurd cc
draws_request h d (Request.dialogue asked) i (Some n) q e = absurd cc

draws_reply : (h : History) (e : Event) (i : Invocation) → invoked_of e (reply h e) ≡ Some i → Draws h i
draws_reply h Event.new_dialogue i e = absurd cc
draws_reply h (Event.on_dialogue d r) i e = draws_request h d r i (number_of (reply h (Event.on_dialogue d r))) refl e
draws_reply h (Event.received from bytes) i e = absurd cc
draws_reply h (Event.moment now) i e = absurd cc

pub draws : (start : Start) (pair : Pair) (past : Past) (i : Invocation) → AreReplies start (pair ∷ past)
    → invoked_by pair ≡ Some i → Draws (record { start = start; pairs = past }) i
draws start pair past i legal e =
    draws_reply (record { start = start; pairs = past }) pair.event i (ap (invoked_of pair.event) (sym legal.1) ∙ e)

-- ---- numbers

pub invocation_step : (n : ℕ) (pair : Pair) (past : Past)
    → invocation_of n (pair ∷ past) ≡ option_or (invocation_of n past)
    (find (λ (i : Invocation). i.number == n) (option_to_list (invoked_by pair)))
invocation_step n pair past =
    find-append (λ (i : Invocation). i.number == n) (invocations past) (option_to_list (invoked_by pair))

-- a number that is found was drawn
pub record IsDrawn (start : Start) (past : Past) (n : ℕ) : Type 0 where
  pub above : start.next_number ≤ n
  pub below : n < start.next_number + invokes past

drawn_earlier : (start : Start) (pair : Pair) (past : Past) (n : ℕ) → IsDrawn start past n
    → IsDrawn start (pair ∷ past) n
drawn_earlier start pair past n d = record { above = d.above; below = go (is_some (invoked_by pair)) }
  where
    go : (b : Bool) → n < start.next_number + cond b (invokes past + 1) (invokes past)
    go true = let bound = d.below in omega arith
    go false = d.below

pub number_drawn : (start : Start) (past : Past) (n : ℕ) (i : Invocation) → AreReplies start past
    → invocation_of n past ≡ Some i → IsDrawn start past n
number_drawn start [] n i legal e = absurd cc
number_drawn start (pair ∷ past) n i legal e =
    go (invocation_of n past) (invoked_by pair) refl refl (sym (invocation_step n pair past) ∙ e)
    (λ j. number_drawn start past n j legal.2)
  where
    new : (j : Invocation) (b : Bool) → invoked_by pair ≡ Some j → (j.number == n) ≡ b
        → find (λ (i : Invocation). i.number == n) (j ∷ []) ≡ Some i → IsDrawn start (pair ∷ past) n
    new j false p q e = let never : None ≡ Some i = rw q at e in absurd cc
    new j true p q e =
        let drawn = draws start pair past j legal p in
        let number : j.number ≡ start.next_number + invokes past = drawn.number in
        let same : j.number ≡ n = grind (arith, nat_tests) in
        let counted : invokes (pair ∷ past) ≡ invokes past + 1 =
        ap (λ o. cond (is_some o) (invokes past + 1) (invokes past)) p in
        record { above = omega arith; below = omega arith }

    go : (o : Option Invocation) (p : Option Invocation) → invocation_of n past ≡ o → invoked_by pair ≡ p
        → option_or o (find (λ (i : Invocation). i.number == n) (option_to_list p)) ≡ Some i
        → ((j : Invocation) → invocation_of n past ≡ Some j → IsDrawn start past n) → IsDrawn start (pair ∷ past) n
    go (Some j) p q w e ih = drawn_earlier start pair past n (ih j q)
    go None None q w e ih = absurd cc
    go None (Some j) q w e ih = new j (j.number == n) w refl e
