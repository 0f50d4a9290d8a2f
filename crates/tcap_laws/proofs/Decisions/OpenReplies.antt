-- What each answer tells of an open invocation is what the marks of its event decide.
use Rattle.std.proofs.Common.{◌≡◌, ℕ, ℤ, ◌==◌, Bool, true, false, cond, List, [], ◌∷◌, Option, Some, None, refl, ap, sym, ◌∙◌, subst, arith}
use Rattle.std.proofs.lemmas.Bool.Decides.{nat_tests, Decides-int_eq}
use Rattle.std.specs.Prelude.{find, is_none, option_to_list}
use Rattle.std.specs.Option.{option_or}
use Rattle.std.specs.Ordering.{int_eq}
use Rattle.tcap_laws.proofs.Spans.MarksAfterBirth.{was_alive, stays_alive, noted_at_clock}
use Rattle.tcap_laws.proofs.Decisions.ComponentTellings.{unless}
use Rattle.tcap_laws.proofs.Spans.DrawnInvocations.{Draws, draws, invocation_step}
use Rattle.tcap_laws.proofs.Spans.EventMarks.{unnamed_marks, standing_marks, over_marks, unborn_marks}
use Rattle.tcap_laws.proofs.Decisions.OpenNumbers.{wanted, nothing_wanted, other_identifier, quiet_elsewhere, last_here}
use Rattle.tcap_laws.proofs.Decisions.QuietDialogues.{request_quiet}
use Rattle.tcap_laws.proofs.Spans.SupersededInvocations.{found_own}
use Rattle.tcap_laws.proofs.Decisions.ToldOutputs.{asked_silent}
use Rattle.tcap_laws.proofs.Decisions.ToldParts.{gain, own}
use Rattle.tcap_model.specs.Words.Answer.{Answer, is_accepted}
use Rattle.tcap_model.specs.Histories.Clock.{clock}
use Rattle.tcap_model.specs.Invocations.Closings.{Told, told_if, told_by_answer}
use Rattle.tcap_model.specs.Replies.Due.{standing_of, due_by, due}
use Rattle.tcap_model.specs.Words.Event.{Event}
use Rattle.tcap_model.specs.Words.Fault.{Fault}
use Rattle.tcap_model.specs.Replies.Held.{pending, if_pending}
use Rattle.tcap_model.specs.Histories.History.{History, Start}
use Rattle.tcap_model.specs.Invocations.Invocation.{Invocation, invoked_by, invocation_of, latest}
use Rattle.tcap_model.specs.Replies.Legal.{AreReplies}
use Rattle.tcap_model.specs.Histories.Life.{Life, life, touched, life_by_event}
use Rattle.tcap_model.specs.Invocations.Marks.{Mark, marks, marks_by_event}
use Rattle.tcap_model.specs.Invocations.Outcome.{first_closing, outcome_of, outcome}
use Rattle.tcap_model.specs.Words.Output.{Closing}
use Rattle.tcap_model.specs.Histories.Pair.{Past}
use Rattle.tcap_model.specs.Replies.Reply.{given_up_answer, accepted_answer, request_answer, reply}
use Rattle.tcap_model.specs.Words.Request.{Request, Ending, ComponentRequest, DialogueRequest}
use Rattle.tcap_model.specs.Invocations.Span.{span}
use Rattle.tcap_model.specs.Words.State.{State}

-- ---- the dialogue of an invocation was created

pub found_alive : (start : Start) (past : Past) (n : ℕ) (i : Invocation) → AreReplies start past
    → invocation_of n past ≡ Some i → was_alive (life i.dialogue past) ≡ true
found_alive start [] n i legal e = absurd cc
found_alive start (pair ∷ past) n i legal e =
    stays_alive i.dialogue (touched i.dialogue past) (life i.dialogue past) pair
    (go (invocation_of n past) (invoked_by pair) refl refl (sym (invocation_step n pair past) ∙ e)
    (λ q. found_alive start past n i legal.2 q))
  where
    new : (j : Invocation) (b : Bool) → invoked_by pair ≡ Some j → cond b (Some j) None ≡ Some i
        → was_alive (life i.dialogue past) ≡ true
    new j false p e = absurd cc
    new j true p e =
        let same : j ≡ i = cc in
        let drawn : Draws (record { start = start; pairs = past }) j = draws start pair past j legal p in
        ap (λ (i : Invocation). was_alive (life i.dialogue past)) (sym same) ∙ ap was_alive drawn.stands

    go : (o p : Option Invocation) → invocation_of n past ≡ o → invoked_by pair ≡ p
        → option_or o (find (λ (i : Invocation). i.number == n) (option_to_list p)) ≡ Some i
        → (invocation_of n past ≡ Some i → was_alive (life i.dialogue past) ≡ true)
        → was_alive (life i.dialogue past) ≡ true
    go (Some j) p q w e ih = ih (q ∙ e)
    go None None q w e ih = absurd cc
    go None (Some j) q w e ih = new j (j.number == n) w e

module _ (start : Start) (past place : Past) (n : ℕ) (i : Invocation) (legal : AreReplies start past)
    (found : invocation_of n past ≡ Some i) (here : latest i.dialogue i.id past ≡ Some i) where
  abbrev pub h : History
  h = record { start = start; pairs = past }

  me : (i.number == n) ≡ true
  me = own start past place n i legal found

  own_dialogue : (i.dialogue == i.dialogue) ≡ true
  own_dialogue = grind (arith, nat_tests)

  abbrev pub closed : Option Closing
  closed = first_closing i.class i.timeout (span i past)

  nothing : wanted place past i [] ≡ []
  nothing = nothing_wanted place past i

  -- ---- requests on its dialogue

  abbrev telling : ℤ → Told
  telling k = record { place = place; dialogue = i.dialogue; id = k; closing = Closing.given_up }

  module _ (s : State) (c : Option (List ℕ)) where
    abbrev AnswersTo : Request → Answer → Type 0
    AnswersTo r a = told_by_answer n place (Event.on_dialogue i.dialogue r) a
        ≡ wanted place past i (noted_at_clock (clock past)
        (marks_by_event i.id (Life.standing s c) (life_by_event start.idle_ms (touched i.dialogue past) s c
        (Event.on_dialogue i.dialogue r) (is_accepted a)) (Event.on_dialogue i.dialogue r) (is_accepted a)))

    cancel_here : (id : ℤ) (o : Option ℕ) → pending i.dialogue id past ≡ o
        → AnswersTo (Request.component (ComponentRequest.u_cancel id)) (given_up_answer o)
    cancel_here id None q = sym nothing
    cancel_here id (Some m) q = go (int_eq id i.id) refl
      where
        mine : (f : Option Closing) → closed ≡ f → id ≡ i.id → cond (is_none f) (Some i.number) None ≡ Some m
            → told_if n m (telling id) ≡ unless f (gain place i (Some Closing.given_up))
        mine (Some x) w same e = absurd cc
        mine None w same e =
            let number : i.number ≡ m = cc in
            let is : (m == n) ≡ true = ap (λ k. k == n) (sym number) ∙ me in
            rw is (ap (λ (k : ℤ). telling k ∷ []) same)

        go : (b : Bool) → int_eq id i.id ≡ b → told_if n m (telling id)
            ≡ wanted place past i (noted_at_clock (clock past) (cond b (Mark.given_up ∷ []) []))
        go false p = let other = other_identifier start past place n i legal found id p m q in rw other (sym nothing)
        go true p =
            let same : id ≡ i.id = (Decides-int_eq id i.id).0 p in
            let open_number : outcome i.number past ≡ closed =
            ap (λ o. outcome_of o past) (found_own start past n i legal found) in
            let number : cond (is_none closed) (Some i.number) None ≡ Some m =
            ap (λ o. cond (is_none o) (Some i.number) None) (sym open_number)
            ∙ (ap (if_pending past) (sym here) ∙ (ap (λ (k : ℤ). pending i.dialogue k past) (sym same) ∙ q)) in
            mine closed refl same number

    accepted_here : (r : Request) → AnswersTo r (accepted_answer h (standing_of i.dialogue past s c) r)
    accepted_here (Request.component (ComponentRequest.invoke id class code parameter linked timeout)) = sym nothing
    accepted_here (Request.component (ComponentRequest.result_last id body)) = sym nothing
    accepted_here (Request.component (ComponentRequest.result_more id body)) = sym nothing
    accepted_here (Request.component (ComponentRequest.error_back id code parameter)) = sym nothing
    accepted_here (Request.component (ComponentRequest.u_reject id problem)) = sym nothing
    accepted_here (Request.component (ComponentRequest.u_cancel id)) = cancel_here id (pending i.dialogue id past) refl
    accepted_here (Request.dialogue (DialogueRequest.uni to asked info)) =
        last_here start past place n i legal found (standing_of i.dialogue past s c)
        (Request.dialogue (DialogueRequest.uni to asked info))
    accepted_here (Request.dialogue (DialogueRequest.begin to asked info)) =
        asked_silent n place past (standing_of i.dialogue past s c)
        (Request.dialogue (DialogueRequest.begin to asked info)) ∙ sym nothing
    accepted_here (Request.dialogue (DialogueRequest.go_on asked info)) =
        asked_silent n place past (standing_of i.dialogue past s c)
        (Request.dialogue (DialogueRequest.go_on asked info)) ∙ sym nothing
    accepted_here (Request.dialogue (DialogueRequest.finish Ending.basic asked info)) =
        last_here start past place n i legal found (standing_of i.dialogue past s c)
        (Request.dialogue (DialogueRequest.finish Ending.basic asked info))
    accepted_here (Request.dialogue (DialogueRequest.finish Ending.prearranged asked info)) =
        last_here start past place n i legal found (standing_of i.dialogue past s c)
        (Request.dialogue (DialogueRequest.finish Ending.prearranged asked info))
    accepted_here (Request.dialogue (DialogueRequest.u_abort why info)) =
        last_here start past place n i legal found (standing_of i.dialogue past s c)
        (Request.dialogue (DialogueRequest.u_abort why info))

    request_here : (r : Request) (f : Option Fault) → AnswersTo r (request_answer h i.dialogue r (Life.standing s c) f)
    request_here r (Some f) = sym nothing
    request_here r None = accepted_here r

  -- what an answer tells is what the marks of its pair decide
  abbrev pub Answers : Event → Answer → Type 0
  Answers event answer =
      told_by_answer n place event answer ≡ wanted place past i
      (marks i.dialogue i.id (record { event = event; answer = answer; idle_ms = start.idle_ms }) past)

  -- without marks nothing is told
  pub silent : (event : Event) (answer : Answer) → told_by_answer n place event answer ≡ []
      → marks i.dialogue i.id (record { event = event; answer = answer; idle_ms = start.idle_ms }) past ≡ [] → Answers event answer
  silent event answer e q = e ∙ (sym nothing ∙ ap (wanted place past i) (sym q))

  on_own_dialogue : (r : Request) → Answers (Event.on_dialogue i.dialogue r) (reply h (Event.on_dialogue i.dialogue r))
  on_own_dialogue r = go (life i.dialogue past) refl
    where
      go : (l : Life) → life i.dialogue past ≡ l → Answers (Event.on_dialogue i.dialogue r)
          (request_answer h i.dialogue r l (due_by h i.dialogue r l))
      go Life.unborn q = silent (Event.on_dialogue i.dialogue r) (Answer.refused Fault.unknown_dialogue) refl
          (unborn_marks i.dialogue i.id (Event.on_dialogue i.dialogue r) (Answer.refused Fault.unknown_dialogue)
          start.idle_ms past q)
      go Life.over q = silent (Event.on_dialogue i.dialogue r) (Answer.refused Fault.unknown_dialogue) refl
          (over_marks i.dialogue i.id (Event.on_dialogue i.dialogue r) (Answer.refused Fault.unknown_dialogue)
          start.idle_ms past q
          own_dialogue)
      go (Life.standing s c) q =
          request_here s c r (due_by h i.dialogue r (Life.standing s c))
          ∙ ap (wanted place past i) (sym (standing_marks i.dialogue i.id (Event.on_dialogue i.dialogue r)
          (request_answer h i.dialogue r (Life.standing s c) (due_by h i.dialogue r (Life.standing s c))) start.idle_ms
          past s c q
          own_dialogue))

  pub on_any_dialogue : (d : ℕ) (r : Request) → Answers (Event.on_dialogue d r) (reply h (Event.on_dialogue d r))
  on_any_dialogue d r = go (d == i.dialogue) refl
    where
      go : (b : Bool) → (d == i.dialogue) ≡ b → Answers (Event.on_dialogue d r) (reply h (Event.on_dialogue d r))
      go true q =
          let same : d ≡ i.dialogue = grind (arith, nat_tests) in
          subst (λ (d : ℕ). Answers (Event.on_dialogue d r) (reply h (Event.on_dialogue d r))) (sym same)
          (on_own_dialogue r)
      go false q =
          silent (Event.on_dialogue d r) (reply h (Event.on_dialogue d r))
          (request_quiet n place h d (quiet_elsewhere start past place n i legal found d
          (λ same. let is : (d == i.dialogue) ≡ true = grind (arith, nat_tests) in cc)) r (life d past) (due h d r))
          (unnamed_marks i.dialogue i.id (Event.on_dialogue d r) (reply h (Event.on_dialogue d r)) start.idle_ms
          past q)
