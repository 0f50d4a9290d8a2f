-- What a request on a dialogue submits is what it adds to the queue, and a request that sends empties both.
use Rattle.std.proofs.Common.{◌≡◌, ℕ, ℤ, ◌==◌, ◌&&◌, true, false, Bool, List, [], ◌∷◌, ◌++◌, Option, Some, None, if◌then◌else◌, refl, sym, ap, subst, ◌∙◌, append-nil, IsTrue}
use Rattle.std.proofs.lemmas.Bool.{true≢false}
use Rattle.tcap_component.specs.Component.{ComponentParts}
use Rattle.tcap_component.specs.Component.ComponentParts.{invoke, result_last, error_back, reject_back, result_more}
use Rattle.tcap_model.specs.Words.Answer.{Answer, is_accepted}
use Rattle.tcap_model.specs.Procedures.ComponentRequest.{component_of}
use Rattle.tcap_model.specs.Replies.Due.{due, standing_of}
use Rattle.tcap_model.specs.Words.Event.{Event}
use Rattle.tcap_model.specs.Words.Fault.{Fault}
use Rattle.tcap_model.specs.Replies.Held.{pending}
use Rattle.tcap_model.specs.Histories.History.{History}
use Rattle.tcap_model.specs.Words.InRange.{is_request}
use Rattle.tcap_model.specs.Invocations.Invocation.{next_number}
use Rattle.tcap_model.specs.Histories.Life.{Life, life}
use Rattle.tcap_model.specs.Histories.Pair.{Pair, Past}
use Rattle.tcap_model.specs.Replies.Queue.{queue_if_accepted, queue_by_request, queue}
use Rattle.tcap_model.specs.Procedures.QueueRules.{Invoking, Queued, queued, without_invoke}
use Rattle.tcap_model.specs.Replies.Reply.{reply, given_up_answer, accepted_answer, request_answer}
use Rattle.tcap_model.specs.Words.Request.{Request, Ending, ComponentRequest, DialogueRequest}
use Rattle.tcap_model.specs.Words.State.{State}
use Rattle.tcap_model.specs.Statements.Submitted.{Submitted, sends_components, is_sending, given_up_in, given_up_on, without_given_up, asked_for, submitted_at, unsent}
use Rattle.tcap_laws.proofs.Queues.QueuedComponents.{accepted-parts, accepted-good}
use Rattle.tcap_laws.proofs.Queues.RequestedComponents.{IfGood}
use Rattle.tcap_laws.proofs.Submission.SubmittedParts.{AreWritten, IsWrittenAs, written-append, left_submitted, left-append, left-all, left-cancelled, written-without}
use Rattle.tcap_laws.proofs.BoolLemmas.{and_false}

-- what waits beside what is unsent, whatever is given up later
abbrev pub WaitsUnsent : ℕ → Past → Type 0
WaitsUnsent d past = (given : List ℕ) → AreWritten (unsent d given past) (left_submitted given (queue d past))

pub waits-now : (d : ℕ) (past : Past) → WaitsUnsent d past → AreWritten (unsent d [] past) (queue d past)
waits-now d past waits = subst (AreWritten (unsent d [] past)) (left-all (queue d past)) (waits [])

-- ---- what one pair does

-- what is unsent after a pair that sends or not, gives these numbers up, and submits these components
abbrev unsent_after : ℕ → Past → List ℕ → Bool → List ℕ → List Submitted → List Submitted
unsent_after d past given sending now made =
    if sending then [] else unsent d (now ++ given) past ++ without_given_up given made

module _ (d : ℕ) (pair : Pair) (past : Past) (waits : WaitsUnsent d past) where
  abbrev pub Follows : Bool → List ℕ → List Submitted → List Queued → Type 0
  Follows sending now made after =
      (given : List ℕ) → AreWritten (unsent_after d past given sending now made) (left_submitted given after)

  unsent-is : (given : List ℕ) (sending : Bool) (now : List ℕ) (made : List Submitted) → is_sending d pair ≡ sending →
      given_up_on d pair.event pair.answer ≡ now → submitted_at d pair past ≡ made →
      unsent d given (pair ∷ past) ≡ unsent_after d past given sending now made
  unsent-is given sending now made is_it is_now is_made =
      ap (λ b. unsent_after d past given b (given_up_on d pair.event pair.answer) (submitted_at d pair past)) is_it
      ∙ (ap (λ ns. unsent_after d past given sending ns (submitted_at d pair past)) is_now
      ∙ ap (unsent_after d past given sending now) is_made)

  pub step : (sending : Bool) (now : List ℕ) (made : List Submitted) (after : List Queued) →
      is_sending d pair ≡ sending → given_up_on d pair.event pair.answer ≡ now → submitted_at d pair past ≡ made →
      queue d (pair ∷ past) ≡ after → Follows sending now made after → WaitsUnsent d (pair ∷ past)
  step sending now made after is_it is_now is_made is_after follows given =
      subst (λ (qs : List Queued). AreWritten (unsent d given (pair ∷ past)) (left_submitted given qs)) (sym is_after)
      (subst (λ (ss : List Submitted). AreWritten ss (left_submitted given after))
      (sym (unsent-is given sending now made is_it is_now is_made)) (follows given))

  -- nothing
  pub stays : Follows false [] [] (queue d past)
  stays given =
      subst (λ (ss : List Submitted). AreWritten ss (left_submitted given (queue d past)))
      (sym (append-nil (unsent d given past))) (waits given)

  -- something more waits
  pub more : (made : List Submitted) (added : List Queued) → AreWritten made added →
      Follows false [] made (queue d past ++ added)
  more made added are given =
      subst (AreWritten (unsent d given past ++ without_given_up given made))
      (sym (left-append given (queue d past) added))
      (written-append (unsent d given past) (without_given_up given made) (left_submitted given (queue d past))
      (left_submitted given added) (waits given) (written-without given made added are))

  -- an Invoke is taken out
  fewer : (n : ℕ) → Follows false (n ∷ []) [] (without_invoke n (queue d past))
  fewer n given =
      subst (λ (ss : List Submitted). AreWritten ss (left_submitted given (without_invoke n (queue d past))))
      (sym (append-nil (unsent d (n ∷ given) past)))
      (subst (AreWritten (unsent d (n ∷ given) past)) (left-cancelled n given (queue d past)) (waits (n ∷ given)))

-- ---- requests

module _ (h : History) (d named idle_ms : ℕ) (same : (named == d) ≡ true) (waits : WaitsUnsent d h.pairs) where
  abbrev with_answer : Request → Answer → Pair
  with_answer request answer =
      record { event = Event.on_dialogue named request; answer = answer; idle_ms = idle_ms }

  abbrev After : Request → Answer → Type 0
  After request answer = WaitsUnsent d (with_answer request answer ∷ h.pairs)

  abbrev waiting : List Queued
  waiting = queue d h.pairs

  -- a request on the dialogue
  asked : (request : Request) (answer : Answer) (sending : Bool) (now : List ℕ) (made : List Submitted)
      (after : List Queued) → (sends_components request && is_accepted answer) ≡ sending → given_up_in answer ≡ now →
      (if is_accepted answer then asked_for request answer else []) ≡ made →
      queue_if_accepted (is_accepted answer) waiting request answer ≡ after →
      Follows d (with_answer request answer) h.pairs waits sending now made after → After request answer
  asked request answer sending now made after is_it is_now is_made is_after follows =
      step d (with_answer request answer) h.pairs waits sending now made after
      (ap (λ (b : Bool). (b && sends_components request) && is_accepted answer) same ∙ is_it)
      (ap (λ (b : Bool). if b then given_up_in answer else []) same ∙ is_now)
      (ap (λ (b : Bool). if b && is_accepted answer then asked_for request answer else []) same ∙ is_made)
      (ap (λ b. if b then queue_if_accepted (is_accepted answer) waiting request answer else waiting) same ∙ is_after)
      follows

  -- a component more
  component : (request : Request) (answer : Answer) (made : Submitted) (invoking : Option Invoking)
      (c : ComponentParts) → sends_components request ≡ false → is_accepted answer ≡ true → given_up_in answer ≡ [] →
      asked_for request answer ≡ made ∷ [] →
      queue_by_request waiting request answer ≡ waiting ++ queued invoking c ∷ [] →
      IsWrittenAs made (queued invoking c) → After request answer
  component request answer made invoking c none accepted kept is_made is_after is =
      asked request answer false [] (made ∷ []) (waiting ++ queued invoking c ∷ [])
      (ap (λ (b : Bool). b && is_accepted answer) none) kept
      (ap (λ (b : Bool). if b then asked_for request answer else []) accepted ∙ is_made)
      (ap (λ (b : Bool). queue_if_accepted b waiting request answer) accepted ∙ is_after)
      (more d (with_answer request answer) h.pairs waits (made ∷ []) (queued invoking c ∷ []) (is, tt))

  -- of a request that makes no invocation
  plain : (request : Request) (c : ComponentParts) → sends_components request ≡ false → IfGood (Some c) →
      asked_for request Answer.done ≡ record { component = c; number = None } ∷ [] →
      queue_by_request waiting request Answer.done ≡ waiting ++ queued None c ∷ [] → After request Answer.done
  plain request c none good is_made is_after =
      component request Answer.done (record { component = c; number = None }) None c none refl refl is_made is_after
      (record { is_octets = refl; is_number = refl; in_range = good.0; can = good.1 })

  cancelled : (id : ℤ) (given : Option ℕ) → is_accepted (given_up_answer given) ≡ true →
      After (Request.component (ComponentRequest.u_cancel id)) (given_up_answer given)
  cancelled id None accepted = absurd (true≢false (sym accepted))
  cancelled id (Some n) accepted =
      asked (Request.component (ComponentRequest.u_cancel id)) (Answer.given_up n) false (n ∷ []) []
      (without_invoke n waiting) refl refl refl refl
      (fewer d (with_answer (Request.component (ComponentRequest.u_cancel id)) (Answer.given_up n)) h.pairs waits n)

  abbrev accepted_to : State → Option (List ℕ) → Request → Answer
  accepted_to state context request = accepted_answer h (standing_of named h.pairs state context) request

  -- all that waits is sent
  sent : (request : Request) (answer : Answer) → (sends_components request && is_accepted answer) ≡ true →
      given_up_in answer ≡ [] → (if is_accepted answer then asked_for request answer else []) ≡ [] →
      queue_if_accepted (is_accepted answer) waiting request answer ≡ [] → After request answer
  sent request answer is_it is_now is_made is_after =
      asked request answer true [] [] [] is_it is_now is_made is_after (λ given. tt)

  accepted-waits : (request : Request) (s : State) (c : Option (List ℕ)) → IfGood (component_of request) →
      is_accepted (accepted_to s c request) ≡ true → After request (accepted_to s c request)
  accepted-waits (Request.component (ComponentRequest.invoke id class code parameter linked timeout)) s c good
      accepted =
      let n = next_number h in
      let part : ComponentParts = invoke id linked code parameter in
      component (Request.component (ComponentRequest.invoke id class code parameter linked timeout)) (Answer.number n)
      (record { component = part; number = Some n }) (Some (record { number = n; class = class })) part
      refl refl refl refl refl (record { is_octets = refl; is_number = refl; in_range = good.0; can = good.1 })
  accepted-waits (Request.component (ComponentRequest.result_last id body)) s c good accepted =
      plain (Request.component (ComponentRequest.result_last id body)) (result_last id body) refl good refl refl
  accepted-waits (Request.component (ComponentRequest.result_more id body)) s c good accepted =
      plain (Request.component (ComponentRequest.result_more id body)) (result_more id body) refl good refl refl
  accepted-waits (Request.component (ComponentRequest.error_back id code parameter)) s c good accepted =
      plain (Request.component (ComponentRequest.error_back id code parameter)) (error_back id code parameter) refl good
      refl refl
  accepted-waits (Request.component (ComponentRequest.u_reject id problem)) s c good accepted =
      plain (Request.component (ComponentRequest.u_reject id problem)) (reject_back id problem) refl good refl refl
  accepted-waits (Request.component (ComponentRequest.u_cancel id)) s c good accepted =
      cancelled id (pending named id h.pairs) accepted
  accepted-waits (Request.dialogue (DialogueRequest.uni to context info)) s c good accepted =
      sent (Request.dialogue (DialogueRequest.uni to context info))
      (accepted_to s c (Request.dialogue (DialogueRequest.uni to context info))) refl refl refl refl
  accepted-waits (Request.dialogue (DialogueRequest.begin to context info)) s c good accepted =
      sent (Request.dialogue (DialogueRequest.begin to context info))
      (accepted_to s c (Request.dialogue (DialogueRequest.begin to context info))) refl refl refl refl
  accepted-waits (Request.dialogue (DialogueRequest.go_on context info)) s c good accepted =
      sent (Request.dialogue (DialogueRequest.go_on context info))
      (accepted_to s c (Request.dialogue (DialogueRequest.go_on context info))) refl refl refl refl
  accepted-waits (Request.dialogue (DialogueRequest.finish Ending.basic context info)) s c good accepted =
      let r : Request = Request.dialogue (DialogueRequest.finish Ending.basic context info) in
      sent r (accepted_to s c r) refl refl refl refl
  accepted-waits (Request.dialogue (DialogueRequest.finish Ending.prearranged context info)) s c good accepted =
      let r : Request = Request.dialogue (DialogueRequest.finish Ending.prearranged context info) in
      let answer : Answer = accepted_to s c r in
      asked r answer false [] [] waiting refl refl refl refl (stays d (with_answer r answer) h.pairs waits)
  accepted-waits (Request.dialogue (DialogueRequest.u_abort why info)) s c good accepted =
      let r : Request = Request.dialogue (DialogueRequest.u_abort why info) in
      let answer : Answer = accepted_to s c r in
      asked r answer false [] [] waiting refl refl refl refl (stays d (with_answer r answer) h.pairs waits)

  refused-waits : (request : Request) (answer : Answer) → is_accepted answer ≡ false → After request answer
  refused-waits request (Answer.new_dialogue dialogue) e = absurd (true≢false e)
  refused-waits request (Answer.number number) e = absurd (true≢false e)
  refused-waits request Answer.done e = absurd (true≢false e)
  refused-waits request (Answer.given_up number) e = absurd (true≢false e)
  refused-waits request (Answer.outputs outputs) e = absurd (true≢false e)
  refused-waits request (Answer.refused fault) e =
      asked request (Answer.refused fault) false [] [] waiting (and_false (sends_components request)) refl refl refl
      (stays d (with_answer request (Answer.refused fault)) h.pairs waits)

  pub request-waits : (request : Request) (answer : Answer) → IsTrue (is_request request) →
      answer ≡ reply h (Event.on_dialogue named request) → (accepted : Bool) → is_accepted answer ≡ accepted →
      After request answer
  request-waits request answer range is_reply false e = refused-waits request answer e
  request-waits request answer range is_reply true e =
      let accepted : is_accepted (reply h (Event.on_dialogue named request)) ≡ true =
      sym (ap is_accepted is_reply) ∙ e in
      let parts = accepted-parts h named request (life named h.pairs) (due h named request) accepted in
      let is : answer ≡ accepted_to parts.0 parts.1 request =
      is_reply
      ∙ (ap (λ (f : Option Fault). request_answer h named request (life named h.pairs) f) parts.3
      ∙ ap (λ (l : Life). request_answer h named request l None) parts.2) in
      let good = accepted-good h named request range accepted in
      subst (λ (a : Answer). After request a) (sym is)
      (accepted-waits request parts.0 parts.1 good (sym (ap is_accepted is) ∙ e))
