-- What is known of a request that was accepted, and of one that made an invocation.
use Rattle.std.proofs.Common.{◌≡◌, ℕ, ℤ, true, ◌&&◌, List, Option, Some, None, refl, ap, subst}
use Rattle.std.proofs.lemmas.Bool.{and_parts}
use Rattle.tcap_component.specs.Component.{CodeParts}
use Rattle.tcap_model.specs.Words.Answer.{Answer, is_accepted}
use Rattle.tcap_model.specs.Replies.Due.{due_by, situation_of, standing_of}
use Rattle.tcap_model.specs.Words.Event.{Event}
use Rattle.tcap_model.specs.Words.Fault.{Fault}
use Rattle.tcap_model.specs.Histories.History.{History}
use Rattle.tcap_model.specs.Words.InRange.{InRange, are_octets_if_any, is_code, is_identifier, is_identifier_if_any, is_long, is_request, is_short}
use Rattle.tcap_model.specs.Invocations.Invocation.{Invocation, invoked_by, invoked_of, invoked_under}
use Rattle.tcap_model.specs.Histories.Life.{Life, life}
use Rattle.tcap_model.specs.Invocations.Numbers.{number_of}
use Rattle.tcap_model.specs.Histories.Pair.{Pair}
use Rattle.tcap_model.specs.Procedures.Refusals.{due_on}
use Rattle.tcap_model.specs.Replies.Reply.{reply, request_answer}
use Rattle.tcap_model.specs.Words.Request.{Request, ComponentRequest}
use Rattle.tcap_model.specs.Words.State.{State}

-- ---- accepted

-- the dialogue stands, and no fault is due
pub record IsAccepted (h : History) (dialogue : ℕ) (request : Request) : Type 0 where
  pub state : State
  pub context : Option (List ℕ)
  pub stands : life dialogue h.pairs ≡ Life.standing state context
  pub faultless : due_on (situation_of h dialogue (standing_of dialogue h.pairs state context) request) request ≡ None

module _ (h : History) (dialogue : ℕ) (request : Request) where
  accepted-standing : (state : State) (context : Option (List ℕ)) (fault : Option Fault)
      → life dialogue h.pairs ≡ Life.standing state context
      → due_on (situation_of h dialogue (standing_of dialogue h.pairs state context) request) request ≡ fault
      → is_accepted (request_answer h dialogue request (Life.standing state context) fault) ≡ true
      → IsAccepted h dialogue request
  accepted-standing state context (Some fault) stands due e = absurd cc
  accepted-standing state context None stands due e =
      record { state = state; context = context; stands = stands; faultless = due }

  accepted-living : (before : Life) → life dialogue h.pairs ≡ before
      → is_accepted (request_answer h dialogue request before (due_by h dialogue request before)) ≡ true
      → IsAccepted h dialogue request
  accepted-living Life.unborn q e = absurd cc
  accepted-living (Life.standing state context) q e =
      accepted-standing state context (due_on (situation_of h dialogue (standing_of dialogue h.pairs state context)
      request) request) q refl e
  accepted-living Life.over q e = absurd cc

  pub accepted-request : is_accepted (reply h (Event.on_dialogue dialogue request)) ≡ true
      → IsAccepted h dialogue request
  accepted-request e = accepted-living (life dialogue h.pairs) refl e

-- ---- made

-- the request and the answer that made an invocation
pub record IsInvoke (pair : Pair) (i : Invocation) : Type 0 where
  pub code : CodeParts
  pub parameter : Option (List ℕ)
  pub linked : Option ℤ
  pub event : pair.event ≡ Event.on_dialogue i.dialogue
      (Request.component (ComponentRequest.invoke i.id i.class code parameter linked i.timeout))
  pub answer : pair.answer ≡ Answer.number i.number

numbered : (answer : Answer) (n : ℕ) → number_of answer ≡ Some n → answer ≡ Answer.number n
numbered (Answer.new_dialogue dialogue) n e = absurd cc
numbered (Answer.number m) n e = let same : m ≡ n = cc in ap (λ (k : ℕ). Answer.number k) same
numbered Answer.done n e = absurd cc
numbered (Answer.given_up m) n e = absurd cc
numbered (Answer.outputs outputs) n e = absurd cc
numbered (Answer.refused fault) n e = absurd cc

abbrev requested_pair : ℕ → Request → Answer → ℕ → Pair
requested_pair dialogue request answer idle_ms =
    record { event = Event.on_dialogue dialogue request; answer = answer; idle_ms = idle_ms }

invoked-under : (dialogue : ℕ) (request : Request) (answer : Answer) (idle_ms : ℕ) (i : Invocation) (o : Option ℕ)
    → number_of answer ≡ o → invoked_under dialogue request o ≡ Some i
    → IsInvoke (requested_pair dialogue request answer idle_ms) i
invoked-under dialogue request answer idle_ms i None q e = absurd cc
invoked-under dialogue (Request.component (ComponentRequest.invoke id class code parameter linked timeout)) answer
    idle_ms i (Some n) q e =
    let same : record { number = n; dialogue = dialogue; id = id; class = class; timeout = timeout } ≡ i = cc in
    subst (λ (i : Invocation). IsInvoke (requested_pair dialogue
    (Request.component (ComponentRequest.invoke id class code parameter linked timeout)) answer idle_ms) i) same
    (record { code = code; parameter = parameter; linked = linked; event = refl; answer = numbered answer n q })
invoked-under dialogue (Request.component (ComponentRequest.result_last id body)) answer idle_ms i (Some n) q e = absurd cc
invoked-under dialogue (Request.component (ComponentRequest.result_more id body)) answer idle_ms i (Some n) q e = absurd cc
invoked-under dialogue (Request.component (ComponentRequest.error_back id code parameter)) answer idle_ms i (Some n) q e =
    absurd cc
invoked-under dialogue (Request.component (ComponentRequest.u_reject id problem)) answer idle_ms i (Some n) q e = absurd cc
invoked-under dialogue (Request.component (ComponentRequest.u_cancel id)) answer idle_ms i (Some n) q e = absurd cc
invoked-under dialogue (Request.dialogue asked) answer idle_ms i (Some n) q e = absurd cc

invoked-of : (event : Event) (answer : Answer) (idle_ms : ℕ) (i : Invocation) → invoked_of event answer ≡ Some i
    → IsInvoke (record { event = event; answer = answer; idle_ms = idle_ms }) i
invoked-of Event.new_dialogue answer idle_ms i e = absurd cc
invoked-of (Event.on_dialogue dialogue request) answer idle_ms i e =
    invoked-under dialogue request answer idle_ms i (number_of answer) refl e
invoked-of (Event.received from bytes) answer idle_ms i e = absurd cc
invoked-of (Event.moment now) answer idle_ms i e = absurd cc

pub invoke-made : (pair : Pair) (i : Invocation) → invoked_by pair ≡ Some i → IsInvoke pair i
invoke-made pair i e = invoked-of pair.event pair.answer pair.idle_ms i e

-- ---- its identifier and its timeout

abbrev invoke_asked : Invocation → CodeParts → Option (List ℕ) → Option ℤ → Request
invoke_asked i code parameter linked =
    Request.component (ComponentRequest.invoke i.id i.class code parameter linked i.timeout)

pub made-identifier : (pair : Pair) (i : Invocation) → InRange pair.event → invoked_by pair ≡ Some i
    → is_identifier i.id ≡ true
made-identifier pair i within e =
    let made : IsInvoke pair i = invoke-made pair i e in
    let asked : Request = invoke_asked i made.code made.parameter made.linked in
    let whole = and_parts (is_short i.dialogue) (is_request asked) (subst InRange made.event within) in
    let timed = and_parts (is_identifier i.id && is_code made.code && are_octets_if_any made.parameter
    && is_identifier_if_any made.linked) (is_long i.timeout) whole.1 in
    let linked = and_parts (is_identifier i.id && is_code made.code && are_octets_if_any made.parameter)
    (is_identifier_if_any made.linked) timed.0 in
    let parameter = and_parts (is_identifier i.id && is_code made.code) (are_octets_if_any made.parameter) linked.0 in
    (and_parts (is_identifier i.id) (is_code made.code) parameter.0).0
