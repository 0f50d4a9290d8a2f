-- When a request on a dialogue is refused, and with which fault.
use Rattle.std.specs.Prelude.{ℕ, ◌&&◌, ◌||◌, Bool, true, false, not, nat_lt, nat_le, List, [], ◌∷◌, length, Option, Some, None, is_some, is_none, if◌then◌else◌}
use Rattle.ber_core.specs.ObjectIdentifier.{is_object_identifier}
use Rattle.tcap_pdu.specs.DialoguePartsReading.{is_information}
use Rattle.tcap_pdu.specs.FrameSpelling.{Message}
use Rattle.tcap_pdu.specs.FrameWritten.{message_limit, written_frame}
use Rattle.tcap_component.specs.Component.{ComponentParts}
use Rattle.tcap_component.specs.Written.{coded_part, has_code, has_parameter}
use Rattle.tcap_invocation.specs.Stage.{moment_limit}
use Rattle.tcap_model.specs.Words.Fault.{Fault}
use Rattle.tcap_model.specs.Words.State.{State}
use Rattle.tcap_model.specs.Procedures.States.{has_request, has_peer, is_asked}
use Rattle.tcap_model.specs.Words.Request.{Request, Ending, AbortReason, ComponentRequest, DialogueRequest}
use Rattle.tcap_model.specs.Procedures.QueueRules.{Queued, fits, can_go_alone}
use Rattle.tcap_model.specs.Procedures.Standing.{Standing}
use Rattle.tcap_model.specs.Procedures.ComponentRequest.{component_of, queued_for}
use Rattle.tcap_model.specs.Procedures.RequestMessage.{message_of}

-- ---- the order of the faults

-- The faults of each request, in the order in which they are judged; of several the first is
-- answered, and `OutOfMemory` is the last (own).
abbrev pub faults_of : Request → List Fault
faults_of (Request.component (ComponentRequest.invoke id class code parameter linked timeout)) =
    Fault.unknown_dialogue ∷ Fault.bad_timeout ∷ Fault.bad_oid ∷ Fault.bad_parameter ∷ Fault.invoke_id_in_use
    ∷ Fault.numbers_spent ∷ Fault.too_long ∷ Fault.out_of_memory ∷ []
faults_of (Request.component (ComponentRequest.result_last id body)) =
    Fault.unknown_dialogue ∷ Fault.wrong_state ∷ Fault.bad_oid ∷ Fault.bad_parameter ∷ Fault.too_long
    ∷ Fault.out_of_memory ∷ []
faults_of (Request.component (ComponentRequest.result_more id body)) =
    Fault.unknown_dialogue ∷ Fault.wrong_state ∷ Fault.bad_oid ∷ Fault.bad_parameter ∷ Fault.too_long
    ∷ Fault.out_of_memory ∷ []
faults_of (Request.component (ComponentRequest.error_back id code parameter)) =
    Fault.unknown_dialogue ∷ Fault.wrong_state ∷ Fault.bad_oid ∷ Fault.bad_parameter ∷ Fault.too_long
    ∷ Fault.out_of_memory ∷ []
faults_of (Request.component (ComponentRequest.u_reject id problem)) =
    Fault.unknown_dialogue ∷ Fault.wrong_state ∷ Fault.too_long ∷ Fault.out_of_memory ∷ []
faults_of (Request.component (ComponentRequest.u_cancel id)) = Fault.unknown_dialogue ∷ Fault.no_such_invocation ∷ []
faults_of (Request.dialogue (DialogueRequest.uni to context info)) =
    Fault.unknown_dialogue ∷ Fault.wrong_state ∷ Fault.bad_oid ∷ Fault.bad_parameter ∷ Fault.no_context
    ∷ Fault.not_class_four ∷ Fault.too_long ∷ Fault.out_of_memory ∷ []
faults_of (Request.dialogue (DialogueRequest.begin to context info)) =
    Fault.unknown_dialogue ∷ Fault.wrong_state ∷ Fault.bad_oid ∷ Fault.bad_parameter ∷ Fault.no_context ∷ Fault.too_long
    ∷ Fault.out_of_memory ∷ []
faults_of (Request.dialogue (DialogueRequest.go_on context info)) =
    Fault.unknown_dialogue ∷ Fault.wrong_state ∷ Fault.bad_oid ∷ Fault.bad_parameter ∷ Fault.no_context ∷ Fault.too_long
    ∷ Fault.out_of_memory ∷ []
faults_of (Request.dialogue (DialogueRequest.finish ending context info)) =
    Fault.unknown_dialogue ∷ Fault.wrong_state ∷ Fault.bad_oid ∷ Fault.bad_parameter ∷ Fault.no_context ∷ Fault.too_long
    ∷ Fault.out_of_memory ∷ []
faults_of (Request.dialogue (DialogueRequest.u_abort why info)) =
    Fault.unknown_dialogue ∷ Fault.wrong_state ∷ Fault.bad_parameter ∷ Fault.no_context ∷ Fault.too_long
    ∷ Fault.out_of_memory ∷ []

-- The first fault of a list that holds (own).
abbrev pub first_that : (Fault → Bool) → List Fault → Option Fault
first_that holds [] = None
first_that holds (f ∷ fs) = if holds f then Some f else first_that holds fs

-- ---- when each fault holds

-- The timeout of an Invoke is 0 or above the limit (own).
abbrev pub has_bad_timeout : Request → Bool
has_bad_timeout (Request.component (ComponentRequest.invoke id class code parameter linked timeout)) =
    not (nat_lt 0 timeout && nat_le timeout moment_limit)
has_bad_timeout (Request.component (ComponentRequest.result_last id body)) = false
has_bad_timeout (Request.component (ComponentRequest.result_more id body)) = false
has_bad_timeout (Request.component (ComponentRequest.error_back id code parameter)) = false
has_bad_timeout (Request.component (ComponentRequest.u_reject id problem)) = false
has_bad_timeout (Request.component (ComponentRequest.u_cancel id)) = false
has_bad_timeout (Request.dialogue asked) = false

-- The application context that a request gives (Q.771, Dialogue handling).
abbrev pub context_given : Request → Option (List ℕ)
context_given (Request.component asked) = None
context_given (Request.dialogue (DialogueRequest.uni to context info)) = context
context_given (Request.dialogue (DialogueRequest.begin to context info)) = context
context_given (Request.dialogue (DialogueRequest.go_on context info)) = context
context_given (Request.dialogue (DialogueRequest.finish ending context info)) = context
context_given (Request.dialogue (DialogueRequest.u_abort why info)) = None

-- The user information that a request gives (Q.771, Dialogue handling).
abbrev pub information_given : Request → List ℕ
information_given (Request.component asked) = []
information_given (Request.dialogue (DialogueRequest.uni to context info)) = info
information_given (Request.dialogue (DialogueRequest.begin to context info)) = info
information_given (Request.dialogue (DialogueRequest.go_on context info)) = info
information_given (Request.dialogue (DialogueRequest.finish ending context info)) = info
information_given (Request.dialogue (DialogueRequest.u_abort why info)) = info

-- A context that is given is an object identifier (Q.773, Dialogue portion).
abbrev pub can_name : Option (List ℕ) → Bool
can_name None = true
can_name (Some context) = is_object_identifier context

-- A global code of a component is an object identifier (Q.773, Operation Code; Q.773, Error Code).
abbrev pub can_code : Option ComponentParts → Bool
can_code None = true
can_code (Some c) = has_code (coded_part c)

-- A parameter of a component is one element and nothing after it (Q.773, Parameter).
abbrev pub can_hold : Option ComponentParts → Bool
can_hold None = true
can_hold (Some c) = has_parameter (coded_part c)

-- A name of the request is no object identifier (Q.773, Dialogue portion; Q.773, Operation Code).
abbrev pub has_bad_oid : Request → Bool
has_bad_oid request = not (can_name (context_given request) && can_code (component_of request))

-- A parameter isn't one element, or the user information isn't a list of EXTERNALs
-- (Q.773, Parameter; Q.773, Dialogue portion).
abbrev pub has_bad_parameter : Request → Bool
has_bad_parameter request = not (is_information (information_given request) && can_hold (component_of request))

-- There is something (own).
abbrev pub is_filled : List ℕ → Bool
is_filled [] = false
is_filled (b ∷ bytes) = true

-- A context or user information is given (own).
abbrev pub gives_any : Option (List ℕ) → List ℕ → Bool
gives_any context info = is_some context || is_filled info

-- User information is given without a context, so that no PDU is there to carry it (own).
abbrev pub lacks_context : Option (List ℕ) → List ℕ → Bool
lacks_context context info = is_none context && is_filled info

-- A context or user information is given where no message is sent, or the message has no dialogue
-- portion for it (own).
abbrev pub has_no_context : State → Option (List ℕ) → Request → Bool
has_no_context state known (Request.component asked) = false
has_no_context state known (Request.dialogue (DialogueRequest.uni to context info)) = lacks_context context info
has_no_context state known (Request.dialogue (DialogueRequest.begin to context info)) = lacks_context context info
has_no_context state known (Request.dialogue (DialogueRequest.go_on context info)) =
    not (is_asked state known) && gives_any context info
has_no_context state known (Request.dialogue (DialogueRequest.finish Ending.basic context info)) =
    not (is_asked state known) && gives_any context info
has_no_context state known (Request.dialogue (DialogueRequest.finish Ending.prearranged context info)) =
    gives_any context info
has_no_context state known (Request.dialogue (DialogueRequest.u_abort AbortReason.by_user info)) =
    not (has_peer state && is_some known) && is_filled info
has_no_context state known (Request.dialogue (DialogueRequest.u_abort AbortReason.not_supported info)) = false

-- A Unidirectional would carry nothing, or an Invoke of another class than 4
-- (Q.774, Unstructured dialogue).
abbrev pub is_not_class_four : List Queued → Request → Bool
is_not_class_four queue (Request.component asked) = false
is_not_class_four queue (Request.dialogue (DialogueRequest.uni to context info)) = not (can_go_alone queue)
is_not_class_four queue (Request.dialogue (DialogueRequest.begin to context info)) = false
is_not_class_four queue (Request.dialogue (DialogueRequest.go_on context info)) = false
is_not_class_four queue (Request.dialogue (DialogueRequest.finish ending context info)) = false
is_not_class_four queue (Request.dialogue (DialogueRequest.u_abort why info)) = false

-- A component would pass the limit of the queue (own).
abbrev pub passes_queue : ℕ → List Queued → Option Queued → Bool
passes_queue limit queue None = false
passes_queue limit queue (Some c) = not (fits limit queue c)

-- A message would be above the limit (own).
abbrev pub passes_message : Option Message → Bool
passes_message None = false
passes_message (Some m) = nat_lt message_limit (length (written_frame m))

-- What a request is judged by: the dialogue; the limit of a queue; whether the request's identifier is
-- in use; the number of the invocation with the request's identifier that is Queued or Sent, if there
-- is one; the number that an invocation would get; and whether none is left (own).
pub record Situation : Type 0 where
  pub standing : Standing
  pub limit : ℕ
  pub is_in_use : Bool
  pub pending : Option ℕ
  pub number : ℕ
  pub is_spent : Bool

-- When each fault holds for a request on a dialogue that stands, `OutOfMemory` apart (own).
abbrev pub holds : Situation → Request → Fault → Bool
holds s request Fault.out_of_memory = false
holds s request Fault.unknown_dialogue = false
holds s request Fault.wrong_state = not (has_request s.standing.state s.standing.context request)
holds s request Fault.invoke_id_in_use = s.is_in_use
holds s request Fault.no_such_invocation = is_none s.pending
holds s request Fault.bad_timeout = has_bad_timeout request
holds s request Fault.too_long =
    passes_queue s.limit s.standing.queue (queued_for s.number request)
    || passes_message (message_of s.standing request)
holds s request Fault.dialogues_full = false
holds s request Fault.dialogue_ids_spent = false
holds s request Fault.numbers_spent = s.is_spent
holds s request Fault.bad_oid = has_bad_oid request
holds s request Fault.bad_parameter = has_bad_parameter request
holds s request Fault.not_class_four = is_not_class_four s.standing.queue request
holds s request Fault.moment_too_late = false
holds s request Fault.no_context = has_no_context s.standing.state s.standing.context request

-- The fault that is due: of those of the request the first that holds (own).
abbrev pub due_on : Situation → Request → Option Fault
due_on s request = first_that (holds s request) (faults_of request)

-- The first fault of an Invoke that the dialogue alone can judge, where no number is left (own).
abbrev pub invoke_fault : Situation → Request → Option Fault
invoke_fault s request =
    first_that (holds s request) (Fault.bad_timeout ∷ Fault.bad_oid ∷ Fault.bad_parameter ∷ Fault.invoke_id_in_use ∷ [])
