-- What one event means for one invoke identifier of a dialogue.
use Rattle.std.specs.Prelude.{ℕ, ℤ, List, [], ◌∷◌, ◌++◌, map, Bool, true, false, if◌then◌else◌}
use Rattle.std.specs.Prelude.{Option, Some, None, unwrap_or, Result, Ok, Err}
use Rattle.std.specs.Ordering.{int_eq}
use Rattle.tcap_pdu.specs.declared.fault.FrameFault.{FrameFault}
use Rattle.tcap_pdu.specs.FrameSpelling.{Message}
use Rattle.tcap_pdu.specs.FrameReading.{frame_at}
use Rattle.tcap_component.specs.declared.problem.Kind.{Kind}
use Rattle.tcap_component.specs.declared.problem.Kind.TheVariants as kind
use Rattle.tcap_component.specs.Problem.{ProblemParts}
use Rattle.tcap_component.specs.Component.{CodeParts, BodyParts, ComponentParts}
use Rattle.tcap_component.specs.ComponentFault.{FaultParts}
use Rattle.tcap_component.specs.ComponentReading.{components_of}
use Rattle.tcap_model.specs.Words.Answer.{is_accepted}
use Rattle.tcap_model.specs.Histories.Clock.{clock}
use Rattle.tcap_model.specs.Words.Event.{Event}
use Rattle.tcap_model.specs.Histories.Life.{Life, is_over, life, touched, life_after}
use Rattle.tcap_model.specs.Histories.Names.{names}
use Rattle.tcap_model.specs.Histories.Pair.{Pair, Past}
use Rattle.tcap_model.specs.Procedures.PortionRules.{PortionVerdict, portion_verdict}
use Rattle.tcap_model.specs.Words.Request.{Request, Ending, ComponentRequest, DialogueRequest}
use Rattle.tcap_model.specs.Words.State.{State, is_live}

-- A message goes out that takes the queue; the dialogue ends; the user gives the invocation up; a
-- moment; a Return Result Last, a Return Result Not Last, a Return Error, and a Reject of the Invoke
-- (Q.774, Invocation state machine).
pub data Mark : Type 0 where
  sent end given_up : Mark
  moment : (now : ℕ) → Mark
  last : (body : Option BodyParts) → Mark
  more : (body : Option BodyParts) → Mark
  error : (code : CodeParts) (parameter : Option (List ℕ)) → Mark
  reject : (problem : ProblemParts) → Mark

-- A mark, and the clock before its event (own).
pub record Noted : Type 0 where
  pub clock : ℕ
  pub mark : Mark

-- ---- components

-- The mark, if the identifier is this one (own).
abbrev pub marked : ℤ → ℤ → Mark → List Mark
marked id named mark = if int_eq named id then mark ∷ [] else []

-- A Reject with a General or Invoke problem rejects the Invoke; one with a Return Result or Return
-- Error problem rejects an answer that was sent from here (Q.774, Component sublayer procedures).
abbrev pub reject_marks : ℤ → ℤ → ProblemParts → Kind → List Mark
reject_marks id named problem kind.General = marked id named (Mark.reject problem)
reject_marks id named problem kind.Invoke = marked id named (Mark.reject problem)
reject_marks id named problem kind.Result = []
reject_marks id named problem kind.Error = []

-- What one component means for an identifier (Q.774, Component sublayer procedures).
abbrev pub marks_of_component : ℤ → ComponentParts → List Mark
marks_of_component id (ComponentParts.invoke named linked code parameter) = []
marks_of_component id (ComponentParts.result_last named body) = marked id named (Mark.last body)
marks_of_component id (ComponentParts.error_back named code parameter) = marked id named (Mark.error code parameter)
marks_of_component id (ComponentParts.reject_back None problem) = []
marks_of_component id (ComponentParts.reject_back (Some named) problem) = reject_marks id named problem problem.kind
marks_of_component id (ComponentParts.result_more named body) = marked id named (Mark.more body)

-- What the components before the first fault mean for an identifier
-- (Q.774, Component sublayer procedures; that a fault ends the list is own).
abbrev pub component_marks : ℤ → List (Result ComponentParts FaultParts) → List Mark
component_marks id [] = []
component_marks id (Ok component ∷ others) = marks_of_component id component ++ component_marks id others
component_marks id (Err fault ∷ others) = []

-- ---- the special rows

-- An accepted request that sends, ends or gives up: TC-BEGIN and TC-CONTINUE send the queue, TC-UNI and
-- a basic TC-END send it and end the dialogue, TC-U-CANCEL gives up the invocation that it names. Any
-- other has no special meaning (Q.774, Invocation state machine).
abbrev pub marks_of_request : ℤ → Request → Option (List Mark)
marks_of_request id (Request.dialogue (DialogueRequest.begin to context info)) = Some (Mark.sent ∷ [])
marks_of_request id (Request.dialogue (DialogueRequest.go_on context info)) = Some (Mark.sent ∷ [])
marks_of_request id (Request.dialogue (DialogueRequest.uni to context info)) = Some (Mark.sent ∷ Mark.end ∷ [])
marks_of_request id (Request.dialogue (DialogueRequest.finish Ending.basic context info)) =
    Some (Mark.sent ∷ Mark.end ∷ [])
marks_of_request id (Request.dialogue (DialogueRequest.finish Ending.prearranged context info)) = None
marks_of_request id (Request.dialogue (DialogueRequest.u_abort why info)) = None
marks_of_request id (Request.component (ComponentRequest.u_cancel named)) = Some (marked id named Mark.given_up)
marks_of_request id (Request.component (ComponentRequest.invoke named class code parameter linked timeout)) = None
marks_of_request id (Request.component (ComponentRequest.result_last named body)) = None
marks_of_request id (Request.component (ComponentRequest.result_more named body)) = None
marks_of_request id (Request.component (ComponentRequest.error_back named code parameter)) = None
marks_of_request id (Request.component (ComponentRequest.u_reject named problem)) = None

-- What a message means whose dialogue portion is as it should be; an abnormal one has no special meaning
-- (Q.774, Abnormal procedures relating to dialogue control).
abbrev pub if_normal : PortionVerdict → List Mark → Option (List Mark)
if_normal (PortionVerdict.normal context info) marks = Some marks
if_normal PortionVerdict.abnormal marks = None

-- A message to a live dialogue: a normal Continue means what its components mean, a normal End the same
-- and then the end. Any other has no special meaning (Q.774, Invocation state machine).
abbrev pub marks_of_message : ℤ → State → Option (List ℕ) → Result Message FrameFault → Option (List Mark)
marks_of_message id state context (Ok (Message.go_on origin to portion components)) =
    if_normal (portion_verdict state context portion) (component_marks id (components_of components))
marks_of_message id state context (Ok (Message.end to portion components)) =
    if_normal (portion_verdict state context portion) (component_marks id (components_of components) ++ Mark.end ∷ [])
marks_of_message id state context (Ok (Message.abort to reason)) = None
marks_of_message id state context (Ok (Message.unidirectional portion components)) = None
marks_of_message id state context (Ok (Message.begin origin portion components)) = None
marks_of_message id state context (Err fault) = None

-- Received bytes, by whether the dialogue is live: one that isn't takes no message (own).
abbrev pub marks_if_live : Bool → ℤ → State → Option (List ℕ) → List ℕ → Option (List Mark)
marks_if_live false id state context bytes = None
marks_if_live true id state context bytes = marks_of_message id state context (frame_at bytes)

-- What bytes mean for an identifier, by the life of the dialogue before them (own).
abbrev pub marks_of_bytes : ℤ → Life → List ℕ → Option (List Mark)
marks_of_bytes id Life.unborn bytes = None
marks_of_bytes id (Life.standing state context) bytes = marks_if_live (is_live state) id state context bytes
marks_of_bytes id Life.over bytes = None

-- ---- the default, and all events

-- The end, if the dialogue is over after the event and wasn't before it; else nothing (own).
abbrev pub end_if_over : Life → Life → List Mark
end_if_over before after = if is_over before then [] else (if is_over after then Mark.end ∷ [] else [])

-- The marks of an event that has a special meaning: an accepted request, a message, and an accepted
-- moment, which may be the end of a dialogue that was idle too long; by the lives before and after it
-- and by whether it was accepted (Q.774, Invocation state machine; the end at a moment is own).
abbrev pub special_marks : ℤ → Life → Life → Event → Bool → Option (List Mark)
special_marks id before after Event.new_dialogue accepted = None
special_marks id before after (Event.on_dialogue dialogue request) true = marks_of_request id request
special_marks id before after (Event.on_dialogue dialogue request) false = None
special_marks id before after (Event.received from bytes) accepted = marks_of_bytes id before bytes
special_marks id before after (Event.moment now) true = Some (Mark.moment now ∷ end_if_over before after)
special_marks id before after (Event.moment now) false = None

-- What an event that names the dialogue means, by the lives before and after it and by whether it was
-- accepted: its special meaning, or else the end if it ended the dialogue
-- (Q.774, Invocation state machine).
abbrev pub marks_by_event : ℤ → Life → Life → Event → Bool → List Mark
marks_by_event id before after event accepted =
    unwrap_or (special_marks id before after event accepted) (end_if_over before after)

-- An event that doesn't name the dialogue means nothing (own).
abbrev pub marks_if_named : Bool → ℕ → ℤ → ℕ → Life → Pair → List Mark
marks_if_named false dialogue id touched before pair = []
marks_if_named true dialogue id touched before pair =
    marks_by_event id before (life_after dialogue touched before pair) pair.event (is_accepted pair.answer)

-- An event up to the creation of the dialogue means nothing (own).
abbrev pub marks_after_birth : ℕ → ℤ → ℕ → Life → Pair → List Mark
marks_after_birth dialogue id touched Life.unborn pair = []
marks_after_birth dialogue id touched (Life.standing state context) pair =
    marks_if_named (names pair.event dialogue) dialogue id touched (Life.standing state context) pair
marks_after_birth dialogue id touched Life.over pair =
    marks_if_named (names pair.event dialogue) dialogue id touched Life.over pair

-- What a pair means for an identifier of a dialogue, in order, by what stands before it
-- (Q.774, Invocation state machine).
abbrev pub marks : ℕ → ℤ → Pair → Past → List Noted
marks dialogue id pair past =
    map (λ mark. record { clock = clock past; mark = mark })
    (marks_after_birth dialogue id (touched dialogue past) (life dialogue past) pair)
