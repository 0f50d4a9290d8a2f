-- What is submitted for the messages of a dialogue, from the events and their answers.
use Rattle.std.specs.Prelude.{ℕ, ◌+◌, ◌==◌, ◌&&◌, Bool, true, false, not, nat_le, List, [], ◌∷◌, ◌++◌, length, map, filter, flat_map, option_to_list, Option, Some, None, Result, Ok, Err, if◌then◌else◌}
use Rattle.std.specs.List.{list_any}
use Rattle.tcap_pdu.specs.declared.fault.FrameFault.{FrameFault}
use Rattle.tcap_pdu.specs.FrameReading.{frame_at}
use Rattle.tcap_pdu.specs.FrameSpelling.{Message}
use Rattle.tcap_component.specs.Component.{ComponentParts}
use Rattle.tcap_component.specs.Written.{written_component}
use Rattle.tcap_model.specs.Words.Answer.{Answer, is_accepted}
use Rattle.tcap_model.specs.Procedures.ComponentHandling.{Handled}
use Rattle.tcap_model.specs.Procedures.ComponentRequest.{component_of}
use Rattle.tcap_model.specs.Words.Event.{Event}
use Rattle.tcap_model.specs.Invocations.Numbers.{number_of}
use Rattle.tcap_model.specs.Words.Output.{Output, DialogueIndication}
use Rattle.tcap_model.specs.Histories.Pair.{Pair, Past}
use Rattle.tcap_model.specs.Replies.Queue.{handled_in}
use Rattle.tcap_model.specs.Procedures.QueueRules.{queue_limit}
use Rattle.tcap_model.specs.Words.Request.{Request, Ending, DialogueRequest}
use Rattle.tcap_model.specs.Statements.ComponentPortion.{portion_of}

-- A component that is submitted for the next message of a dialogue and, of an Invoke, the number of its
-- invocation (own).
pub record Submitted : Type 0 where
  pub component : ComponentParts
  pub number : Option ℕ

-- ---- requests that send

-- Whether a request sends the components that wait: TC-UNI, TC-BEGIN, TC-CONTINUE and a basic TC-END do
-- (Q.774, Component handling).
abbrev pub sends_components : Request → Bool
sends_components (Request.component asked) = false
sends_components (Request.dialogue (DialogueRequest.uni to context info)) = true
sends_components (Request.dialogue (DialogueRequest.begin to context info)) = true
sends_components (Request.dialogue (DialogueRequest.go_on context info)) = true
sends_components (Request.dialogue (DialogueRequest.finish Ending.basic context info)) = true
sends_components (Request.dialogue (DialogueRequest.finish Ending.prearranged context info)) = false
sends_components (Request.dialogue (DialogueRequest.u_abort why info)) = false

-- Whether an event is a request on the dialogue that sends the components that wait (own).
abbrev pub asks_to_send : ℕ → Event → Bool
asks_to_send dialogue Event.new_dialogue = false
asks_to_send dialogue (Event.on_dialogue named request) = (named == dialogue) && sends_components request
asks_to_send dialogue (Event.received from bytes) = false
asks_to_send dialogue (Event.moment now) = false

-- Whether a pair is an accepted request on the dialogue that sends the components that wait (own).
abbrev pub is_sending : ℕ → Pair → Bool
is_sending dialogue pair = asks_to_send dialogue pair.event && is_accepted pair.answer

-- ---- Invokes that are given up

-- The number of the invocation that was given up, by the answer to TC-U-CANCEL
-- (Q.774, Invocation state machine).
abbrev pub given_up_in : Answer → List ℕ
given_up_in (Answer.new_dialogue dialogue) = []
given_up_in (Answer.number number) = []
given_up_in Answer.done = []
given_up_in (Answer.given_up number) = number ∷ []
given_up_in (Answer.outputs outputs) = []
given_up_in (Answer.refused fault) = []

-- The number of the invocation that a request on the dialogue gave up, if it did (own).
abbrev pub given_up_on : ℕ → Event → Answer → List ℕ
given_up_on dialogue Event.new_dialogue answer = []
given_up_on dialogue (Event.on_dialogue named request) answer = if named == dialogue then given_up_in answer else []
given_up_on dialogue (Event.received from bytes) answer = []
given_up_on dialogue (Event.moment now) answer = []

-- Whether a number is one of these (own).
abbrev pub is_given_up : List ℕ → Option ℕ → Bool
is_given_up given None = false
is_given_up given (Some number) = list_any (λ other. number == other) given

-- What was submitted, without the Invokes of the invocations with these numbers (own).
abbrev pub without_given_up : List ℕ → List Submitted → List Submitted
without_given_up given submitted = filter (λ (s : Submitted). not (is_given_up given s.number)) submitted

-- ---- Rejects that are formed

-- The Rejects that the components of a message have, in the order of these
-- (Q.774, Component related abnormal conditions).
abbrev pub rejects_formed : ℕ → Past → Result Message FrameFault → List ComponentParts
rejects_formed dialogue past (Ok m) =
    flat_map (λ (h : Handled). option_to_list h.reject) (handled_in dialogue past (portion_of m))
rejects_formed dialogue past (Err f) = []

-- Those that fit beside so many octets that wait, each in turn: one that doesn't fit doesn't stop a later
-- one (own).
abbrev pub fitting : ℕ → List ComponentParts → List ComponentParts
fitting waiting [] = []
fitting waiting (c ∷ cs) =
    if nat_le (waiting + length (written_component c)) queue_limit
    then c ∷ fitting (waiting + length (written_component c)) cs
    else fitting waiting cs

-- The TC-BEGIN indication of the dialogue, and a TC-CONTINUE indication of it: the message wasn't abnormal
-- (Q.771, Dialogue begin; Q.771, Dialogue continuation).
abbrev pub begins_or_continues : ℕ → Output → Bool
begins_or_continues dialogue (Output.send to bytes) = false
begins_or_continues dialogue (Output.dialogue (DialogueIndication.uni context info)) = false
begins_or_continues dialogue (Output.dialogue (DialogueIndication.begin begun context info)) = begun == dialogue
begins_or_continues dialogue (Output.dialogue (DialogueIndication.go_on continued context info)) = continued == dialogue
begins_or_continues dialogue (Output.dialogue (DialogueIndication.end ended context info)) = false
begins_or_continues dialogue (Output.dialogue (DialogueIndication.u_abort aborted pdu)) = false
begins_or_continues dialogue (Output.dialogue (DialogueIndication.p_abort aborted why)) = false
begins_or_continues dialogue (Output.component indication) = false
begins_or_continues dialogue (Output.dropped why) = false

-- Whether an answer begins with such an indication (own).
abbrev pub is_taken : ℕ → Answer → Bool
is_taken dialogue (Answer.new_dialogue born) = false
is_taken dialogue (Answer.number number) = false
is_taken dialogue Answer.done = false
is_taken dialogue (Answer.given_up number) = false
is_taken dialogue (Answer.outputs []) = false
is_taken dialogue (Answer.outputs (first ∷ others)) = begins_or_continues dialogue first
is_taken dialogue (Answer.refused fault) = false

-- ---- what is submitted

-- A Reject as it is submitted: it makes no invocation (own).
abbrev pub submitted_reject : ComponentParts → Submitted
submitted_reject reject = record { component = reject; number = None }

-- The component that an accepted request asks for, if it is a component request
-- (Q.774, Component handling).
abbrev pub asked_for : Request → Answer → List Submitted
asked_for request answer =
    map (λ component. record { component = component; number = number_of answer })
    (option_to_list (component_of request))

-- What an event with this answer submits for the dialogue, beside so many octets that wait: the component
-- of an accepted request; of its Begin and of a normal Continue the Rejects that fit. An End and a
-- Unidirectional submit none (Q.774, Component handling; Q.774, Component related abnormal conditions).
abbrev pub submitted_by : ℕ → ℕ → Past → Event → Answer → List Submitted
submitted_by dialogue waiting past Event.new_dialogue answer = []
submitted_by dialogue waiting past (Event.on_dialogue named request) answer =
    if (named == dialogue) && is_accepted answer then asked_for request answer else []
submitted_by dialogue waiting past (Event.received from bytes) answer =
    if is_taken dialogue answer
    then map submitted_reject (fitting waiting (rejects_formed dialogue past (frame_at bytes)))
    else []
submitted_by dialogue waiting past (Event.moment now) answer = []

-- How many octets these components have (own).
abbrev pub octet_count : List Submitted → ℕ
octet_count [] = 0
octet_count (s ∷ submitted) = length (written_component s.component) + octet_count submitted

-- What was submitted after the last request that sent components, oldest first: without the Invokes that
-- were given up later. Those of `given` were given up after the last pair here (own).
abbrev pub unsent : ℕ → List ℕ → Past → List Submitted
unsent dialogue given [] = []
unsent dialogue given (pair ∷ past) =
    if is_sending dialogue pair then []
    else unsent dialogue (given_up_on dialogue pair.event pair.answer ++ given) past
    ++ without_given_up given
    (submitted_by dialogue (octet_count (unsent dialogue [] past)) past pair.event pair.answer)

-- What a pair submits beside what then is unsent (own).
abbrev pub submitted_at : ℕ → Pair → Past → List Submitted
submitted_at dialogue pair past =
    submitted_by dialogue (octet_count (unsent dialogue [] past)) past pair.event pair.answer

-- The invocations that are given up from a pair on, and before the next request that sends components:
-- an Invoke that such a request has sent can't be taken back (own).
abbrev pub given_since : ℕ → Pair → List ℕ → List ℕ
given_since dialogue pair given =
    if is_sending dialogue pair then [] else given_up_on dialogue pair.event pair.answer ++ given

-- All that was submitted for a dialogue, oldest first: without the Invokes that were given up before a
-- request sent them. Those of `given` were given up so after the last pair here (own).
abbrev pub submitted : ℕ → List ℕ → Past → List Submitted
submitted dialogue given [] = []
submitted dialogue given (pair ∷ past) =
    submitted dialogue (given_since dialogue pair given) past
    ++ without_given_up given (submitted_at dialogue pair past)
