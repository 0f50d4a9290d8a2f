-- The life of a dialogue: whether it was created, its state and application context, when it was active
-- last, and its end.
use Rattle.std.specs.Prelude.{ℕ, ◌&&◌, Bool, true, false, List, [], ◌∷◌, Option, Some, None, Result, Ok, Err, filter, if◌then◌else◌}
use Rattle.tcap_pdu.specs.declared.fault.FrameFault.{FrameFault}
use Rattle.tcap_pdu.specs.FrameSpelling.{Message}
use Rattle.tcap_pdu.specs.FrameReading.{frame_at}
use Rattle.tcap_model.specs.Words.Answer.{is_accepted}
use Rattle.tcap_model.specs.Histories.Birth.{is_birth_of, dialogues}
use Rattle.tcap_model.specs.Histories.Clock.{clock}
use Rattle.tcap_model.specs.Words.Event.{Event}
use Rattle.tcap_model.specs.Histories.Names.{names}
use Rattle.tcap_model.specs.Histories.Pair.{Pair, Past}
use Rattle.tcap_model.specs.Procedures.PortionRules.{BeginVerdict, begin_verdict, PortionVerdict, portion_verdict}
use Rattle.tcap_model.specs.Words.Request.{Request, DialogueRequest}
use Rattle.tcap_model.specs.Words.State.{State, is_live, activated}
use Rattle.tcap_model.specs.Words.Time.{is_idle}

-- A dialogue isn't created yet; it stands, with its state and the application context of its Begin; or
-- it is over (Q.774, Transaction state machine).
pub data Life : Type 0 where
  unborn : Life
  standing : (state : State) (context : Option (List ℕ)) → Life
  over : Life

-- Whether the dialogue is over (own).
abbrev pub is_over : Life → Bool
is_over Life.unborn = false
is_over (Life.standing state context) = false
is_over Life.over = true

-- Whether the dialogue stands (own).
abbrev pub is_standing : Life → Bool
is_standing Life.unborn = false
is_standing (Life.standing state context) = true
is_standing Life.over = false

-- Whether messages to the dialogue are taken: it stands in Initiation Sent or Active (own).
abbrev pub live_in : Life → Bool
live_in Life.unborn = false
live_in (Life.standing state context) = is_live state
live_in Life.over = false

-- ---- creation

-- The application context that a Begin with this dialogue portion has (Q.774, Dialogue begin).
abbrev pub begin_context : BeginVerdict → Option (List ℕ)
begin_context BeginVerdict.plain = None
begin_context (BeginVerdict.with_context context info) = Some context
begin_context (BeginVerdict.wrong_version context) = None
begin_context BeginVerdict.abnormal = None

-- A Begin leads to Initiation Received, with its origin as the peer's identifier
-- (Q.774, Dialogue begin).
abbrev pub begun_life : Result Message FrameFault → Life
begun_life (Ok (Message.begin origin portion components)) =
    Life.standing (State.received origin) (begin_context (begin_verdict portion))
begun_life (Ok (Message.unidirectional portion components)) = Life.unborn
begun_life (Ok (Message.end to portion components)) = Life.unborn
begun_life (Ok (Message.go_on origin to portion components)) = Life.unborn
begun_life (Ok (Message.abort to reason)) = Life.unborn
begun_life (Err fault) = Life.unborn

-- A dialogue that was asked for is Idle (Q.774, Transaction state machine).
abbrev pub born_life : Event → Life
born_life Event.new_dialogue = Life.standing State.fresh None
born_life (Event.on_dialogue dialogue request) = Life.unborn
born_life (Event.received from bytes) = begun_life (frame_at bytes)
born_life (Event.moment now) = Life.unborn

-- Before it is created nothing changes a dialogue; the first argument tells whether this pair creates it
-- (own).
abbrev pub life_at_birth : Bool → Event → Life
life_at_birth false event = Life.unborn
life_at_birth true event = born_life event

-- ---- requests

-- What an accepted request makes of a dialogue that stands: TC-BEGIN leads to Initiation Sent,
-- TC-CONTINUE to Active; TC-UNI, TC-END and TC-U-ABORT end it; component requests leave it
-- (Q.774, Transaction state machine).
abbrev pub life_by_request : State → Option (List ℕ) → Request → Life
life_by_request state context (Request.component asked) = Life.standing state context
life_by_request state context (Request.dialogue (DialogueRequest.uni to asked info)) = Life.over
life_by_request state context (Request.dialogue (DialogueRequest.begin to asked info)) = Life.standing State.sent asked
life_by_request state context (Request.dialogue (DialogueRequest.go_on asked info)) =
    Life.standing (activated state) context
life_by_request state context (Request.dialogue (DialogueRequest.finish ending asked info)) = Life.over
life_by_request state context (Request.dialogue (DialogueRequest.u_abort why info)) = Life.over

-- A refused request changes nothing (own).
abbrev pub life_if_accepted : Bool → State → Option (List ℕ) → Request → Life
life_if_accepted false state context request = Life.standing state context
life_if_accepted true state context request = life_by_request state context request

-- ---- messages

-- The first Continue leads from Initiation Sent to Active, and its origin is the peer's identifier
-- for good (Q.774, Dialogue continuation; that a later origin isn't compared is own).
abbrev pub state_after_continue : State → List ℕ → State
state_after_continue State.fresh origin = State.fresh
state_after_continue State.sent origin = State.active origin
state_after_continue (State.received peer) origin = State.received peer
state_after_continue (State.active peer) origin = State.active peer

-- A Continue whose dialogue portion is as it should be keeps the dialogue, any other ends it
-- (Q.774, Abnormal procedures relating to dialogue control).
abbrev pub life_by_verdict : State → Option (List ℕ) → List ℕ → PortionVerdict → Life
life_by_verdict state context origin (PortionVerdict.normal told info) =
    Life.standing (state_after_continue state origin) context
life_by_verdict state context origin PortionVerdict.abnormal = Life.over

-- What a message to a live dialogue makes of it: a Continue may keep it, an End, an Abort and a faulty
-- message end it. A Unidirectional and a Begin are to no dialogue
-- (Q.774, Transaction state machine).
abbrev pub life_by_message : State → Option (List ℕ) → Result Message FrameFault → Life
life_by_message state context (Ok (Message.go_on origin to portion components)) =
    life_by_verdict state context origin (portion_verdict state context portion)
life_by_message state context (Ok (Message.end to portion components)) = Life.over
life_by_message state context (Ok (Message.abort to reason)) = Life.over
life_by_message state context (Err fault) = Life.over
life_by_message state context (Ok (Message.unidirectional portion components)) = Life.standing state context
life_by_message state context (Ok (Message.begin origin portion components)) = Life.standing state context

-- A dialogue that isn't live takes no message (own).
abbrev pub life_if_live : Bool → State → Option (List ℕ) → List ℕ → Life
life_if_live false state context bytes = Life.standing state context
life_if_live true state context bytes = life_by_message state context (frame_at bytes)

-- ---- moments

-- What a moment makes of a dialogue that stands, by whether it has been idle too long then: it is over
-- if it is live (own).
abbrev pub life_by_moment : Bool → State → Option (List ℕ) → Life
life_by_moment false state context = Life.standing state context
life_by_moment true state context = if is_live state then Life.over else Life.standing state context

-- ---- the whole life

-- What an event that names a dialogue that stands makes of it, by its idle limit, by the clock when it
-- was last active, and by whether the event was accepted (own).
abbrev pub life_by_event : ℕ → ℕ → State → Option (List ℕ) → Event → Bool → Life
life_by_event idle_ms touched state context Event.new_dialogue accepted = Life.standing state context
life_by_event idle_ms touched state context (Event.on_dialogue dialogue request) accepted =
    life_if_accepted accepted state context request
life_by_event idle_ms touched state context (Event.received from bytes) accepted =
    life_if_live (is_live state) state context bytes
life_by_event idle_ms touched state context (Event.moment now) accepted =
    life_by_moment (accepted && is_idle idle_ms touched now) state context

-- An event that doesn't name a dialogue that stands leaves it (own).
abbrev pub life_if_named : Bool → ℕ → State → Option (List ℕ) → Pair → Life
life_if_named false touched state context pair = Life.standing state context
life_if_named true touched state context pair =
    life_by_event pair.idle_ms touched state context pair.event (is_accepted pair.answer)

-- What a pair makes of a dialogue that was last active at this clock; one that is over stays so (own).
abbrev pub life_after : ℕ → ℕ → Life → Pair → Life
life_after dialogue touched Life.unborn pair = life_at_birth (is_birth_of dialogue pair) pair.event
life_after dialogue touched (Life.standing state context) pair =
    life_if_named (names pair.event dialogue) touched state context pair
life_after dialogue touched Life.over pair = Life.over

-- ---- what restarts the idle timer of a dialogue

-- TC-BEGIN and TC-CONTINUE restart the idle timer of their dialogue; no other request does (own).
abbrev pub touches_as_request : Request → Bool
touches_as_request (Request.component asked) = false
touches_as_request (Request.dialogue (DialogueRequest.uni to asked info)) = false
touches_as_request (Request.dialogue (DialogueRequest.begin to asked info)) = true
touches_as_request (Request.dialogue (DialogueRequest.go_on asked info)) = true
touches_as_request (Request.dialogue (DialogueRequest.finish ending asked info)) = false
touches_as_request (Request.dialogue (DialogueRequest.u_abort why info)) = false

-- Whether a dialogue portion is as it should be (own).
abbrev pub is_normal : PortionVerdict → Bool
is_normal (PortionVerdict.normal context info) = true
is_normal PortionVerdict.abnormal = false

-- A Continue whose dialogue portion is as it should be restarts the idle timer of the live dialogue that it
-- is to; no other message does, and no faulty one (own).
abbrev pub touches_as_message : State → Option (List ℕ) → Result Message FrameFault → Bool
touches_as_message state context (Ok (Message.go_on origin to portion components)) =
    is_normal (portion_verdict state context portion)
touches_as_message state context (Ok (Message.end to portion components)) = false
touches_as_message state context (Ok (Message.abort to reason)) = false
touches_as_message state context (Ok (Message.unidirectional portion components)) = false
touches_as_message state context (Ok (Message.begin origin portion components)) = false
touches_as_message state context (Err fault) = false

-- Whether an event that names a dialogue that stands restarts its idle timer, by whether it was accepted (own).
abbrev pub touches_as_event : State → Option (List ℕ) → Event → Bool → Bool
touches_as_event state context Event.new_dialogue accepted = false
touches_as_event state context (Event.on_dialogue dialogue request) accepted = accepted && touches_as_request request
touches_as_event state context (Event.received from bytes) accepted =
    is_live state && touches_as_message state context (frame_at bytes)
touches_as_event state context (Event.moment now) accepted = false

-- Whether a pair restarts the idle timer of a dialogue, by its life before: only one that stands and that
-- the event names (own).
abbrev pub touches : ℕ → Life → Pair → Bool
touches dialogue Life.unborn pair = false
touches dialogue (Life.standing state context) pair =
    names pair.event dialogue && touches_as_event state context pair.event (is_accepted pair.answer)
touches dialogue Life.over pair = false

-- ---- the course

-- A dialogue's life, and the clock at its last activity, 0 if it never was (own).
pub record Course : Type 0 where
  pub life : Life
  pub touched : ℕ

-- What a pair makes of a dialogue, at a clock (own).
abbrev pub course_after : ℕ → ℕ → Course → Pair → Course
course_after dialogue now before pair = record {
  life = life_after dialogue before.touched before.life pair;
  touched = if touches dialogue before.life pair then now else before.touched;
}

-- The course of a dialogue, from the events that name it (Q.774, Transaction state machine).
abbrev pub course : ℕ → Past → Course
course dialogue [] = record { life = Life.unborn; touched = 0 }
course dialogue (pair ∷ past) = course_after dialogue (clock past) (course dialogue past) pair

-- The life of a dialogue (Q.774, Transaction state machine).
abbrev pub life : ℕ → Past → Life
life dialogue past = (course dialogue past).life

-- The clock at the last activity of a dialogue: at the last accepted TC-BEGIN or TC-CONTINUE of its user,
-- or at the last Continue to it whose dialogue portion was as it should be (own).
abbrev pub touched : ℕ → Past → ℕ
touched dialogue past = (course dialogue past).touched

-- The dialogues that stand, in order of creation (own).
abbrev pub standing_dialogues : Past → List ℕ
standing_dialogues past = filter (λ dialogue. is_standing (life dialogue past)) (dialogues past)
