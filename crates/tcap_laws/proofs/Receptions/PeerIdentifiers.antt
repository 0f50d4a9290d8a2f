-- The peer's identifier that a dialogue keeps has one to four octets.
use Rattle.std.proofs.Common.{◌≡◌, ℕ, Bool, true, false, ◌&&◌, if◌then◌else◌, List, [], ◌∷◌, Option, Result, Ok, Err, refl}
use Rattle.tcap_pdu.specs.declared.fault.FrameFault.{FrameFault}
use Rattle.tcap_pdu.specs.FrameReading.{frame_at}
use Rattle.tcap_pdu.specs.FrameSpelling.{Message}
use Rattle.tcap_pdu.specs.TransId.{IsTransId}
use Rattle.tcap_model.specs.Words.Answer.{is_accepted}
use Rattle.tcap_model.specs.Histories.Birth.{is_birth_of}
use Rattle.tcap_model.specs.Words.Event.{Event}
use Rattle.tcap_model.specs.Histories.Life.{Life, begun_life, born_life, life_at_birth, life_by_request, life_if_accepted, state_after_continue, life_by_verdict, life_by_message, life_if_live, life_by_moment, life_by_event, life_if_named, life_after, life, touched}
use Rattle.tcap_model.specs.Histories.Names.{names}
use Rattle.tcap_model.specs.Histories.Pair.{Pair, Past}
use Rattle.tcap_model.specs.Procedures.PortionRules.{PortionVerdict, portion_verdict}
use Rattle.tcap_model.specs.Words.Request.{Request, DialogueRequest}
use Rattle.tcap_model.specs.Words.State.{State, is_live, activated, peer_by}
use Rattle.tcap_model.specs.Words.Time.{is_idle}
use Rattle.tcap_laws.proofs.Receptions.SoundReceptions.{read-ids}

-- the peer's identifier, once it is known, is one
abbrev pub StateId : State → Type 0
StateId State.fresh = Unit {0}
StateId State.sent = Unit {0}
StateId (State.received peer) = IsTransId peer
StateId (State.active peer) = IsTransId peer

abbrev pub LifeId : Life → Type 0
LifeId Life.unborn = Unit {0}
LifeId (Life.standing state context) = StateId state
LifeId Life.over = Unit {0}

begun-id : (bytes : List ℕ) (read : Result Message FrameFault) → frame_at bytes ≡ read → LifeId (begun_life read)
begun-id bytes (Ok (Message.begin origin portion components)) e =
    read-ids bytes (Message.begin origin portion components) e
begun-id bytes (Ok (Message.unidirectional portion components)) e = tt
begun-id bytes (Ok (Message.end to portion components)) e = tt
begun-id bytes (Ok (Message.go_on origin to portion components)) e = tt
begun-id bytes (Ok (Message.abort to reason)) e = tt
begun-id bytes (Err fault) e = tt

born-id : (event : Event) → LifeId (born_life event)
born-id Event.new_dialogue = tt
born-id (Event.on_dialogue dialogue request) = tt
born-id (Event.received from bytes) = begun-id bytes (frame_at bytes) refl
born-id (Event.moment now) = tt

birth-id : (birth : Bool) (event : Event) → LifeId (life_at_birth birth event)
birth-id true event = born-id event
birth-id false event = tt

activated-id : (state : State) → StateId state → StateId (activated state)
activated-id State.fresh id = tt
activated-id State.sent id = tt
activated-id (State.received peer) id = id
activated-id (State.active peer) id = id

request-id : (state : State) (context : Option (List ℕ)) (request : Request) → StateId state
    → LifeId (life_by_request state context request)
request-id state context (Request.component asked) peer = peer
request-id state context (Request.dialogue (DialogueRequest.uni to asked info)) peer = tt
request-id state context (Request.dialogue (DialogueRequest.begin to asked info)) peer = tt
request-id state context (Request.dialogue (DialogueRequest.go_on asked info)) peer = activated-id state peer
request-id state context (Request.dialogue (DialogueRequest.finish ending asked info)) peer = tt
request-id state context (Request.dialogue (DialogueRequest.u_abort why info)) peer = tt

accepted-id : (accepted : Bool) (state : State) (context : Option (List ℕ)) (request : Request) → StateId state
    → LifeId (life_if_accepted accepted state context request)
accepted-id true state context request peer = request-id state context request peer
accepted-id false state context request peer = peer

answered-id : (state : State) (origin : List ℕ) → StateId state → IsTransId origin
    → StateId (state_after_continue state origin)
answered-id State.fresh origin peer id = tt
answered-id State.sent origin peer id = id
answered-id (State.received known) origin peer id = peer
answered-id (State.active known) origin peer id = peer

verdict-id : (state : State) (context : Option (List ℕ)) (origin : List ℕ) (verdict : PortionVerdict) → StateId state
    → IsTransId origin → LifeId (life_by_verdict state context origin verdict)
verdict-id state context origin (PortionVerdict.normal told info) peer id = answered-id state origin peer id
verdict-id state context origin PortionVerdict.abnormal peer id = tt

message-id : (bytes : List ℕ) (state : State) (context : Option (List ℕ)) (read : Result Message FrameFault)
    → frame_at bytes ≡ read → StateId state → LifeId (life_by_message state context read)
message-id bytes state context (Ok (Message.go_on origin to portion components)) e peer =
    let id = read-ids bytes (Message.go_on origin to portion components) e in
    verdict-id state context origin (portion_verdict state context portion) peer id.0
message-id bytes state context (Ok (Message.end to portion components)) e peer = tt
message-id bytes state context (Ok (Message.abort to reason)) e peer = tt
message-id bytes state context (Ok (Message.unidirectional portion components)) e peer = peer
message-id bytes state context (Ok (Message.begin origin portion components)) e peer = peer
message-id bytes state context (Err fault) e peer = tt

live-id : (live : Bool) (state : State) (context : Option (List ℕ)) (bytes : List ℕ) → StateId state
    → LifeId (life_if_live live state context bytes)
live-id true state context bytes peer = message-id bytes state context (frame_at bytes) refl peer
live-id false state context bytes peer = peer

moment-id : (idle : Bool) (state : State) (context : Option (List ℕ)) → StateId state
    → LifeId (life_by_moment idle state context)
moment-id false state context peer = peer
moment-id true state context peer = go (is_live state)
  where
    go : (live : Bool) → LifeId (if live then Life.over else Life.standing state context)
    go true = tt
    go false = peer

event-id : (idle_ms last : ℕ) (state : State) (context : Option (List ℕ)) (event : Event) (accepted : Bool)
    → StateId state → LifeId (life_by_event idle_ms last state context event accepted)
event-id idle_ms last state context Event.new_dialogue accepted peer = peer
event-id idle_ms last state context (Event.on_dialogue dialogue request) accepted peer =
    accepted-id accepted state context request peer
event-id idle_ms last state context (Event.received from bytes) accepted peer =
    live-id (is_live state) state context bytes peer
event-id idle_ms last state context (Event.moment now) accepted peer =
    moment-id (accepted && is_idle idle_ms last now) state context peer

named-id : (named : Bool) (last : ℕ) (state : State) (context : Option (List ℕ)) (pair : Pair) → StateId state
    → LifeId (life_if_named named last state context pair)
named-id true last state context pair peer =
    event-id pair.idle_ms last state context pair.event (is_accepted pair.answer) peer
named-id false last state context pair peer = peer

after-id : (dialogue last : ℕ) (before : Life) (pair : Pair) → LifeId before
    → LifeId (life_after dialogue last before pair)
after-id dialogue last Life.unborn pair peer = birth-id (is_birth_of dialogue pair) pair.event
after-id dialogue last (Life.standing state context) pair peer =
    named-id (names pair.event dialogue) last state context pair peer
after-id dialogue last Life.over pair peer = tt

pub life-id : (dialogue : ℕ) (past : Past) → LifeId (life dialogue past)
life-id dialogue [] = tt
life-id dialogue (pair ∷ past) =
    after-id dialogue (touched dialogue past) (life dialogue past) pair (life-id dialogue past)

pub peer_by-id : (state : State) (origin : List ℕ) → StateId state → IsTransId origin → IsTransId (peer_by state origin)
peer_by-id State.fresh origin peer id = id
peer_by-id State.sent origin peer id = id
peer_by-id (State.received known) origin peer id = peer
peer_by-id (State.active known) origin peer id = peer
