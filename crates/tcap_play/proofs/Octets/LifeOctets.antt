-- The peer's identifier and the application context that a dialogue keeps are octets.
use Rattle.std.proofs.Common.{◌≡◌, ◌&&◌, ℕ, Bool, true, false, List, [], ◌∷◌, Option, Some, None, Result, Ok, Err, if◌then◌else◌, refl}
use Rattle.std.specs.List.{AllByRecursion}
use Rattle.std.proofs.lemmas.Bool.{and_parts}
use Rattle.ber_core.specs.Sequence.Field.{may}
use Rattle.tcap_pdu.specs.declared.fault.DialogueFault.{DialogueFault}
use Rattle.tcap_pdu.specs.declared.fault.FrameFault.{FrameFault}
use Rattle.tcap_pdu.specs.DialogueReading.{dialogue_at}
use Rattle.tcap_pdu.specs.DialogueSpelling.{PduValue}
use Rattle.tcap_pdu.specs.DialogueSpelling.PduValue.{aarq, audt, aare, abrt, foreign}
use Rattle.tcap_pdu.specs.FrameReading.{frame_at}
use Rattle.tcap_pdu.specs.FrameSpelling.{Message}
use Rattle.tcap_pdu.proofs.CallerLemmas.{frame_takes, dialogue_takes}
use Rattle.tcap_model.specs.Histories.Birth.{is_birth_of}
use Rattle.tcap_model.specs.Histories.Life.{Life, begin_context, begun_life, born_life, life_at_birth, life_by_request, life_if_accepted, state_after_continue, life_by_verdict, life_by_message, life_if_live, life_by_moment, life_by_event, life_if_named, life_after, touched, life}
use Rattle.tcap_model.specs.Histories.Names.{names}
use Rattle.tcap_model.specs.Histories.Pair.{Pair, Past}
use Rattle.tcap_model.specs.Procedures.PortionRules.{begin_verdict, begin_verdict_by, PortionVerdict, portion_verdict}
use Rattle.tcap_model.specs.Words.Answer.{is_accepted}
use Rattle.tcap_model.specs.Words.Event.{Event}
use Rattle.tcap_model.specs.Words.InRange.{InRange, are_octets, are_octets_if_any, is_address, is_request, is_short}
use Rattle.tcap_model.specs.Words.Request.{Request, DialogueRequest}
use Rattle.tcap_model.specs.Words.State.{State, is_live, activated}
use Rattle.tcap_model.specs.Words.Time.{is_idle}
use Rattle.tcap_play.proofs.Octets.OctetLists.{Octets}
use Rattle.tcap_play.proofs.Octets.ReadOctets.{FieldOctets, frame-octets, request-context}

abbrev pub OctetsIfAny : Option (List ℕ) → Type 0
OctetsIfAny None = Unit {0}
OctetsIfAny (Some octets) = Octets octets

abbrev pub StateOctets : State → Type 0
StateOctets State.fresh = Unit {0}
StateOctets State.sent = Unit {0}
StateOctets (State.received peer) = Octets peer
StateOctets (State.active peer) = Octets peer

abbrev pub LifeOctets : Life → Type 0
LifeOctets Life.unborn = Unit {0}
LifeOctets (Life.standing state context) = StateOctets state × OctetsIfAny context
LifeOctets Life.over = Unit {0}

-- the events of a history have numbers that their types hold
abbrev pub AllInRange : Past → Type 0
AllInRange past = AllByRecursion (λ (pair : Pair). InRange pair.event) past

pub if-any : (octets : Option (List ℕ)) → are_octets_if_any octets ≡ true → OctetsIfAny octets
if-any None e = tt
if-any (Some octets) e = e

-- ---- birth

verdict-context : (portion : List ℕ) → Octets portion → (read : Result PduValue DialogueFault) → dialogue_at portion ≡ read
    → OctetsIfAny (begin_context (begin_verdict_by read))
verdict-context portion octets (Ok (aarq true context info)) e =
    request-context true context info portion (dialogue_takes portion (aarq true context info) e) octets
verdict-context portion octets (Ok (aarq false context info)) e = tt
verdict-context portion octets (Ok (audt version1 context info)) e = tt
verdict-context portion octets (Ok (aare version1 context accepted diagnostic info)) e = tt
verdict-context portion octets (Ok (abrt by_provider info)) e = tt
verdict-context portion octets (Ok (foreign external)) e = tt
verdict-context portion octets (Err f) e = tt

begun-context : (portion : Option (List ℕ)) → FieldOctets (may 0x6b portion) → OctetsIfAny (begin_context (begin_verdict portion))
begun-context None octets = tt
begun-context (Some portion) octets = verdict-context portion octets (dialogue_at portion) refl

begun-octets : (bytes : List ℕ) → Octets bytes → (read : Result Message FrameFault) → frame_at bytes ≡ read
    → LifeOctets (begun_life read)
begun-octets bytes octets (Ok (Message.begin origin portion components)) e =
    let m : Message = Message.begin origin portion components in
    let parts = frame-octets m bytes (frame_takes bytes m e) octets in
    (parts.0, begun-context portion parts.1.0)
begun-octets bytes octets (Ok (Message.unidirectional portion components)) e = tt
begun-octets bytes octets (Ok (Message.end to portion components)) e = tt
begun-octets bytes octets (Ok (Message.go_on origin to portion components)) e = tt
begun-octets bytes octets (Ok (Message.abort to reason)) e = tt
begun-octets bytes octets (Err fault) e = tt

born-octets : (event : Event) → InRange event → LifeOctets (born_life event)
born-octets Event.new_dialogue within = (tt, tt)
born-octets (Event.on_dialogue dialogue request) within = tt
born-octets (Event.received from bytes) within =
    begun-octets bytes (and_parts (is_address from) (are_octets bytes) within).1 (frame_at bytes) refl
born-octets (Event.moment now) within = tt

birth-octets : (birth : Bool) (event : Event) → InRange event → LifeOctets (life_at_birth birth event)
birth-octets true event within = born-octets event within
birth-octets false event within = tt

-- ---- requests

activated-octets : (state : State) → StateOctets state → StateOctets (activated state)
activated-octets State.fresh octets = tt
activated-octets State.sent octets = tt
activated-octets (State.received peer) octets = octets
activated-octets (State.active peer) octets = octets

request-octets : (state : State) (context : Option (List ℕ)) (request : Request) → is_request request ≡ true
    → LifeOctets (Life.standing state context) → LifeOctets (life_by_request state context request)
request-octets state context (Request.component asked) is octets = octets
request-octets state context (Request.dialogue (DialogueRequest.uni to asked info)) is octets = tt
request-octets state context (Request.dialogue (DialogueRequest.begin to asked info)) is octets =
    let named = and_parts (is_address to && are_octets_if_any asked) (are_octets info) is in
    (tt, if-any asked (and_parts (is_address to) (are_octets_if_any asked) named.0).1)
request-octets state context (Request.dialogue (DialogueRequest.go_on asked info)) is octets =
    (activated-octets state octets.0, octets.1)
request-octets state context (Request.dialogue (DialogueRequest.finish ending asked info)) is octets = tt
request-octets state context (Request.dialogue (DialogueRequest.u_abort why info)) is octets = tt

accepted-octets : (accepted : Bool) (state : State) (context : Option (List ℕ)) (request : Request) → is_request request ≡ true
    → LifeOctets (Life.standing state context) → LifeOctets (life_if_accepted accepted state context request)
accepted-octets true state context request is octets = request-octets state context request is octets
accepted-octets false state context request is octets = octets

-- ---- messages

answered-octets : (state : State) (origin : List ℕ) → StateOctets state → Octets origin
    → StateOctets (state_after_continue state origin)
answered-octets State.fresh origin octets from = tt
answered-octets State.sent origin octets from = from
answered-octets (State.received known) origin octets from = octets
answered-octets (State.active known) origin octets from = octets

by_verdict-octets : (state : State) (context : Option (List ℕ)) (origin : List ℕ) (verdict : PortionVerdict)
    → LifeOctets (Life.standing state context) → Octets origin → LifeOctets (life_by_verdict state context origin verdict)
by_verdict-octets state context origin (PortionVerdict.normal told info) octets from =
    (answered-octets state origin octets.0 from, octets.1)
by_verdict-octets state context origin PortionVerdict.abnormal octets from = tt

message-octets : (bytes : List ℕ) → Octets bytes → (state : State) (context : Option (List ℕ)) (read : Result Message FrameFault)
    → frame_at bytes ≡ read → LifeOctets (Life.standing state context) → LifeOctets (life_by_message state context read)
message-octets bytes are state context (Ok (Message.go_on origin to portion components)) e octets =
    let m : Message = Message.go_on origin to portion components in
    let parts = frame-octets m bytes (frame_takes bytes m e) are in
    by_verdict-octets state context origin (portion_verdict state context portion) octets parts.0
message-octets bytes are state context (Ok (Message.end to portion components)) e octets = tt
message-octets bytes are state context (Ok (Message.abort to reason)) e octets = tt
message-octets bytes are state context (Ok (Message.unidirectional portion components)) e octets = octets
message-octets bytes are state context (Ok (Message.begin origin portion components)) e octets = octets
message-octets bytes are state context (Err fault) e octets = tt

live-octets : (live : Bool) (state : State) (context : Option (List ℕ)) (bytes : List ℕ) → Octets bytes
    → LifeOctets (Life.standing state context) → LifeOctets (life_if_live live state context bytes)
live-octets true state context bytes are octets = message-octets bytes are state context (frame_at bytes) refl octets
live-octets false state context bytes are octets = octets

-- ---- moments

live_or_over-octets : (live : Bool) (life : Life) → LifeOctets life → LifeOctets (if live then Life.over else life)
live_or_over-octets true life octets = tt
live_or_over-octets false life octets = octets

moment-octets : (reached : Bool) (state : State) (context : Option (List ℕ)) → LifeOctets (Life.standing state context)
    → LifeOctets (life_by_moment reached state context)
moment-octets true state context octets = live_or_over-octets (is_live state) (Life.standing state context) octets
moment-octets false state context octets = octets

-- ---- the whole life

event-octets : (idle_ms last : ℕ) (state : State) (context : Option (List ℕ)) (event : Event) (accepted : Bool) → InRange event
    → LifeOctets (Life.standing state context) → LifeOctets (life_by_event idle_ms last state context event accepted)
event-octets idle_ms last state context Event.new_dialogue accepted within octets = octets
event-octets idle_ms last state context (Event.on_dialogue dialogue request) accepted within octets =
    accepted-octets accepted state context request (and_parts (is_short dialogue) (is_request request) within).1 octets
event-octets idle_ms last state context (Event.received from bytes) accepted within octets =
    live-octets (is_live state) state context bytes (and_parts (is_address from) (are_octets bytes) within).1 octets
event-octets idle_ms last state context (Event.moment now) accepted within octets =
    moment-octets (accepted && is_idle idle_ms last now) state context octets

named-octets : (named : Bool) (last : ℕ) (state : State) (context : Option (List ℕ)) (pair : Pair) → InRange pair.event
    → LifeOctets (Life.standing state context) → LifeOctets (life_if_named named last state context pair)
named-octets true last state context pair within octets =
    event-octets pair.idle_ms last state context pair.event (is_accepted pair.answer) within octets
named-octets false last state context pair within octets = octets

after-octets : (dialogue last : ℕ) (before : Life) (pair : Pair) → InRange pair.event → LifeOctets before
    → LifeOctets (life_after dialogue last before pair)
after-octets dialogue last Life.unborn pair within octets = birth-octets (is_birth_of dialogue pair) pair.event within
after-octets dialogue last (Life.standing state context) pair within octets =
    named-octets (names pair.event dialogue) last state context pair within octets
after-octets dialogue last Life.over pair within octets = tt

pub life-octets : (dialogue : ℕ) (past : Past) → AllInRange past → LifeOctets (life dialogue past)
life-octets dialogue [] all = tt
life-octets dialogue (pair ∷ past) all =
    after-octets dialogue (touched dialogue past) (life dialogue past) pair all.0 (life-octets dialogue past all.1)
