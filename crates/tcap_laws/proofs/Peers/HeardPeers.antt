-- How a dialogue heard of its peer: by the Begin that created it, or by the first Continue. It keeps
-- the address of its sender.
use Rattle.std.proofs.Common.{◌≡◌, ℕ, Bool, true, false, ◌⊎◌, List, [], ◌∷◌, Option, Some, Result, Ok, Err, refl, ap, subst, ◌∙◌, inl, inr, ◌&&◌, if◌then◌else◌}
use Rattle.tcap_pdu.specs.declared.fault.FrameFault.{FrameFault}
use Rattle.tcap_pdu.specs.FrameReading.{frame_at}
use Rattle.tcap_pdu.specs.FrameSpelling.{Message}
use Rattle.tcap_model.specs.Words.Address.{Address}
use Rattle.tcap_model.specs.Words.Answer.{Answer, is_accepted}
use Rattle.tcap_model.specs.Histories.Birth.{is_birth_of}
use Rattle.tcap_model.specs.Words.Event.{Event}
use Rattle.tcap_model.specs.Histories.History.{Start}
use Rattle.tcap_model.specs.Histories.Kept.{kept_by_message, kept_by_event, kept_at_birth, kept_after, kept_address}
use Rattle.tcap_model.specs.Replies.Legal.{AreReplies}
use Rattle.tcap_model.specs.Histories.Life.{Life, life, life_at_birth, life_after, life_by_event, life_by_message, life_by_request, life_by_verdict, life_if_accepted, life_if_live, life_if_named, begun_life, state_after_continue, life_by_moment, touched, is_normal}
use Rattle.tcap_model.specs.Histories.Names.{names}
use Rattle.tcap_model.specs.Histories.Pair.{Pair, Past}
use Rattle.tcap_model.specs.Statements.Places.{StandsIn}
use Rattle.tcap_model.specs.Procedures.PortionRules.{PortionVerdict, portion_verdict}
use Rattle.tcap_model.specs.Words.Request.{Request, ComponentRequest, DialogueRequest}
use Rattle.tcap_model.specs.Words.State.{State, peer_of, activated, is_live, address_by}
use Rattle.tcap_model.specs.Words.Time.{is_idle}
use Rattle.tcap_laws.proofs.Peers.FarPeers.{HasPeer}
use Rattle.tcap_laws.proofs.Peers.KeptAddresses.{kept-stays}

-- ---- one pair

-- a Begin with this origin, or a Continue with it to a dialogue in Initiation Sent, whose dialogue portion is
-- as it should be
abbrev pub HearsBegin : List ℕ → Result Message FrameFault → Type 0
HearsBegin peer read =
    (portion : Option (List ℕ)) × (components : List ℕ) × (read ≡ Ok (Message.begin peer portion components))

abbrev pub HearsContinue : List ℕ → Option (List ℕ) → Result Message FrameFault → Type 0
HearsContinue peer context read =
    (to : List ℕ) × (portion : Option (List ℕ)) × (components : List ℕ)
    × (read ≡ Ok (Message.go_on peer to portion components))
    × (is_normal (portion_verdict State.sent context portion) ≡ true)

-- how a pair tells a dialogue of its peer
pub record Hears (dialogue : ℕ) (peer : List ℕ) (before : Life) (event : Event) (birth : Bool) : Type 0 where
  pub from : Address
  pub bytes : List ℕ
  pub is_event : event ≡ Event.received from bytes
  pub how : ((before ≡ Life.unborn) × (birth ≡ true) × HearsBegin peer (frame_at bytes))
      ⊎ ((context : Option (List ℕ)) × (before ≡ Life.standing State.sent context)
      × (names (Event.received from bytes) dialogue ≡ true) × HearsContinue peer context (frame_at bytes))

-- a dialogue that stands with this peer
abbrev pub IsPeered : List ℕ → Life → Type 0
IsPeered peer Life.unborn = ⊥
IsPeered peer (Life.standing state context) = peer_of state ≡ Some peer
IsPeered peer Life.over = ⊥

same-activated : (peer : List ℕ) (state : State) → peer_of (activated state) ≡ Some peer → peer_of state ≡ Some peer
same-activated peer State.fresh e = e
same-activated peer State.sent e = e
same-activated peer (State.received known) e = e
same-activated peer (State.active known) e = e

module _ (peer : List ℕ) where
  by-request : (state : State) (context : Option (List ℕ)) (request : Request)
      → IsPeered peer (life_by_request state context request) → peer_of state ≡ Some peer
  by-request state context (Request.component (ComponentRequest.invoke id class code parameter linked timeout)) is = is
  by-request state context (Request.component (ComponentRequest.result_last id body)) is = is
  by-request state context (Request.component (ComponentRequest.result_more id body)) is = is
  by-request state context (Request.component (ComponentRequest.error_back id code parameter)) is = is
  by-request state context (Request.component (ComponentRequest.u_reject id problem)) is = is
  by-request state context (Request.component (ComponentRequest.u_cancel id)) is = is
  by-request state context (Request.dialogue (DialogueRequest.uni to asked info)) is = absurd is
  by-request state context (Request.dialogue (DialogueRequest.begin to asked info)) is = absurd cc
  by-request state context (Request.dialogue (DialogueRequest.go_on asked info)) is = same-activated peer state is
  by-request state context (Request.dialogue (DialogueRequest.finish ending asked info)) is = absurd is
  by-request state context (Request.dialogue (DialogueRequest.u_abort why info)) is = absurd is

  if-accepted : (accepted : Bool) (state : State) (context : Option (List ℕ)) (request : Request)
      → IsPeered peer (life_if_accepted accepted state context request) → peer_of state ≡ Some peer
  if-accepted true state context request is = by-request state context request is
  if-accepted false state context request is = is

  -- a Continue keeps the peer, or tells it
  by-answer : (state : State) (origin : List ℕ) → peer_of (state_after_continue state origin) ≡ Some peer
      → (peer_of state ≡ Some peer) ⊎ ((state ≡ State.sent) × (origin ≡ peer))
  by-answer State.fresh origin e = inl e
  by-answer State.sent origin e = let same : origin ≡ peer = cc in inr (refl, same)
  by-answer (State.received known) origin e = inl e
  by-answer (State.active known) origin e = inl e

  abbrev Tells : State → Option (List ℕ) → Result Message FrameFault → Type 0
  Tells state context read = (peer_of state ≡ Some peer) ⊎ ((state ≡ State.sent) × HearsContinue peer context read)

  by-verdict : (state : State) (context : Option (List ℕ)) (origin to components : List ℕ) (portion : Option (List ℕ))
      (verdict : PortionVerdict) → portion_verdict state context portion ≡ verdict
      → IsPeered peer (life_by_verdict state context origin verdict)
      → Tells state context (Ok (Message.go_on origin to portion components))
  by-verdict state context origin to components portion (PortionVerdict.normal told info) judged is =
      elim (by-answer state origin is) [
        | inl known ↦ inl known
        | inr new ↦ inr (
          new.0,
          (
            to,
            portion,
            components,
            ap (λ (w : List ℕ). Ok (Message.go_on w to portion components)) new.1,
            subst (λ (s : State). is_normal (portion_verdict s context portion) ≡ true) new.0 (ap is_normal judged),
          ),
        )
      ]
  by-verdict state context origin to components portion PortionVerdict.abnormal judged is = absurd is

  by-message : (state : State) (context : Option (List ℕ)) (read : Result Message FrameFault)
      → IsPeered peer (life_by_message state context read) → Tells state context read
  by-message state context (Ok (Message.go_on origin to portion components)) is =
      by-verdict state context origin to components portion (portion_verdict state context portion) refl is
  by-message state context (Ok (Message.end to portion components)) is = absurd is
  by-message state context (Ok (Message.abort to reason)) is = absurd is
  by-message state context (Ok (Message.unidirectional portion components)) is = inl is
  by-message state context (Ok (Message.begin origin portion components)) is = inl is
  by-message state context (Err fault) is = absurd is

  if-live : (alive : Bool) (state : State) (context : Option (List ℕ)) (bytes : List ℕ)
      → IsPeered peer (life_if_live alive state context bytes) → Tells state context (frame_at bytes)
  if-live true state context bytes is = by-message state context (frame_at bytes) is
  if-live false state context bytes is = inl is

  -- the Begin of a birth
  by-begin : (read : Result Message FrameFault) → IsPeered peer (begun_life read) → HearsBegin peer read
  by-begin (Ok (Message.begin origin portion components)) is = let same : origin ≡ peer =
      cc in (portion, components, ap (λ (w : List ℕ). Ok (Message.begin w portion components)) same)
  by-begin (Ok (Message.unidirectional portion components)) is = absurd is
  by-begin (Ok (Message.end to portion components)) is = absurd is
  by-begin (Ok (Message.go_on origin to portion components)) is = absurd is
  by-begin (Ok (Message.abort to reason)) is = absurd is
  by-begin (Err fault) is = absurd is

  at-birth : (dialogue : ℕ) (event : Event) (birth : Bool) → IsPeered peer (life_at_birth birth event)
      → Hears dialogue peer Life.unborn event birth
  at-birth dialogue event false is = absurd is
  at-birth dialogue Event.new_dialogue true is = absurd cc
  at-birth dialogue (Event.on_dialogue named request) true is = absurd is
  at-birth dialogue (Event.received from bytes) true is =
      record { from = from; bytes = bytes; is_event = refl; how = inl (refl, refl, by-begin (frame_at bytes) is) }
  at-birth dialogue (Event.moment now) true is = absurd is

  abbrev IsOrHears : ℕ → State → Option (List ℕ) → Event → Bool → Type 0
  IsOrHears dialogue state context event birth =
      (peer_of state ≡ Some peer) ⊎ Hears dialogue peer (Life.standing state context) event birth

  by-moment : (idle : Bool) (state : State) (context : Option (List ℕ))
      → IsPeered peer (life_by_moment idle state context) → peer_of state ≡ Some peer
  by-moment false state context is = is
  by-moment true state context is = go (is_live state) is
    where
      go : (b : Bool) → IsPeered peer (if b then Life.over else Life.standing state context)
          → peer_of state ≡ Some peer
      go true is = absurd is
      go false is = is

  by-event : (idle_ms last dialogue : ℕ) (state : State) (context : Option (List ℕ)) (event : Event)
      (accepted birth : Bool)
      → names event dialogue ≡ true → IsPeered peer (life_by_event idle_ms last state context event accepted)
      → IsOrHears dialogue state context event birth
  by-event idle_ms last dialogue state context Event.new_dialogue accepted birth named is = inl is
  by-event idle_ms last dialogue state context (Event.on_dialogue asked request) accepted birth named is =
      inl (if-accepted accepted state context request is)
  by-event idle_ms last dialogue state context (Event.received from bytes) accepted birth named is =
      elim (if-live (is_live state) state context bytes is) [
        | inl known ↦ inl known
        | inr new ↦ inr (record {
          from = from;
          bytes = bytes;
          is_event = refl;
          how =
              inr (context, ap (λ (s : State). Life.standing s context) new.0, named, new.1);
        })
      ]
  by-event idle_ms last dialogue state context (Event.moment now) accepted birth named is =
      inl (by-moment (accepted && is_idle idle_ms last now) state context is)

  if-named : (idle_ms last dialogue : ℕ) (state : State) (context : Option (List ℕ)) (event : Event) (answer : Answer)
      (birth : Bool) → (named : Bool) → names event dialogue ≡ named
      → IsPeered peer
      (life_if_named named last state context (record { event = event; answer = answer; idle_ms = idle_ms }))
      → IsOrHears dialogue state context event birth
  if-named idle_ms last dialogue state context event answer birth true named is =
      by-event idle_ms last dialogue state context event (is_accepted answer) birth named is
  if-named idle_ms last dialogue state context event answer birth false named is = inl is

  after : (last dialogue : ℕ) (pair : Pair) (before : Life) → IsPeered peer (life_after dialogue last before pair)
      → IsPeered peer before ⊎ Hears dialogue peer before pair.event (is_birth_of dialogue pair)
  after last dialogue pair Life.unborn is = inr (at-birth dialogue pair.event (is_birth_of dialogue pair) is)
  after last dialogue pair (Life.standing state context) is =
      if-named pair.idle_ms last dialogue state context pair.event pair.answer (is_birth_of dialogue pair)
      (names pair.event dialogue) refl is
  after last dialogue pair Life.over is = absurd is

-- ---- what is kept then

module _ (dialogue : ℕ) (peer : List ℕ) (pair : Pair) (kept : Address) where
  begun-keeps : (before : Life) (from : Address) (bytes : List ℕ) → before ≡ Life.unborn
      → is_birth_of dialogue pair ≡ true → pair.event ≡ Event.received from bytes
      → kept_after dialogue before kept pair ≡ from
  begun-keeps before from bytes unborn birth is =
      ap (λ (l : Life). kept_after dialogue l kept pair) unborn
      ∙ (ap (λ (b : Bool). if b then kept_at_birth pair.event else kept) birth ∙ ap kept_at_birth is)

  continued-keeps : (before : Life) (context : Option (List ℕ)) (from : Address) (bytes : List ℕ)
      → before ≡ Life.standing State.sent context → names (Event.received from bytes) dialogue ≡ true
      → pair.event ≡ Event.received from bytes → HearsContinue peer context (frame_at bytes)
      → kept_after dialogue before kept pair ≡ from
  continued-keeps before context from bytes sent named is heard =
      let accepted : Bool = is_accepted pair.answer in
      let event : Event = Event.received from bytes in
      ap (λ (l : Life). kept_after dialogue l kept pair) sent
      ∙ (ap (λ (e : Event). if names e dialogue then kept_by_event kept State.sent context e accepted else kept) is
      ∙ (ap (λ (b : Bool). if b then kept_by_event kept State.sent context event accepted else kept) named
      ∙ (ap (kept_by_message kept from State.sent context) heard.3
      ∙ ap (λ (b : Bool). if b then address_by State.sent kept from else kept) heard.4)))

  heard-keeps : (before : Life) (hears : Hears dialogue peer before pair.event (is_birth_of dialogue pair))
      → kept_after dialogue before kept pair ≡ hears.from
  heard-keeps before hears = elim hears.how [
    | inl begun ↦ begun-keeps before hears.from hears.bytes begun.0 begun.1 hears.is_event
    | inr continued ↦ continued-keeps before continued.0 hears.from hears.bytes continued.1 continued.2 hears.is_event
        continued.3
  ]

-- ---- the whole life

-- the pair that told a dialogue of its peer
pub record HeardOf (dialogue : ℕ) (peer : List ℕ) (past : Past) : Type 0 where
  pub pair : Pair
  pub before : Past
  pub stands : StandsIn pair before past
  pub hears : Hears dialogue peer (life dialogue before) pair.event (is_birth_of dialogue pair)
  pub has : HasPeer peer (life dialogue (pair ∷ before))

heard-later : (dialogue : ℕ) (peer : List ℕ) (pair : Pair) (past : Past) → HeardOf dialogue peer past
    → HeardOf dialogue peer (pair ∷ past)
heard-later dialogue peer pair past heard = record {
  pair = heard.pair;
  before = heard.before;
  stands = record { later = pair ∷ heard.stands.later; is_past = ap (λ (w : Past). pair ∷ w) heard.stands.is_past };
  hears = heard.hears;
  has = heard.has;
}

still-has : (peer : List ℕ) (l : Life) → IsPeered peer l → HasPeer peer l
still-has peer Life.unborn is = absurd is
still-has peer (Life.standing state context) is = is
still-has peer Life.over is = absurd is

pub peer-heard : (dialogue : ℕ) (peer : List ℕ) (past : Past) → IsPeered peer (life dialogue past)
    → HeardOf dialogue peer past
peer-heard dialogue peer [] is = absurd is
peer-heard dialogue peer (pair ∷ past) is = elim (after peer (touched dialogue past) dialogue pair (life dialogue past) is) [
  | inl known ↦ heard-later dialogue peer pair past (peer-heard dialogue peer past known)
  | inr hears ↦ record {
    pair = pair;
    before = past;
    stands = record { later = []; is_past = refl };
    hears = hears;
    has = still-has peer (life dialogue (pair ∷ past)) is;
  }
]

-- what is kept is the address of the sender
pub heard-kept : (start : Start) (dialogue : ℕ) (peer : List ℕ) (past : Past) → AreReplies start past
    → (heard : HeardOf dialogue peer past) → kept_address dialogue past ≡ heard.hears.from
heard-kept start dialogue peer past legal heard =
    let stands = heard.stands in
    ap (kept_address dialogue) stands.is_past
    ∙ (kept-stays start dialogue peer stands.later (heard.pair ∷ heard.before)
    (subst (AreReplies start) stands.is_past legal) heard.has
    ∙ heard-keeps dialogue peer heard.pair (kept_address dialogue heard.before) (life dialogue heard.before)
    heard.hears)
