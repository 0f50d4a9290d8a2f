-- The address that a dialogue keeps is replaced once at most.
use Rattle.std.proofs.Common.{◌≡◌, ℕ, Bool, true, false, ◌⊎◌, List, Option, Some, Result, Ok, Err, refl, sym, ap, subst, ◌∙◌, inl, inr, if◌then◌else◌}
use Rattle.std.proofs.lemmas.Bool.{eqb-true, true≢false}
use Rattle.tcap_pdu.specs.declared.fault.FrameFault.{FrameFault}
use Rattle.tcap_pdu.specs.FrameReading.{frame_at}
use Rattle.tcap_pdu.specs.FrameSpelling.{Message}
use Rattle.tcap_pdu.proofs.CallerLemmas.{frame_takes}
use Rattle.tcap_model.specs.Words.Address.{Address}
use Rattle.tcap_model.specs.Words.Answer.{Answer, is_accepted}
use Rattle.tcap_model.specs.Words.Event.{Event}
use Rattle.tcap_model.specs.Histories.History.{History}
use Rattle.tcap_model.specs.Histories.Kept.{kept_by_message, kept_by_event, kept_after, kept_address}
use Rattle.tcap_model.specs.Histories.Life.{Life, life, life_after, life_by_event, life_by_message, life_by_verdict, life_if_named, is_normal, touched}
use Rattle.tcap_model.specs.Histories.Names.{names}
use Rattle.tcap_model.specs.Procedures.PortionRules.{PortionVerdict, portion_verdict}
use Rattle.tcap_model.specs.Procedures.States.{is_fresh, has_peer}
use Rattle.tcap_model.specs.Replies.Reply.{reply}
use Rattle.tcap_model.specs.Statements.KeptOnce.{KeepsForGood, KeepsTheFirstSender}
use Rattle.tcap_model.specs.Statements.NormalPortion.{IsNormal}
use Rattle.tcap_model.specs.Words.Request.{Request, DialogueRequest}
use Rattle.tcap_model.specs.Words.State.{State, peer_of}
use Rattle.tcap_laws.proofs.BoolLemmas.{if_not_false}
use Rattle.tcap_laws.proofs.Peers.FarPeers.{HasPeer, BeginsNone, none-due}
use Rattle.tcap_laws.proofs.Peers.KeptAddresses.{accepted-keeps, kept-stays}
use Rattle.tcap_laws.proofs.Receptions.NormalPortions.{normal-or-not, abnormal-verdict}

-- ---- for good

its-peer : (s : State) → has_peer s ≡ true → (peer : List ℕ) × (peer_of s ≡ Some peer)
its-peer State.fresh e = absurd cc
its-peer State.sent e = absurd cc
its-peer (State.received peer) e = (peer, refl)
its-peer (State.active peer) e = (peer, refl)

pub keeps-for-good : KeepsForGood
keeps-for-good start dialogue later past state context legal lives heard =
    let its = its-peer state heard in
    kept-stays start dialogue its.0 later past legal (subst (HasPeer its.0) (sym lives) its.1)

-- ---- the first Continue

normal-portion : (context portion told : Option (List ℕ)) (info : List ℕ)
    → portion_verdict State.sent context portion ≡ PortionVerdict.normal told info → IsNormal State.sent context portion
normal-portion context portion told info judged = elim (normal-or-not State.sent context portion refl) [
  | inl normal ↦ normal
  | inr abnormal ↦
      let not : PortionVerdict.normal told info ≡ PortionVerdict.abnormal =
      sym judged ∙ abnormal-verdict State.sent context portion abnormal in
      absurd cc
]

module _ (context : Option (List ℕ)) (kept : Address) where
  -- bytes spell such a Continue, and these are the address and the life that it leaves
  record Replaces (event : Event) (after : Address) (life : Life) : Type 0 where
    bytes : List ℕ
    is_event : event ≡ Event.received after bytes
    origin : List ℕ
    destination : List ℕ
    portion : Option (List ℕ)
    components : List ℕ
    is_read : frame_at bytes ≡ Ok (Message.go_on origin destination portion components)
    is_normal : IsNormal State.sent context portion
    is_active : life ≡ Life.standing (State.active origin) context

  abbrev Keeps : Event → Address → Life → Type 0
  Keeps event after life = (after ≡ kept) ⊎ Replaces event after life

  by-verdict : (from : Address) (bytes origin destination components : List ℕ) (portion : Option (List ℕ))
      → frame_at bytes ≡ Ok (Message.go_on origin destination portion components)
      → (verdict : PortionVerdict) → portion_verdict State.sent context portion ≡ verdict
      → Keeps (Event.received from bytes) (if is_normal verdict then from else kept)
      (life_by_verdict State.sent context origin verdict)
  by-verdict from bytes origin destination components portion read (PortionVerdict.normal told info) judged = inr (record {
    bytes = bytes;
    is_event = refl;
    origin = origin;
    destination = destination;
    portion = portion;
    components = components;
    is_read = read;
    is_normal = normal-portion context portion told info judged;
    is_active = refl;
  })
  by-verdict from bytes origin destination components portion read PortionVerdict.abnormal judged = inl refl

  by-message : (from : Address) (bytes : List ℕ) (read : Result Message FrameFault) → frame_at bytes ≡ read
      → Keeps (Event.received from bytes) (kept_by_message kept from State.sent context read)
      (life_by_message State.sent context read)
  by-message from bytes (Ok (Message.go_on origin to portion components)) e =
      by-verdict from bytes origin to components portion e (portion_verdict State.sent context portion) refl
  by-message from bytes (Ok (Message.end to portion components)) e = inl refl
  by-message from bytes (Ok (Message.abort to reason)) e = inl refl
  by-message from bytes (Ok (Message.unidirectional portion components)) e = inl refl
  by-message from bytes (Ok (Message.begin origin portion components)) e = inl refl
  by-message from bytes (Err fault) e = inl refl

module _ (h : History) (dialogue : ℕ) (context : Option (List ℕ)) (kept : Address) (last : ℕ)
    (lives : life dialogue h.pairs ≡ Life.standing State.sent context) where
  no-begin : (request : Request) → is_accepted (reply h (Event.on_dialogue dialogue request)) ≡ true
      → BeginsNone request
  no-begin request accepted to asked info is =
      let none = none-due h dialogue (Request.dialogue (DialogueRequest.begin to asked info)) State.sent context lives
      (subst (λ (r : Request). is_accepted (reply h (Event.on_dialogue dialogue r)) ≡ true) is accepted) in
      true≢false (sym (if_not_false (is_fresh State.sent) none.1.0))

  by-event : (event : Event) (answer : Answer) (idle_ms : ℕ) → answer ≡ reply h event → names event dialogue ≡ true
      → Keeps context kept event (kept_by_event kept State.sent context event (is_accepted answer))
      (life_by_event idle_ms last State.sent context event (is_accepted answer))
  by-event Event.new_dialogue answer idle_ms is named = inl refl
  by-event (Event.on_dialogue asked request) answer idle_ms is named =
      inl (accepted-keeps kept (is_accepted answer) request
      (λ accepted. no-begin request
      (subst (λ (d : ℕ). is_accepted (reply h (Event.on_dialogue d request)) ≡ true) (eqb-true asked dialogue named)
      (sym (ap is_accepted is) ∙ accepted))))
  by-event (Event.received from bytes) answer idle_ms is named =
      by-message context kept from bytes (frame_at bytes) refl
  by-event (Event.moment now) answer idle_ms is named = inl refl

  if-named : (event : Event) (answer : Answer) (idle_ms : ℕ) → answer ≡ reply h event → (named : Bool)
      → names event dialogue ≡ named
      → ((if named then kept_by_event kept State.sent context event (is_accepted answer) else kept) ≡ kept)
      ⊎ ((named ≡ true) × Replaces context kept event
      (if named then kept_by_event kept State.sent context event (is_accepted answer) else kept)
      (life_if_named named last State.sent context (record { event = event; answer = answer; idle_ms = idle_ms })))
  if-named event answer idle_ms is true named = elim (by-event event answer idle_ms is named) [
    | inl same ↦ inl same
    | inr new ↦ inr (refl, new)
  ]
  if-named event answer idle_ms is false named = inl refl

pub keeps-the-first-sender : KeepsTheFirstSender
keeps-the-first-sender start dialogue pair past context legal lives =
    let kept : Address = kept_address dialogue past in
    let last : ℕ = touched dialogue past in
    let step = if-named (record { start = start; pairs = past }) dialogue context kept last lives pair.event pair.answer
    pair.idle_ms legal.1 (names pair.event dialogue) refl in
    elim (subst (λ (l : Life). (kept_after dialogue l kept pair ≡ kept) ⊎ ((names pair.event dialogue ≡ true)
    × Replaces context kept pair.event (kept_after dialogue l kept pair) (life_after dialogue last l pair)))
    (sym lives) step) [
      | inl same ↦ inl same
      | inr new ↦ inr (record {
        bytes = new.1.bytes;
        is_event = new.1.is_event;
        is_named = new.0;
        origin = new.1.origin;
        destination = new.1.destination;
        portion = new.1.portion;
        components = new.1.components;
        is_spelled =
            frame_takes new.1.bytes
            (Message.go_on new.1.origin new.1.destination new.1.portion new.1.components) new.1.is_read;
        is_normal = new.1.is_normal;
        is_active = new.1.is_active;
      })
    ]
