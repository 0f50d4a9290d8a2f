-- The peer of a dialogue stays, and the four octets that name a dialogue are those of its identifier.
use Rattle.std.proofs.Common.{◌≡◌, ℕ, zero, suc, ◌<◌, Bool, true, false, ◌==◌, List, [], ◌∷◌, ◌++◌, length, get_or, nat_lt, Option, Some, None, Result, Ok, Err, refl, sym, ap, subst, ◌∙◌, inl, inr, arith, ◌&&◌, if◌then◌else◌}
use Rattle.std.specs.Int.{w32, from_be_bytes}
use Rattle.std.specs.List.{AllByRecursion}
use Rattle.std.proofs.lemmas.Bool.{cases_Bool, and_parts, eqb-true, ltb-true}
use Rattle.std.proofs.lemmas.List.Folds.{list_all-append}
use Rattle.std.proofs.lemmas.Nat.{be_bytes_4}
use Rattle.ber_core.specs.Written.{written, written_head, written_fields}
use Rattle.ber_core.specs.Sequence.{Field}
use Rattle.ber_core.specs.Sequence.Field.{must, may, filled}
use Rattle.tcap_pdu.specs.declared.fault.FrameFault.{FrameFault}
use Rattle.tcap_pdu.specs.FrameReading.{frame_at}
use Rattle.tcap_pdu.specs.FrameSpelling.{Message, fields, reason_fields}
use Rattle.tcap_pdu.specs.FrameWritten.{written_frame}
use Rattle.tcap_model.specs.Words.Address.{Address}
use Rattle.tcap_model.specs.Words.Answer.{Answer, is_accepted}
use Rattle.tcap_model.specs.Procedures.Destination.{destination}
use Rattle.tcap_model.specs.Replies.Due.{due, due_by, standing_of, situation_of}
use Rattle.tcap_model.specs.Words.Event.{Event}
use Rattle.tcap_model.specs.Histories.History.{History, Start}
use Rattle.tcap_model.specs.Words.InRange.{are_octets}
use Rattle.tcap_model.specs.Replies.Legal.{AreReplies}
use Rattle.tcap_model.specs.Histories.Life.{Life, life, life_after, life_by_event, life_by_message, life_by_request, life_by_verdict, life_if_accepted, life_if_live, life_if_named, state_after_continue, life_by_moment, touched}
use Rattle.tcap_model.specs.Words.LocalId.{dialogue_named, local_id}
use Rattle.tcap_model.specs.Histories.Names.{names}
use Rattle.tcap_model.specs.Histories.Pair.{Past}
use Rattle.tcap_model.specs.Procedures.PortionRules.{PortionVerdict, portion_verdict}
use Rattle.tcap_model.specs.Procedures.Refusals.{Situation, holds, faults_of}
use Rattle.tcap_model.specs.Replies.Reply.{reply}
use Rattle.tcap_model.specs.Words.Request.{Request, DialogueRequest}
use Rattle.tcap_model.specs.Words.State.{State, peer_of, activated, is_live}
use Rattle.tcap_model.specs.Words.Time.{is_idle}
use Rattle.tcap_model.specs.Procedures.States.{is_fresh}
use Rattle.tcap_laws.proofs.Receptions.NothingDue.{first_that-none}
use Rattle.tcap_laws.proofs.Queues.QueuedComponents.{accepted-parts}
use Rattle.tcap_laws.proofs.BoolLemmas.{if_not_false}

-- ---- the peer stays

-- a dialogue has this peer, or is over
abbrev pub HasPeer : List ℕ → Life → Type 0
HasPeer peer Life.unborn = ⊥
HasPeer peer (Life.standing state context) = peer_of state ≡ Some peer
HasPeer peer Life.over = Unit {0}

activated-has : (peer : List ℕ) (state : State) → peer_of state ≡ Some peer → peer_of (activated state) ≡ Some peer
activated-has peer State.fresh e = e
activated-has peer State.sent e = e
activated-has peer (State.received known) e = e
activated-has peer (State.active known) e = e

answered-has : (peer : List ℕ) (state : State) (origin : List ℕ) → peer_of state ≡ Some peer
    → peer_of (state_after_continue state origin) ≡ Some peer
answered-has peer State.fresh origin e = e
answered-has peer State.sent origin e = absurd cc
answered-has peer (State.received known) origin e = e
answered-has peer (State.active known) origin e = e

-- this is no TC-BEGIN request
abbrev pub BeginsNone : Request → Type 0
BeginsNone request =
    (to : Address) (context : Option (List ℕ)) (info : List ℕ)
    → request ≡ Request.dialogue (DialogueRequest.begin to context info) → ⊥

request-has : (peer : List ℕ) (state : State) (context : Option (List ℕ)) (request : Request) → BeginsNone request
    → peer_of state ≡ Some peer → HasPeer peer (life_by_request state context request)
request-has peer state context (Request.component asked) begins e = e
request-has peer state context (Request.dialogue (DialogueRequest.uni to asked info)) begins e = tt
request-has peer state context (Request.dialogue (DialogueRequest.begin to asked info)) begins e =
    absurd (begins to asked info refl)
request-has peer state context (Request.dialogue (DialogueRequest.go_on asked info)) begins e =
    activated-has peer state e
request-has peer state context (Request.dialogue (DialogueRequest.finish ending asked info)) begins e = tt
request-has peer state context (Request.dialogue (DialogueRequest.u_abort why info)) begins e = tt

accepted-has : (peer : List ℕ) (accepted : Bool) (state : State) (context : Option (List ℕ)) (request : Request)
    → (accepted ≡ true → BeginsNone request) → peer_of state ≡ Some peer
    → HasPeer peer (life_if_accepted accepted state context request)
accepted-has peer true state context request begins e = request-has peer state context request (begins refl) e
accepted-has peer false state context request begins e = e

verdict-has : (peer : List ℕ) (state : State) (context : Option (List ℕ)) (origin : List ℕ) (verdict : PortionVerdict)
    → peer_of state ≡ Some peer → HasPeer peer (life_by_verdict state context origin verdict)
verdict-has peer state context origin (PortionVerdict.normal told info) e = answered-has peer state origin e
verdict-has peer state context origin PortionVerdict.abnormal e = tt

message-has : (peer : List ℕ) (state : State) (context : Option (List ℕ)) (read : Result Message FrameFault)
    → peer_of state ≡ Some peer → HasPeer peer (life_by_message state context read)
message-has peer state context (Ok (Message.go_on origin to portion components)) e =
    verdict-has peer state context origin (portion_verdict state context portion) e
message-has peer state context (Ok (Message.end to portion components)) e = tt
message-has peer state context (Ok (Message.abort to reason)) e = tt
message-has peer state context (Ok (Message.unidirectional portion components)) e = e
message-has peer state context (Ok (Message.begin origin portion components)) e = e
message-has peer state context (Err fault) e = tt

live-has : (peer : List ℕ) (alive : Bool) (state : State) (context : Option (List ℕ)) (bytes : List ℕ)
    → peer_of state ≡ Some peer → HasPeer peer (life_if_live alive state context bytes)
live-has peer true state context bytes e = message-has peer state context (frame_at bytes) e
live-has peer false state context bytes e = e

-- ---- a request that was accepted

module _ (h : History) (dialogue : ℕ) (request : Request) (s : State) (c : Option (List ℕ))
    (lives : life dialogue h.pairs ≡ Life.standing s c)
    (accepted : is_accepted (reply h (Event.on_dialogue dialogue request)) ≡ true) where
  abbrev situation : Situation
  situation = situation_of h dialogue (standing_of dialogue h.pairs s c) request

  pub none-due : AllByRecursion (λ f. holds situation request f ≡ false) (faults_of request)
  none-due =
      let parts = accepted-parts h dialogue request (life dialogue h.pairs) (due h dialogue request) accepted in
      first_that-none (holds situation request) (faults_of request)
      (ap (λ (l : Life). due_by h dialogue request l) (sym lives) ∙ parts.3)

pub no-begin : (h : History) (dialogue : ℕ) (peer : List ℕ) (s : State) (c : Option (List ℕ))
    → life dialogue h.pairs ≡ Life.standing s c → peer_of s ≡ Some peer → (request : Request)
    → is_accepted (reply h (Event.on_dialogue dialogue request)) ≡ true → BeginsNone request
no-begin h dialogue peer s c lives e request accepted to context info is =
    let none = none-due h dialogue (Request.dialogue (DialogueRequest.begin to context info)) s c lives
    (subst (λ (r : Request). is_accepted (reply h (Event.on_dialogue dialogue r)) ≡ true) is accepted) in
    not-fresh s (if_not_false (is_fresh s) none.1.0) e
  where
    not-fresh : (s : State) → is_fresh s ≡ true → peer_of s ≡ Some peer → ⊥
    not-fresh State.fresh f e = absurd cc
    not-fresh State.sent f e = absurd cc
    not-fresh (State.received known) f e = absurd cc
    not-fresh (State.active known) f e = absurd cc

moment-has : (peer : List ℕ) (idle : Bool) (s : State) (c : Option (List ℕ)) → peer_of s ≡ Some peer
    → HasPeer peer (life_by_moment idle s c)
moment-has peer false s c e = e
moment-has peer true s c e = go (is_live s)
  where
    go : (b : Bool) → HasPeer peer (if b then Life.over else Life.standing s c)
    go true = tt
    go false = e

module _ (h : History) (dialogue : ℕ) (peer : List ℕ) (answer : Answer) (idle_ms last : ℕ) where
  event-has : (event : Event) → answer ≡ reply h event → (s : State) (c : Option (List ℕ))
      → life dialogue h.pairs ≡ Life.standing s c → names event dialogue ≡ true → peer_of s ≡ Some peer
      → HasPeer peer (life_by_event idle_ms last s c event (is_accepted answer))
  event-has Event.new_dialogue is s c lives named e = e
  event-has (Event.on_dialogue asked request) is s c lives named e =
      accepted-has peer (is_accepted answer) s c request
      (λ accepted. no-begin h dialogue peer s c lives e request
      (subst (λ (d : ℕ). is_accepted (reply h (Event.on_dialogue d request)) ≡ true) (eqb-true asked dialogue named)
      (sym (ap is_accepted is) ∙ accepted))) e
  event-has (Event.received from bytes) is s c lives named e = live-has peer (is_live s) s c bytes e
  event-has (Event.moment now) is s c lives named e =
      moment-has peer (is_accepted answer && is_idle idle_ms last now) s c e

  named-has : (event : Event) → answer ≡ reply h event → (s : State) (c : Option (List ℕ))
      → life dialogue h.pairs ≡ Life.standing s c → peer_of s ≡ Some peer → (named : Bool)
      → names event dialogue ≡ named → HasPeer peer
      (life_if_named named last s c (record { event = event; answer = answer; idle_ms = idle_ms }))
  named-has event is s c lives e true named = event-has event is s c lives named e
  named-has event is s c lives e false named = e

  step-has : (event : Event) → answer ≡ reply h event → (before : Life) → life dialogue h.pairs ≡ before
      → HasPeer peer before → HasPeer peer
      (life_after dialogue last before (record { event = event; answer = answer; idle_ms = idle_ms }))
  step-has event is Life.unborn lives has = absurd has
  step-has event is (Life.standing s c) lives has = named-has event is s c lives has (names event dialogue) refl
  step-has event is Life.over lives has = tt

pub peer-stays : (start : Start) (dialogue : ℕ) (peer : List ℕ) (later past : Past) → AreReplies start (later ++ past)
    → HasPeer peer (life dialogue past) → HasPeer peer (life dialogue (later ++ past))
peer-stays start dialogue peer [] past legal has = has
peer-stays start dialogue peer (pair ∷ later) past legal has =
    step-has (record { start = start; pairs = later ++ past }) dialogue peer pair.answer pair.idle_ms
    (touched dialogue (later ++ past)) pair.event legal.1
    (life dialogue (later ++ past)) refl (peer-stays start dialogue peer later past legal.2 has)

-- ---- the octets of a destination

-- the content of the first part of a written content, and what stands behind it
behind : (tag : List ℕ) (content : List ℕ) → are_octets (written tag content) ≡ true → are_octets content ≡ true
behind tag content e =
    (and_parts (are_octets (written_head tag (length content))) (are_octets content)
    (sym (list_all-append (λ b. nat_lt b 0x100) (written_head tag (length content)) content) ∙ e)).1

first-part : (tag : ℕ) (content : List ℕ) (more : List Field)
    → are_octets (written_fields (must tag content ∷ more)) ≡ true
    → (are_octets content ≡ true) × (are_octets (written_fields more) ≡ true)
first-part tag content more e =
    let both = and_parts (are_octets (written (tag ∷ []) content)) (are_octets (written_fields more))
    (sym (list_all-append (λ b. nat_lt b 0x100) (written (tag ∷ []) content) (written_fields more)) ∙ e) in
    (behind (tag ∷ []) content both.0, both.1)

pub destination-octets : (m : Message) (octets : List ℕ) → are_octets (written_frame m) ≡ true
    → destination m ≡ Some octets → are_octets octets ≡ true
destination-octets (Message.unidirectional portion components) octets e is = absurd cc
destination-octets (Message.begin origin portion components) octets e is = absurd cc
destination-octets (Message.end to portion components) octets e is =
    let same : to ≡ octets = cc in
    subst (λ (w : List ℕ). are_octets w ≡ true) same
    (first-part 0x49 to (may 0x6b portion ∷ filled 0x6c components ∷ [])
    (behind (0x64 ∷ []) (written_fields (fields (Message.end to portion components))) e)).0
destination-octets (Message.go_on origin to portion components) octets e is =
    let same : to ≡ octets = cc in
    let more = (first-part 0x48 origin (must 0x49 to ∷ may 0x6b portion ∷ filled 0x6c components ∷ [])
    (behind (0x65 ∷ []) (written_fields (fields (Message.go_on origin to portion components))) e)).1 in
    subst (λ (w : List ℕ). are_octets w ≡ true) same
    (first-part 0x49 to (may 0x6b portion ∷ filled 0x6c components ∷ []) more).0
destination-octets (Message.abort to reason) octets e is =
    let same : to ≡ octets = cc in
    subst (λ (w : List ℕ). are_octets w ≡ true) same
    (first-part 0x49 to (reason_fields reason) (behind (0x67 ∷ [])
    (written_fields (fields (Message.abort to reason))) e)).0

each-octet : (octets : List ℕ) → are_octets octets ≡ true → (i : ℕ) → get_or octets i 0 < 256
each-octet [] e i = omega arith
each-octet (b ∷ octets) e zero = ltb-true b 0x100 (and_parts (nat_lt b 0x100) (are_octets octets) e).0
each-octet (b ∷ octets) e (suc i) = each-octet octets (and_parts (nat_lt b 0x100) (are_octets octets) e).1 i

pub octets-of : (dialogue : ℕ) (octets : List ℕ) → are_octets octets ≡ true → dialogue_named octets ≡ Some dialogue
    → octets ≡ local_id dialogue
octets-of dialogue octets range named = elim (cases_Bool (length octets == 4)) [
  | inl four ↦ let named = named in
      let some : Some (from_be_bytes w32 octets) ≡ Some dialogue = rw four at named in
      let same : from_be_bytes w32 octets ≡ dialogue = cc in
      sym (be_bytes_4 octets dialogue (eqb-true (length octets) 4 four) (each-octet octets range) (sym same))
  | inr other ↦ let named = named in let none : None ≡ Some dialogue = rw other at named in absurd cc
]
