-- The address that a dialogue keeps stays once its peer is known.
use Rattle.std.proofs.Common.{◌≡◌, ℕ, Bool, true, false, List, [], ◌∷◌, ◌++◌, Option, Some, Result, Ok, Err, refl, sym, ap, subst, ◌∙◌, if◌then◌else◌}
use Rattle.std.proofs.lemmas.Bool.{eqb-true}
use Rattle.tcap_pdu.specs.declared.fault.FrameFault.{FrameFault}
use Rattle.tcap_pdu.specs.FrameReading.{frame_at}
use Rattle.tcap_pdu.specs.FrameSpelling.{Message}
use Rattle.tcap_model.specs.Words.Address.{Address}
use Rattle.tcap_model.specs.Words.Answer.{Answer, is_accepted}
use Rattle.tcap_model.specs.Words.Event.{Event}
use Rattle.tcap_model.specs.Histories.History.{History, Start}
use Rattle.tcap_model.specs.Histories.Kept.{kept_by_request, kept_by_message, kept_by_event, kept_after, kept_address}
use Rattle.tcap_model.specs.Replies.Legal.{AreReplies}
use Rattle.tcap_model.specs.Histories.Life.{Life, life, is_normal}
use Rattle.tcap_model.specs.Histories.Names.{names}
use Rattle.tcap_model.specs.Histories.Pair.{Past}
use Rattle.tcap_model.specs.Procedures.PortionRules.{portion_verdict}
use Rattle.tcap_model.specs.Replies.Reply.{reply}
use Rattle.tcap_model.specs.Words.Request.{Request, DialogueRequest}
use Rattle.tcap_model.specs.Words.State.{State, peer_of, is_live, address_by}
use Rattle.tcap_laws.proofs.Peers.FarPeers.{HasPeer, BeginsNone, no-begin, peer-stays}

module _ (kept : Address) where
  request-keeps : (request : Request) → BeginsNone request → kept_by_request kept request ≡ kept
  request-keeps (Request.component asked) begins = refl
  request-keeps (Request.dialogue (DialogueRequest.uni to asked info)) begins = refl
  request-keeps (Request.dialogue (DialogueRequest.begin to asked info)) begins = absurd (begins to asked info refl)
  request-keeps (Request.dialogue (DialogueRequest.go_on asked info)) begins = refl
  request-keeps (Request.dialogue (DialogueRequest.finish ending asked info)) begins = refl
  request-keeps (Request.dialogue (DialogueRequest.u_abort why info)) begins = refl

  pub accepted-keeps : (accepted : Bool) (request : Request) → (accepted ≡ true → BeginsNone request)
      → (if accepted then kept_by_request kept request else kept) ≡ kept
  accepted-keeps true request begins = request-keeps request (begins refl)
  accepted-keeps false request begins = refl

module _ (kept : Address) (state : State) (context : Option (List ℕ)) (peer : List ℕ)
    (known : peer_of state ≡ Some peer) where
  -- a Continue tells a new address in Initiation Sent alone
  address-keeps : (s : State) (from : Address) → peer_of s ≡ Some peer → address_by s kept from ≡ kept
  address-keeps State.fresh from e = refl
  address-keeps State.sent from e = absurd cc
  address-keeps (State.received told) from e = refl
  address-keeps (State.active told) from e = refl

  message-keeps : (from : Address) (read : Result Message FrameFault)
      → kept_by_message kept from state context read ≡ kept
  message-keeps from (Ok (Message.go_on origin to portion components)) =
      normal (is_normal (portion_verdict state context portion))
    where
      normal : (b : Bool) → (if b then address_by state kept from else kept) ≡ kept
      normal true = address-keeps state from known
      normal false = refl
  message-keeps from (Ok (Message.end to portion components)) = refl
  message-keeps from (Ok (Message.abort to reason)) = refl
  message-keeps from (Ok (Message.unidirectional portion components)) = refl
  message-keeps from (Ok (Message.begin origin portion components)) = refl
  message-keeps from (Err fault) = refl

  live-keeps : (alive : Bool) (from : Address) (bytes : List ℕ)
      → (if alive then kept_by_message kept from state context (frame_at bytes) else kept) ≡ kept
  live-keeps true from bytes = message-keeps from (frame_at bytes)
  live-keeps false from bytes = refl

module _ (h : History) (dialogue : ℕ) (peer : List ℕ) (kept : Address) (answer : Answer) (idle_ms : ℕ) where
  event-keeps : (event : Event) → answer ≡ reply h event → (s : State) (c : Option (List ℕ))
      → life dialogue h.pairs ≡ Life.standing s c → names event dialogue ≡ true → peer_of s ≡ Some peer
      → kept_by_event kept s c event (is_accepted answer) ≡ kept
  event-keeps Event.new_dialogue is s c lives named e = refl
  event-keeps (Event.on_dialogue asked request) is s c lives named e =
      accepted-keeps kept (is_accepted answer) request
      (λ accepted. no-begin h dialogue peer s c lives e request
      (subst (λ (d : ℕ). is_accepted (reply h (Event.on_dialogue d request)) ≡ true) (eqb-true asked dialogue named)
      (sym (ap is_accepted is) ∙ accepted)))
  event-keeps (Event.received from bytes) is s c lives named e = live-keeps kept s c peer e (is_live s) from bytes
  event-keeps (Event.moment now) is s c lives named e = refl

  named-keeps : (event : Event) → answer ≡ reply h event → (s : State) (c : Option (List ℕ))
      → life dialogue h.pairs ≡ Life.standing s c → peer_of s ≡ Some peer → (named : Bool)
      → names event dialogue ≡ named
      → (if named then kept_by_event kept s c event (is_accepted answer) else kept) ≡ kept
  named-keeps event is s c lives e true named = event-keeps event is s c lives named e
  named-keeps event is s c lives e false named = refl

  step-keeps : (event : Event) → answer ≡ reply h event → (before : Life) → life dialogue h.pairs ≡ before
      → HasPeer peer before
      → kept_after dialogue before kept (record { event = event; answer = answer; idle_ms = idle_ms }) ≡ kept
  step-keeps event is Life.unborn lives has = absurd has
  step-keeps event is (Life.standing s c) lives has = named-keeps event is s c lives has (names event dialogue) refl
  step-keeps event is Life.over lives has = refl

-- what is kept stays from where the peer is known
pub kept-stays : (start : Start) (dialogue : ℕ) (peer : List ℕ) (later past : Past) → AreReplies start (later ++ past)
    → HasPeer peer (life dialogue past) → kept_address dialogue (later ++ past) ≡ kept_address dialogue past
kept-stays start dialogue peer [] past legal has = refl
kept-stays start dialogue peer (pair ∷ later) past legal has =
    step-keeps (record { start = start; pairs = later ++ past }) dialogue peer
    (kept_address dialogue (later ++ past)) pair.answer pair.idle_ms pair.event legal.1
    (life dialogue (later ++ past)) refl (peer-stays start dialogue peer later past legal.2 has)
    ∙ kept-stays start dialogue peer later past legal.2 has
