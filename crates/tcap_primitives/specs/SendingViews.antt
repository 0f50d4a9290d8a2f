-- The message of a request as a contract sees it.
use Rattle.std.specs.Prelude.{◌≡◌, ℕ, true, List, Option, Some, None, IfSome, option_map}
use Rattle.std.specs.Option.{ForSome}
use Rattle.tcap_pdu.specs.declared.dialogue_pdu.DialoguePdu.{DialoguePdu}
use Rattle.tcap_pdu.specs.DialoguePartsReading.{is_information}
use Rattle.tcap_pdu.specs.DialogueDue.{content_fault}
use Rattle.tcap_pdu.specs.DialogueViews.{pdu_value}
use Rattle.tcap_pdu.specs.DialogueWritten.{HasDiagnostic, written_dialogue}
use Rattle.tcap_pdu.specs.FrameMeasured.{IsMeasured}
use Rattle.tcap_pdu.specs.FrameSpelling.{Message, Reason}
use Rattle.tcap_pdu.specs.declared.frame.length.MessageLength.{MessageLength}
use Rattle.tcap_model.specs.Procedures.Refusals.{can_name}
use Rattle.tcap_model.specs.Words.LocalId.{local_id}
use Rattle.tcap_primitives.specs.declared.sending.MessageParts.{MessageParts}
use Rattle.tcap_primitives.specs.declared.sending.MessageParts.TheVariants as bearer
use Rattle.tcap_primitives.specs.declared.sending.Sending.{Sending}

-- The contents of a dialogue portion with a PDU, if there is one (own).
abbrev pub portion_view : Option DialoguePdu → Option (List ℕ)
portion_view None = None
portion_view (Some pdu) = Some (written_dialogue (pdu_value pdu))

-- What an Abort carries: a dialogue portion, or nothing (Q.773, Abort message).
abbrev pub reason_with : Option (List ℕ) → Reason
reason_with None = Reason.nothing
reason_with (Some portion) = Reason.portion portion

-- A message with this dialogue portion, if there is one (own).
abbrev pub carried_by : MessageParts → Option (List ℕ) → Message
carried_by (bearer.Uni components) portion = Message.unidirectional portion components.now
carried_by (bearer.Begin origin components) portion = Message.begin (local_id origin) portion components.now
carried_by (bearer.Continue origin peer components) portion =
    Message.go_on (local_id origin) peer.now portion components.now
carried_by (bearer.End peer components) portion = Message.end peer.now portion components.now
carried_by (bearer.Abort peer) portion = Message.abort peer.now (reason_with portion)
carried_by (bearer.AbortCause peer cause) portion = Message.abort peer.now (Reason.cause cause)

-- The message of a request (own).
abbrev pub sending_view : Sending → Message
sending_view s = carried_by s.bearer (portion_view s.pdu)

-- The contents of a PDU, if there is one, are good, and a diagnostic is at most 127 (own).
abbrev pub IsGood : Option DialoguePdu → Type 0
IsGood pdu = IfSome pdu (λ p. HasDiagnostic (pdu_value p) × (content_fault (pdu_value p) ≡ None))

-- The message can go out: the contents of its PDU are good, it is within the limit, and this is its length
-- (own).
pub record CanGoOut (len : MessageLength) (s : Sending) : Type 0 where
  pub is_good : ForSome s.pdu (λ p. content_fault (pdu_value p) ≡ None)
  pub is_measured : IsMeasured len (carried_by s.bearer None) (option_map pdu_value s.pdu)

-- A PDU, if there is one, can be written but for its length, where the application context and the user
-- information given are good (own).
abbrev pub CanCarry : Option (List ℕ) → List ℕ → Option DialoguePdu → Type 0
CanCarry context info None = Unit {0}
CanCarry context info (Some pdu) =
    HasDiagnostic (pdu_value pdu)
    × (can_name context ≡ true → is_information info ≡ true → content_fault (pdu_value pdu) ≡ None)

-- The PDU of the message of a request, if one is sent, can be written so (own).
abbrev pub CanSend : Option (List ℕ) → List ℕ → Option Sending → Type 0
CanSend context info None = Unit {0}
CanSend context info (Some s) = CanCarry context info s.pdu
