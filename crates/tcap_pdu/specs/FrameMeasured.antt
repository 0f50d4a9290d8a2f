-- How long a message is that is written with the dialogue portion of a PDU, or as it is.
use Rattle.std.specs.Prelude.{◌≡◌, ◌≤◌, ℕ, Option, Some, None, length}
use Rattle.ber_core.specs.Written.{written_fields}
use Rattle.tcap_pdu.specs.declared.frame.length.MessageLength.{MessageLength}
use Rattle.tcap_pdu.specs.DialogueSpelling.{PduValue}
use Rattle.tcap_pdu.specs.DialogueWritten.{written_dialogue}
use Rattle.tcap_pdu.specs.FrameLength.{with_dialogue}
use Rattle.tcap_pdu.specs.FrameSpelling.{Message, fields}
use Rattle.tcap_pdu.specs.FrameWritten.{message_limit, written_frame}

-- The message with the dialogue portion of this PDU in place of its own, or as it is where there is no
-- PDU (own).
abbrev pub carrying : Option PduValue → Message → Message
carrying None m = m
carrying (Some p) m = with_dialogue (Some (written_dialogue p)) m

-- The octets of the contents of a dialogue portion that is written from a PDU, 0 where there is no PDU
-- (X.690, Length octets).
abbrev pub carried_length : Option PduValue → ℕ
carried_length None = 0
carried_length (Some p) = length (written_dialogue p)

-- These are the octets of the contents of the message that is written so, and of those of its dialogue
-- portion where it is written from a PDU; and the message is within the limit (X.690, Length octets; the
-- limit is own).
pub record IsMeasured (len : MessageLength) (m : Message) (p : Option PduValue) : Type 0 where
  pub is_contents : len.contents ≡ length (written_fields (fields (carrying p m)))
  pub is_dialogue : len.dialogue ≡ carried_length p
  pub is_within : length (written_frame (carrying p m)) ≤ message_limit
