-- Which dialogue received bytes name, by the message that they spell or by what stands at their front.
use Rattle.std.specs.Prelude.{◌≡◌, ℕ, ◌≤◌, List, length, Option, Some, IsTrue}
use Rattle.tcap_pdu.specs.declared.fault.FrameFault.{FrameFault}
use Rattle.tcap_pdu.specs.FrameFaults.{IsFrameFault}
use Rattle.tcap_pdu.specs.FrameSpelling.{Message, SpellsFrame}
use Rattle.tcap_pdu.specs.FrameWritten.{message_limit}
use Rattle.tcap_pdu.specs.Front.{Front}
use Rattle.tcap_model.specs.Procedures.Destination.{destination, begins_addressed}
use Rattle.tcap_model.specs.Words.LocalId.{dialogue_named}

-- The destination transaction identifier of received bytes: that of the message that they spell; of
-- faulty ones whose first octet is that of an End, a Continue or an Abort, the one at their front
-- (Q.773, Structure of TC messages; that of a faulty message is own).
pub data IsDestination (bytes : List ℕ) : List ℕ → Type 0 where
  of_message : (message : Message) (to : List ℕ) → SpellsFrame message bytes → destination message ≡ Some to →
      IsDestination bytes to
  at_front : (fault : FrameFault) (origin : Option (List ℕ)) (to : List ℕ) → IsFrameFault bytes fault →
      IsTrue (begins_addressed bytes) → Front bytes origin (Some to) → IsDestination bytes to

-- Bytes that are no longer than a message may be name the dialogue whose four octets are their
-- destination (own).
pub record NamesDialogue (dialogue : ℕ) (bytes : List ℕ) : Type 0 where
  pub to : List ℕ
  pub within : length bytes ≤ message_limit
  pub is_destination : IsDestination bytes to
  pub is_dialogue : dialogue_named to ≡ Some dialogue
