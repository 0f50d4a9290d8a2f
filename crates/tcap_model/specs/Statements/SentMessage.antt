-- The messages that octets sent are.
use Rattle.std.specs.Prelude.{◌≡◌, ℕ, List, Option, Some}
use Rattle.tcap_pdu.specs.FrameSpelling.{Message, Reason, SpellsFrame}
use Rattle.tcap_pdu.specs.FrameWritten.{written_frame}
use Rattle.tcap_model.specs.Replies.Due.{standing_of}
use Rattle.tcap_model.specs.Histories.History.{History}
use Rattle.tcap_model.specs.Histories.Life.{Life, life}
use Rattle.tcap_model.specs.Words.Request.{Request}
use Rattle.tcap_model.specs.Procedures.RequestMessage.{message_of}
use Rattle.tcap_model.specs.Words.State.{State}

-- The octets are this message in the canonical form, and spell it (Q.773, Structure of TC messages).
pub record IsMessage (message : Message) (bytes : List ℕ) : Type 0 where
  pub is_written : bytes ≡ written_frame message
  pub spelled : SpellsFrame message bytes

-- What is sent for a request is the message of the request, as its dialogue stands
-- (Q.774, Dialogue control).
pub record SentForRequest (h : History) (dialogue : ℕ) (request : Request) (bytes : List ℕ) : Type 0 where
  pub state : State
  pub context : Option (List ℕ)
  pub message : Message
  pub is_life : life dialogue h.pairs ≡ Life.standing state context
  pub is_asked : message_of (standing_of dialogue h.pairs state context) request ≡ Some message
  pub is_message : IsMessage message bytes

-- What is sent for received bytes is an Abort (Q.774, Abnormal procedures).
pub record SentForBytes (bytes : List ℕ) : Type 0 where
  pub peer : List ℕ
  pub reason : Reason
  pub is_message : IsMessage (Message.abort peer reason) bytes
