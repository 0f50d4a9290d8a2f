-- How long the message of a request would be.
use Rattle.std.specs.Prelude.{◌≡◌, ℕ, length, Option, Some, None, Result, Ok, Err}
use Rattle.tcap_dialogue.specs.StepViews.{asked}
use Rattle.tcap_model.specs.Procedures.Refusals.{due_on}
use Rattle.tcap_model.specs.Procedures.RequestMessage.{message_of}
use Rattle.tcap_model.specs.Table.Dialogue as model
use Rattle.tcap_model.specs.Table.TableMove.{situation}
use Rattle.tcap_model.specs.Words.Fault as model_fault
use Rattle.tcap_model.specs.Words.Request.{Request}
use Rattle.tcap_pdu.specs.FrameSpelling.{Message}
use Rattle.tcap_pdu.specs.FrameWritten.{written_frame}
use Rattle.tcap_primitives.specs.FaultViews.{fault_view}
use Rattle.tcap_primitives.specs.declared.fault.Fault.{Fault}

-- How many octets a message has, if there is one (own).
abbrev pub octets_of : Option Message → Option ℕ
octets_of None = None
octets_of (Some m) = Some (length (written_frame m))

-- The fault of a request of dialogue handling that is due; one of component handling is not judged (own).
abbrev pub dialogue_fault : model.Dialogue → Request → Option model_fault.Fault
dialogue_fault d (Request.component request) = None
dialogue_fault d (Request.dialogue request) =
    due_on (situation (asked 0 0) d (Request.dialogue request)) (Request.dialogue request)

-- No fault is due, and the message has so many octets, if there is one; or this fault is due (own).
abbrev pub IsJudgedBy : Option Message → Option model_fault.Fault → Result (Option ℕ) Fault → Type 0
IsJudgedBy message due (Ok count) = (count ≡ octets_of message) × (due ≡ None)
IsJudgedBy message due (Err f) = due ≡ Some (fault_view f)

-- So it is of the message and the fault of a request on a dialogue (own).
abbrev pub IsJudged : model.Dialogue → Request → Result (Option ℕ) Fault → Type 0
IsJudged d request judged = IsJudgedBy (message_of d.standing request) (dialogue_fault d request) judged
