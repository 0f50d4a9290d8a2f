-- What the faults print.
use Rattle.std.specs.Prelude.{ℕ, List, codes}
use Rattle.tcap_pdu.specs.declared.fault.FrameFault.{FrameFault}
use Rattle.tcap_pdu.specs.declared.fault.FrameFault.TheVariants as frame
use Rattle.tcap_pdu.specs.declared.fault.DialogueFault.{DialogueFault}
use Rattle.tcap_pdu.specs.declared.fault.DialogueFault.TheVariants as dialogue
use Rattle.tcap_pdu.specs.declared.fault.PduFault.{PduFault}
use Rattle.tcap_pdu.specs.declared.fault.PduFault.TheVariants as pdu

-- Why bytes are no message, in words (own).
abbrev pub frame_fault_text : FrameFault → List ℕ
frame_fault_text frame.Unknown = codes "unknown message type"
frame_fault_text frame.BadlyFormatted = codes "badly formatted message"
frame_fault_text frame.Incorrect = codes "incorrect message"

-- Why the contents of a dialogue portion are not read, in words (own).
abbrev pub dialogue_fault_text : DialogueFault → List ℕ
dialogue_fault_text dialogue.Faulty = codes "no dialogue PDU"

-- Why a message or a dialogue portion is not written, in words (own).
abbrev pub pdu_fault_text : PduFault → List ℕ
pdu_fault_text pdu.OutOfMemory = codes "out of memory"
pdu_fault_text pdu.TooLong = codes "too long"
pdu_fault_text pdu.BadOid = codes "bad object identifier"
pdu_fault_text pdu.BadInfo = codes "bad user information"
