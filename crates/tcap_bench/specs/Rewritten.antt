-- A message that was read, in the canonical form.
use Rattle.std.specs.Prelude.{ℕ, List, [], Result, Ok, Err, option_map}
use Rattle.std.specs.List.{flat_map}
use Rattle.tcap_pdu.specs.declared.fault.DialogueFault.{DialogueFault}
use Rattle.tcap_pdu.specs.declared.fault.FrameFault.{FrameFault}
use Rattle.tcap_pdu.specs.FrameSpelling.{Message}
use Rattle.tcap_pdu.specs.FrameLength.{dialogue_of}
use Rattle.tcap_pdu.specs.FramePortions.{components_in, with_portions}
use Rattle.tcap_pdu.specs.FrameReading.{frame_at}
use Rattle.tcap_pdu.specs.FrameWritten.{written_frame}
use Rattle.tcap_pdu.specs.DialogueSpelling.{PduValue}
use Rattle.tcap_pdu.specs.DialogueReading.{dialogue_at}
use Rattle.tcap_pdu.specs.DialogueWritten.{written_dialogue}
use Rattle.tcap_component.specs.ComponentFault.{FaultParts}
use Rattle.tcap_component.specs.Component.{ComponentParts}
use Rattle.tcap_component.specs.ComponentReading.{components_of}
use Rattle.tcap_component.specs.Written.{written_component}

-- A component in the shortest definite lengths; of a fault nothing
-- (Q.773, Component portion; the canonical form is own).
abbrev pub rewritten_item : Result ComponentParts FaultParts → List ℕ
rewritten_item (Ok c) = written_component c
rewritten_item (Err f) = []

-- The contents of a component portion: its components in the canonical form, one after the other
-- (Q.773, Component portion; the canonical form is own).
abbrev pub rewritten_components : List ℕ → List ℕ
rewritten_components content = flat_map rewritten_item (components_of content)

-- A dialogue PDU in the canonical form; of a fault nothing
-- (Q.773, Dialogue portion; the canonical form is own).
abbrev pub rewritten_pdu : Result PduValue DialogueFault → List ℕ
rewritten_pdu (Ok pdu) = written_dialogue pdu
rewritten_pdu (Err f) = []

-- The contents of a dialogue portion in the canonical form
-- (Q.773, Dialogue portion; the canonical form is own).
abbrev pub rewritten_dialogue : List ℕ → List ℕ
rewritten_dialogue content = rewritten_pdu (dialogue_at content)

-- The octets of a message with its portions in the canonical form
-- (Q.773, Structure of TC messages; the canonical form is own).
abbrev pub rewritten_message : Message → List ℕ
rewritten_message m = written_frame (with_portions (option_map rewritten_dialogue (dialogue_of m)) (rewritten_components (components_in m)) m)

-- What is written again of a message that was read; of a fault nothing (own).
abbrev pub rewritten_by : Result Message FrameFault → List ℕ
rewritten_by (Ok m) = rewritten_message m
rewritten_by (Err f) = []

-- The canonical form of the message that bytes spell (own).
abbrev pub rewritten : List ℕ → List ℕ
rewritten bytes = rewritten_by (frame_at bytes)
