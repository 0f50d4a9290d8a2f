-- The dialogue and the component portion of a message, and the message with others in their place.
use Rattle.std.specs.Prelude.{List, ℕ, [], Option, Some, None}
use Rattle.ber_core.specs.Place.{Slice}
use Rattle.tcap_pdu.specs.declared.frame.Frame.{Frame}
use Rattle.tcap_pdu.specs.declared.frame.Frame.TheVariants as frame
use Rattle.tcap_pdu.specs.declared.frame.AbortPart.{AbortPart}
use Rattle.tcap_pdu.specs.declared.frame.AbortPart.TheVariants as part
use Rattle.tcap_pdu.specs.FrameSpelling.{Message}
use Rattle.tcap_pdu.specs.FrameSpelling.Message.{unidirectional, begin, end, go_on, abort}
use Rattle.tcap_pdu.specs.FrameLength.{reason_with}

-- The contents of the component portion of a message, empty where it has none
-- (Q.773, Structure of TC messages).
abbrev pub components_in : Message → List ℕ
components_in (unidirectional d c) = c
components_in (begin o d c) = c
components_in (end t d c) = c
components_in (go_on o t d c) = c
components_in (abort t r) = []

-- The message with these contents of its portions in place of its own; its identifiers and a P-Abort
-- cause stay (own).
abbrev pub with_portions : Option (List ℕ) → List ℕ → Message → Message
with_portions d c (unidirectional own mine) = unidirectional d c
with_portions d c (begin o own mine) = begin o d c
with_portions d c (end t own mine) = end t d c
with_portions d c (go_on o t own mine) = go_on o t d c
with_portions d c (abort t r) = abort t (reason_with d r)

-- The slice that a reason holds, if it holds one (own).
abbrev pub reason_slice : AbortPart → Option Slice
reason_slice part.Nothing = None
reason_slice (part.Cause n) = None
reason_slice (part.Dialogue d) = Some d

-- The slice of the dialogue portion that a frame holds, if it holds one (own).
abbrev pub dialogue_slice : Frame → Option Slice
dialogue_slice (frame.Uni d c) = d
dialogue_slice (frame.Begin o d c) = d
dialogue_slice (frame.End t d c) = d
dialogue_slice (frame.Continue o t d c) = d
dialogue_slice (frame.Abort t r) = reason_slice r

-- The slice of the component portion that a frame holds; an Abort holds none (own).
abbrev pub components_slice : Frame → Option Slice
components_slice (frame.Uni d c) = Some c
components_slice (frame.Begin o d c) = Some c
components_slice (frame.End t d c) = Some c
components_slice (frame.Continue o t d c) = Some c
components_slice (frame.Abort t r) = None
