-- Messages as a contract sees them.
use Rattle.std.specs.Prelude.{option_copied}
use Rattle.tcap_pdu.specs.declared.frame.Frame.{Frame}
use Rattle.tcap_pdu.specs.declared.frame.Frame.TheVariants as frame
use Rattle.tcap_pdu.specs.declared.frame.AbortPart.{AbortPart}
use Rattle.tcap_pdu.specs.declared.frame.AbortPart.TheVariants as part
use Rattle.tcap_pdu.specs.FrameSpelling.{Reason, Message}
use Rattle.tcap_pdu.specs.FrameSpelling.Reason.{nothing, cause, portion}
use Rattle.tcap_pdu.specs.FrameSpelling.Message.{unidirectional, begin, end, go_on, abort}

-- What an Abort has behind its destination, by what its slices hold (own).
abbrev pub reason_of : AbortPart → Reason
reason_of part.Nothing = nothing
reason_of (part.Cause n) = cause n
reason_of (part.Dialogue d) = portion d.now

-- A frame's message, by what its slices hold (own).
abbrev pub message : Frame → Message
message (frame.Uni d c) = unidirectional (option_copied d) c.now
message (frame.Begin o d c) = begin o (option_copied d) c.now
message (frame.End t d c) = end t (option_copied d) c.now
message (frame.Continue o t d c) = go_on o t (option_copied d) c.now
message (frame.Abort t r) = abort t (reason_of r)
