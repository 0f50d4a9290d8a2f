-- The component portion of a message.
use Rattle.std.specs.Prelude.{ℕ, List, []}
use Rattle.tcap_pdu.specs.FrameSpelling.{Message}

-- The contents of the component portion of a message; an Abort has none
-- (Q.773, Structure of TC messages).
abbrev pub portion_of : Message → List ℕ
portion_of (Message.unidirectional portion components) = components
portion_of (Message.begin origin portion components) = components
portion_of (Message.end to portion components) = components
portion_of (Message.go_on origin to portion components) = components
portion_of (Message.abort to reason) = []
