-- Which dialogue received bytes name.
use Rattle.std.specs.Prelude.{ℕ, Bool, List, [], ◌∷◌, Option, Some, None, Result, Ok, Err, ◌==◌, if◌then◌else◌, false, ◌||◌}
use Rattle.tcap_pdu.specs.declared.fault.FrameFault.{FrameFault}
use Rattle.tcap_pdu.specs.FrameSpelling.{Message}
use Rattle.tcap_pdu.specs.FrameReading.{frame_at}
use Rattle.tcap_pdu.specs.Front.{front_at}

-- The destination transaction identifier of a message; a Unidirectional and a Begin have none
-- (Q.773, Structure of TC messages).
abbrev pub destination : Message → Option (List ℕ)
destination (Message.unidirectional portion components) = None
destination (Message.begin origin portion components) = None
destination (Message.end to portion components) = Some to
destination (Message.go_on origin to portion components) = Some to
destination (Message.abort to reason) = Some to

-- The first octet of a faulty message is that of an End, a Continue or an Abort (own).
abbrev pub begins_addressed : List ℕ → Bool
begins_addressed [] = false
begins_addressed (b ∷ bytes) = (b == 0x64) || (b == 0x65) || (b == 0x67)

-- The destination of the message that was read; of a faulty End, Continue or Abort the one at its
-- front (own).
abbrev pub destination_by : List ℕ → Result Message FrameFault → Option (List ℕ)
destination_by bytes (Ok m) = destination m
destination_by bytes (Err f) = if begins_addressed bytes then (front_at bytes).1 else None

-- The destination of received bytes, if they have one (own).
abbrev pub destination_of : List ℕ → Option (List ℕ)
destination_of bytes = destination_by bytes (frame_at bytes)
