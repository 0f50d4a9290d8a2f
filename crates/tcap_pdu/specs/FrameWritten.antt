-- The one spelling of a message in the canonical form, and the faults of writing it.
use Rattle.std.specs.Prelude.{ℕ, ◌<◌, ◌≤◌, List, [], ◌∷◌, length}
use Rattle.ber_core.specs.Written.{written, written_fields}
use Rattle.tcap_pdu.specs.FrameSpelling.{Message, message_tag, fields}
use Rattle.tcap_pdu.specs.declared.fault.PduFault.{PduFault}
use Rattle.tcap_pdu.specs.declared.fault.PduFault.TheVariants.{OutOfMemory, TooLong, BadOid, BadInfo}

-- The greatest number of bytes of a message that is written (own).
abbrev pub message_limit : ℕ
message_limit = 65535

-- The message in the canonical form: the shortest definite lengths; 6C is left out where it is
-- empty, but not in a Unidirectional; the contents of 6B and 6C are copied. A message whose contents
-- are too long for length octets is above the limit in any case, so that these octets don't matter
-- (Q.773, Structure of TC messages; the shortest form is own).
abbrev pub written_frame : Message → List ℕ
written_frame m = written (message_tag m ∷ []) (written_fields (fields m))

-- Why the message is not written: it is above the limit, or it is not and memory runs out. No
-- other fault of writing speaks of a message (own).
abbrev pub IsWriteFault : Message → PduFault → Type 0
IsWriteFault m OutOfMemory = length (written_frame m) ≤ message_limit
IsWriteFault m TooLong = message_limit < length (written_frame m)
IsWriteFault m BadOid = ⊥
IsWriteFault m BadInfo = ⊥
