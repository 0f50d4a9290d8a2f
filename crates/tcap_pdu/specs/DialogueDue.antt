-- The first fault of writing a dialogue portion, computed, and its length.
use Rattle.std.specs.Prelude.{ℕ, ◌+◌, zero, suc, Bool, true, false, List, [], ◌∷◌, ◌++◌, length, Option, Some, None, Result, Ok, Err, nat_lt, if◌then◌else◌}
use Rattle.ber_core.specs.ObjectIdentifier.{is_object_identifier}
use Rattle.ber_core.specs.Written.{written, written_head}
use Rattle.ber_core.specs.WrittenLength.{element_length}
use Rattle.tcap_pdu.specs.declared.fault.PduFault.{PduFault}
use Rattle.tcap_pdu.specs.declared.fault.PduFault.TheVariants.{TooLong, BadOid, BadInfo}
use Rattle.tcap_pdu.specs.DialogueSpelling.{PduValue}
use Rattle.tcap_pdu.specs.DialogueSpelling.PduValue.{aarq, audt, aare, abrt, foreign}
use Rattle.tcap_pdu.specs.DialoguePartsReading.{is_information}
use Rattle.tcap_pdu.specs.DialogueReading.{pdu_at}
use Rattle.tcap_pdu.specs.DialogueWritten.{portion_limit, written_dialogue}

-- The application context name, where the PDU names one (Q.773, Dialogue portion).
abbrev pub context_of : PduValue → Option (List ℕ)
context_of (aarq version1 context info) = Some context
context_of (audt version1 context info) = Some context
context_of (aare version1 context accepted diagnostic info) = Some context
context_of (abrt by_provider info) = None
context_of (foreign external) = None

-- Whether a name, if any, is an object identifier (own).
abbrev pub is_context : Option (List ℕ) → Bool
is_context None = true
is_context (Some context) = is_object_identifier context

-- Whether what was read is a foreign EXTERNAL (own).
abbrev pub is_foreign : Option PduValue → Bool
is_foreign None = false
is_foreign (Some (aarq version1 context info)) = false
is_foreign (Some (audt version1 context info)) = false
is_foreign (Some (aare version1 context accepted diagnostic info)) = false
is_foreign (Some (abrt by_provider info)) = false
is_foreign (Some (foreign external)) = true

-- Whether the user information is a list of EXTERNALs, and a foreign EXTERNAL one
-- (Q.773, Dialogue portion).
abbrev pub is_information_good : PduValue → Bool
is_information_good (aarq version1 context info) = is_information info
is_information_good (audt version1 context info) = is_information info
is_information_good (aare version1 context accepted diagnostic info) = is_information info
is_information_good (abrt by_provider info) = is_information info
is_information_good (foreign external) = is_foreign (pdu_at external)

-- The first fault of the PDU's contents (own).
abbrev pub content_fault : PduValue → Option PduFault
content_fault p = if is_context (context_of p) then (if is_information_good p then None else Some BadInfo) else Some BadOid

-- The fault, or else that of a length above the limit (own).
abbrev pub or_long : Option PduFault → ℕ → Option PduFault
or_long (Some f) n = Some f
or_long None n = if nat_lt portion_limit n then Some TooLong else None

-- The first fault that is due, `OutOfMemory` apart (own).
unfoldable pub due_fault : PduValue → Option PduFault
due_fault p = or_long (content_fault p) (length (written_dialogue p))

-- The value, if no fault is due (own).
abbrev pub unless : {A : Type 0} → Option PduFault → A → Result A PduFault
unless (Some f) x = Err f
unless None x = Ok x

-- The length that would be written, or the first fault that is due (own).
abbrev pub length_at : PduValue → Result ℕ PduFault
length_at p = unless (due_fault p) (length (written_dialogue p))

-- ---- the length, from within to without

-- The octets of user information of this length, which is left out where it is empty
-- (Q.773, Dialogue portion).
abbrev pub information_length : ℕ → ℕ
information_length zero = 0
information_length (suc n) = element_length (suc n)

-- The octets of a version and of a context of this length (Q.773, Dialogue portion).
abbrev pub opening_length : ℕ → ℕ
opening_length context = element_length 2 + element_length (element_length context)

-- The octets of a result and of a diagnostic (Q.773, Dialogue portion).
abbrev pub answer_length : ℕ
answer_length = element_length (element_length 1) + element_length (element_length (element_length 1))

-- The octets of the contents of a PDU; those of a foreign EXTERNAL are its own
-- (Q.773, Dialogue portion).
abbrev pub contents_length : PduValue → ℕ
contents_length (aarq version1 context info) = opening_length (length context) + information_length (length info)
contents_length (audt version1 context info) = opening_length (length context) + information_length (length info)
contents_length (aare version1 context accepted diagnostic info) = opening_length (length context) + answer_length + information_length (length info)
contents_length (abrt by_provider info) = element_length 1 + information_length (length info)
contents_length (foreign external) = length external

-- The octets of what an EXTERNAL holds, for a PDU with contents of this length
-- (Q.773, Dialogue portion).
abbrev pub held_length : ℕ → ℕ
held_length contents = element_length 7 + element_length (element_length contents)

-- The octets of an EXTERNAL for a PDU with contents of this length (Q.773, Dialogue portion).
abbrev pub external_length : ℕ → ℕ
external_length contents = element_length (held_length contents)

-- The octets of the contents of a dialogue portion (Q.773, Dialogue portion).
unfoldable pub portion_length : PduValue → ℕ
portion_length (aarq version1 context info) = external_length (contents_length (aarq version1 context info))
portion_length (audt version1 context info) = external_length (contents_length (audt version1 context info))
portion_length (aare version1 context accepted diagnostic info) = external_length (contents_length (aare version1 context accepted diagnostic info))
portion_length (abrt by_provider info) = external_length (contents_length (abrt by_provider info))
portion_length (foreign external) = length external

-- What begins an EXTERNAL: its head, the abstract syntax, and the heads of A0 and of the PDU, whose
-- contents have this length (Q.773, Dialogue portion).
unfoldable pub external_front : List ℕ → ℕ → ℕ → List ℕ
external_front syntax tag contents =
    written_head (0x28 ∷ []) (held_length contents) ++ (written (0x06 ∷ []) syntax ++ (written_head (0xa0 ∷ []) (element_length contents) ++ written_head (tag ∷ []) contents))
