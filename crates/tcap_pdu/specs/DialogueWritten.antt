-- The canonical form of a dialogue portion, and why one is not written.
use Rattle.std.specs.Prelude.{ℕ, ◌<◌, ◌≤◌, Bool, true, false, List, [], ◌∷◌, length, Some}
use Rattle.ber_core.specs.ObjectIdentifier.{IsObjectIdentifier}
use Rattle.ber_core.specs.Sequence.{Field}
use Rattle.ber_core.specs.Sequence.Field.{must, may, filled}
use Rattle.ber_core.specs.Written.{written, written_fields}
use Rattle.tcap_pdu.specs.declared.fault.PduFault.{PduFault}
use Rattle.tcap_pdu.specs.declared.fault.PduFault.TheVariants.{OutOfMemory, TooLong, BadOid, BadInfo}
use Rattle.tcap_pdu.specs.DialogueSpelling.{Source, PduValue, structured_syntax, unstructured_syntax, diagnostic_limit, result_number, abort_source, source_tag, source_number, IsInformation, IsForeign}
use Rattle.tcap_pdu.specs.DialogueSpelling.PduValue.{aarq, audt, aare, abrt, foreign}

-- The greatest length of the contents of a dialogue portion that is written, in octets (own).
abbrev pub portion_limit : ℕ
portion_limit = 65535

-- The protocol version, which is always written: seven unused bits and one bit, set for version 1
-- (Q.773, Dialogue portion; that it is always written is own).
abbrev pub version_octets : Bool → List ℕ
version_octets true = 0x07 ∷ 0x80 ∷ []
version_octets false = 0x07 ∷ 0x00 ∷ []

-- What begins an AARQ, an AUDT and an AARE: protocol version, application context name
-- (Q.773, Dialogue portion).
abbrev pub opening_fields : Bool → List ℕ → List Field → List Field
opening_fields version1 context fields = may 0x80 (Some (version_octets version1)) ∷ must 0xa1 (written (0x06 ∷ []) context) ∷ fields

-- The contents of an AARQ and of an AUDT; empty user information is left out
-- (Q.773, Dialogue portion).
abbrev pub request_fields : Bool → List ℕ → List ℕ → List Field
request_fields version1 context info = opening_fields version1 context (filled 0xbe info ∷ [])

-- The result of an association (Q.773, Dialogue portion).
abbrev pub result_field : Bool → Field
result_field accepted = must 0xa2 (written (0x02 ∷ []) (result_number accepted ∷ []))

-- The result source diagnostic (Q.773, Dialogue portion).
abbrev pub diagnostic_field : Source → Field
diagnostic_field diagnostic = must 0xa3 (written (source_tag diagnostic ∷ []) (written (0x02 ∷ []) (source_number diagnostic ∷ [])))

-- The contents of an AARE; empty user information is left out (Q.773, Dialogue portion).
abbrev pub response_fields : Bool → List ℕ → Bool → Source → List ℕ → List Field
response_fields version1 context accepted diagnostic info = opening_fields version1 context (result_field accepted ∷ diagnostic_field diagnostic ∷ filled 0xbe info ∷ [])

-- The contents of an ABRT; empty user information is left out (Q.773, Dialogue portion).
abbrev pub abort_fields : Bool → List ℕ → List Field
abort_fields by_provider info = must 0x80 (abort_source by_provider ∷ []) ∷ filled 0xbe info ∷ []

-- An EXTERNAL of this abstract syntax with a PDU of this tag and these contents
-- (Q.773, Dialogue portion).
unfoldable pub written_external : List ℕ → ℕ → List Field → List ℕ
written_external syntax tag fields = written (0x28 ∷ []) (written_fields (must 0x06 syntax ∷ must 0xa0 (written (tag ∷ []) (written_fields fields)) ∷ []))

-- The contents of a dialogue portion in the canonical form: the shortest definite lengths; a foreign
-- EXTERNAL is copied whole. Contents that are too long for length octets are above the limit in any
-- case, so that these octets don't matter (Q.773, Dialogue portion; the shortest form is own).
unfoldable pub written_dialogue : PduValue → List ℕ
written_dialogue (aarq version1 context info) = written_external structured_syntax 0x60 (request_fields version1 context info)
written_dialogue (audt version1 context info) = written_external unstructured_syntax 0x60 (request_fields version1 context info)
written_dialogue (aare version1 context accepted diagnostic info) = written_external structured_syntax 0x61 (response_fields version1 context accepted diagnostic info)
written_dialogue (abrt by_provider info) = written_external structured_syntax 0x64 (abort_fields by_provider info)
written_dialogue (foreign external) = external

-- The application context name, where the PDU names one, is an object identifier
-- (Q.773, Dialogue portion).
abbrev pub IsContextGood : PduValue → Type 0
IsContextGood (aarq version1 context info) = IsObjectIdentifier context
IsContextGood (audt version1 context info) = IsObjectIdentifier context
IsContextGood (aare version1 context accepted diagnostic info) = IsObjectIdentifier context
IsContextGood (abrt by_provider info) = Unit {0}
IsContextGood (foreign external) = Unit {0}

-- The user information is a list of EXTERNALs, and a foreign EXTERNAL is one
-- (Q.773, Dialogue portion).
abbrev pub IsInformationGood : PduValue → Type 0
IsInformationGood (aarq version1 context info) = IsInformation info
IsInformationGood (audt version1 context info) = IsInformation info
IsInformationGood (aare version1 context accepted diagnostic info) = IsInformation info
IsInformationGood (abrt by_provider info) = IsInformation info
IsInformationGood (foreign external) = IsForeign external

-- A diagnostic, where there is one, is at most 127 (own).
abbrev pub HasDiagnostic : PduValue → Type 0
HasDiagnostic (aarq version1 context info) = Unit {0}
HasDiagnostic (audt version1 context info) = Unit {0}
HasDiagnostic (aare version1 context accepted diagnostic info) = source_number diagnostic ≤ diagnostic_limit
HasDiagnostic (abrt by_provider info) = Unit {0}
HasDiagnostic (foreign external) = Unit {0}

-- Nothing but `OutOfMemory` keeps the PDU from being written (own).
pub record IsWritable (p : PduValue) : Type 0 where
  pub is_context_good : IsContextGood p
  pub is_information_good : IsInformationGood p
  pub is_short : length (written_dialogue p) ≤ portion_limit

-- Why the PDU is not written, each with when, in the order BadOid, BadInfo, TooLong, OutOfMemory: of
-- several the first is told (own).
abbrev pub WriteFault : PduValue → PduFault → Type 0
WriteFault p BadOid = IsContextGood p → ⊥
WriteFault p BadInfo = IsContextGood p × (IsInformationGood p → ⊥)
WriteFault p TooLong = IsContextGood p × IsInformationGood p × (portion_limit < length (written_dialogue p))
WriteFault p OutOfMemory = IsWritable p
