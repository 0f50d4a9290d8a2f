-- A dialogue PDU and the octets that a dialogue portion holds for it, by the tables of Q.773.
use Rattle.std.specs.Prelude.{◌≡◌, ◌≢◌, ℕ, ◌≤◌, Bool, true, false, List, [], ◌∷◌, Option, Some, None, nat_le}
use Rattle.std.specs.List.{AllByRecursion}
use Rattle.ber_core.specs.Element.{Parts}
use Rattle.ber_core.specs.ElementList.{IsList}
use Rattle.ber_core.specs.ObjectIdentifier.{IsObjectIdentifier}
use Rattle.ber_core.specs.Sequence.{Holds, SpellsSequence, IsOnly}
use Rattle.ber_core.specs.Sequence.Field.{must, may, filled}

-- A result source diagnostic: who gives it, the dialogue service user or the dialogue service
-- provider, and its number (Q.773, Dialogue portion).
pub data Source : Type 0 where
  user : ℕ → Source
  provider : ℕ → Source

-- The dialogue PDUs: dialogue request, unidirectional dialogue, dialogue response, dialogue abort;
-- and an EXTERNAL of a foreign abstract syntax, which is kept whole (Q.773, Dialogue portion).
pub data PduValue : Type 0 where
  aarq : (version1 : Bool) (context info : List ℕ) → PduValue
  audt : (version1 : Bool) (context info : List ℕ) → PduValue
  aare : (version1 : Bool) (context : List ℕ) (accepted : Bool) (diagnostic : Source) (info : List ℕ) → PduValue
  abrt : (by_provider : Bool) (info : List ℕ) → PduValue
  foreign : (external : List ℕ) → PduValue

-- The abstract syntax of structured dialogues, by its contents octets (Q.773, Dialogue portion).
abbrev pub structured_syntax : List ℕ
structured_syntax = 0x00 ∷ 0x11 ∷ 0x86 ∷ 0x05 ∷ 0x01 ∷ 0x01 ∷ 0x01 ∷ []

-- The abstract syntax of unstructured dialogues, by its contents octets (Q.773, Dialogue portion).
abbrev pub unstructured_syntax : List ℕ
unstructured_syntax = 0x00 ∷ 0x11 ∷ 0x86 ∷ 0x05 ∷ 0x01 ∷ 0x02 ∷ 0x01 ∷ []

-- The greatest number of a result source diagnostic (own).
abbrev pub diagnostic_limit : ℕ
diagnostic_limit = 0x7f

-- Version 1 is said by no octets; or by a bit string, whose first octet counts the unused bits, 0 to
-- 7 and 0 where no bits follow, and whose first bit, bit 8 of the second octet, is set for version 1
-- (Q.773, Dialogue portion; X.690, Encoding of a bitstring value).
abbrev pub SaysVersion : Option (List ℕ) → Bool → Type 0
SaysVersion None version1 = version1 ≡ true
SaysVersion (Some []) version1 = ⊥
SaysVersion (Some (unused ∷ [])) version1 = (unused ≡ 0) × (version1 ≡ false)
SaysVersion (Some (unused ∷ bits ∷ more)) version1 = (unused ≤ 7) × (version1 ≡ nat_le 0x80 bits)

-- The result of an association: 0 accepted, 1 reject permanent
-- (Q.773, Dialogue portion; that there is no other number is own).
abbrev pub result_number : Bool → ℕ
result_number true = 0
result_number false = 1

-- The source of an abort: 0 dialogue service user, 1 dialogue service provider
-- (Q.773, Dialogue portion; that there is no other number is own).
abbrev pub abort_source : Bool → ℕ
abort_source false = 0
abort_source true = 1

-- The tag that says who gives a diagnostic: A1 dialogue service user, A2 dialogue service provider
-- (Q.773, Dialogue portion).
abbrev pub source_tag : Source → ℕ
source_tag (user n) = 0xa1
source_tag (provider n) = 0xa2

-- The number of a diagnostic (Q.773, Dialogue portion).
abbrev pub source_number : Source → ℕ
source_number (user n) = n
source_number (provider n) = n

-- The element is an EXTERNAL: its tag is 28 (X.690, Encoding of a value of the external type).
abbrev pub IsExternal : Parts → Type 0
IsExternal e = e.tag ≡ 0x28 ∷ []

-- User information is a list of EXTERNALs, which are not looked into; it may be empty
-- (Q.773, Dialogue portion; that they are not looked into is own).
pub record IsInformation (info : List ℕ) : Type 0 where
  pub externals : List Parts
  pub is_list : IsList externals info
  pub each : AllByRecursion IsExternal externals

-- The contents of an AARQ and of an AUDT: protocol version, optional; application context name; user
-- information, optional (Q.773, Dialogue portion).
pub record SpellsRequest (version1 : Bool) (context info bytes : List ℕ) : Type 0 where
  pub version : Option (List ℕ)
  pub name : List ℕ
  pub in_sequence : SpellsSequence (may 0x80 version ∷ must 0xa1 name ∷ filled 0xbe info ∷ []) bytes
  pub says_version : SaysVersion version version1
  pub holds_context : IsOnly 0x06 context name
  pub is_context : IsObjectIdentifier context
  pub is_information : IsInformation info

-- A result source diagnostic: A1 or A2, which holds an integer of one octet, 00 to 7F
-- (Q.773, Dialogue portion).
pub record SpellsDiagnostic (diagnostic : Source) (bytes : List ℕ) : Type 0 where
  pub held : List ℕ
  pub holds_number : IsOnly 0x02 (source_number diagnostic ∷ []) held
  pub is_source : IsOnly (source_tag diagnostic) held bytes
  pub in_range : source_number diagnostic ≤ diagnostic_limit

-- The contents of an AARE: protocol version, optional; application context name; result; result
-- source diagnostic; user information, optional (Q.773, Dialogue portion).
pub record SpellsResponse (version1 : Bool) (context : List ℕ) (accepted : Bool) (diagnostic : Source) (info bytes : List ℕ) : Type 0 where
  pub version : Option (List ℕ)
  pub name : List ℕ
  pub result : List ℕ
  pub source : List ℕ
  pub in_sequence : SpellsSequence (may 0x80 version ∷ must 0xa1 name ∷ must 0xa2 result ∷ must 0xa3 source ∷ filled 0xbe info ∷ []) bytes
  pub says_version : SaysVersion version version1
  pub holds_context : IsOnly 0x06 context name
  pub is_context : IsObjectIdentifier context
  pub holds_result : IsOnly 0x02 (result_number accepted ∷ []) result
  pub is_diagnostic : SpellsDiagnostic diagnostic source
  pub is_information : IsInformation info

-- The contents of an ABRT: abort source; user information, optional (Q.773, Dialogue portion).
pub record SpellsAbort (by_provider : Bool) (info bytes : List ℕ) : Type 0 where
  pub in_sequence : SpellsSequence (must 0x80 (abort_source by_provider ∷ []) ∷ filled 0xbe info ∷ []) bytes
  pub is_information : IsInformation info

-- A dialogue portion holds one EXTERNAL and nothing after it: the abstract syntax, and A0 with one
-- element, the PDU, whose contents are as `Spells` says (Q.773, Dialogue portion; that an EXTERNAL with a
-- dialogue PDU has no other part and no other encoding is own).
pub record SpellsExternal (syntax : List ℕ) (tag : ℕ) (Spells : List ℕ → Type 0) (bytes : List ℕ) : Type 0 where
  pub external : List ℕ
  pub single : List ℕ
  pub content : List ℕ
  pub is_external : IsOnly 0x28 external bytes
  pub in_sequence : SpellsSequence (must 0x06 syntax ∷ must 0xa0 single ∷ []) external
  pub is_pdu : IsOnly tag content single
  pub is_content : Spells content

-- One EXTERNAL whose contents are a list of elements, the first an object identifier other than the
-- two abstract syntaxes (Q.773, Dialogue portion; that the object identifier is there, and that what
-- follows is not looked into, is own).
pub record IsForeign (external : List ℕ) : Type 0 where
  pub content : List ℕ
  pub syntax : List ℕ
  pub first : Parts
  pub others : List Parts
  pub is_external : IsOnly 0x28 content external
  pub is_list : IsList (first ∷ others) content
  pub is_syntax : Holds 0x06 syntax first
  pub is_identifier : IsObjectIdentifier syntax
  pub not_structured : syntax ≢ structured_syntax
  pub not_unstructured : syntax ≢ unstructured_syntax

-- The contents of a dialogue portion spell this PDU, by its abstract syntax, its tag and its
-- contents (Q.773, Dialogue portion).
unfoldable pub SpellsDialogue : PduValue → List ℕ → Type 0
SpellsDialogue (aarq version1 context info) bytes = SpellsExternal structured_syntax 0x60 (SpellsRequest version1 context info) bytes
SpellsDialogue (audt version1 context info) bytes = SpellsExternal unstructured_syntax 0x60 (SpellsRequest version1 context info) bytes
SpellsDialogue (aare version1 context accepted diagnostic info) bytes = SpellsExternal structured_syntax 0x61 (SpellsResponse version1 context accepted diagnostic info) bytes
SpellsDialogue (abrt by_provider info) bytes = SpellsExternal structured_syntax 0x64 (SpellsAbort by_provider info) bytes
SpellsDialogue (foreign external) bytes = (bytes ≡ external) × IsForeign external
