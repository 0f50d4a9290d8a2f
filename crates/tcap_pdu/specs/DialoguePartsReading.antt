-- The parts of a dialogue PDU, read from left to right.
use Rattle.std.specs.Prelude.{ℕ, List, [], ◌∷◌, Bool, true, false, Option, Some, None, Result, Ok, Err, nat_lt, nat_le, ◌==◌, unwrap_or, if◌then◌else◌}
use Rattle.std.specs.List.{list_all}
use Rattle.ber_core.specs.declared.fault.BerFault.{BerFault}
use Rattle.ber_core.specs.Options.{◌>>=◌}
use Rattle.ber_core.specs.Element.{Parts}
use Rattle.ber_core.specs.ListReading.{items_of}
use Rattle.ber_core.specs.ObjectIdentifier.{is_object_identifier}
use Rattle.ber_core.specs.SequenceReading.{is_tag, tagged, content_at, ending, only_at, alone_at}
use Rattle.tcap_pdu.specs.DialogueSpelling.{Source, diagnostic_limit}
use Rattle.tcap_pdu.specs.DialogueSpelling.Source.{user, provider}

-- The one octet that a content is (own).
unfoldable pub one_octet : List ℕ → Option ℕ
one_octet [] = None
one_octet (n ∷ []) = Some n
one_octet (n ∷ m ∷ more) = None

-- A tag of one octet and the content behind it (own).
abbrev pub Tagged : Type 0
Tagged = ℕ × List ℕ

-- These two (own).
abbrev pub tag_and : ℕ → List ℕ → Tagged
tag_and tag content = (tag, content)

-- The tag, of one octet, and the content of the one element that the bytes are
-- (X.690, Structure of an encoding).
unfoldable pub one_at : List ℕ → Option Tagged
one_at bytes = alone_at bytes >>= (λ e. one_octet e.tag >>= (λ tag. Some (tag_and tag e.content)))

-- Whether an item is an EXTERNAL (X.690, Encoding of a value of the external type).
abbrev pub is_external : Result Parts BerFault → Bool
is_external (Ok e) = is_tag 0x28 e.tag
is_external (Err f) = false

-- Whether the bytes are user information: a list of EXTERNALs (Q.773, Dialogue portion).
abbrev pub is_information : List ℕ → Bool
is_information bytes = list_all is_external (items_of bytes)

-- User information, empty where it is left out, and nothing after it (Q.773, Dialogue portion).
unfoldable pub information_at : List ℕ → Option (List ℕ)
information_at bytes =
    let info = unwrap_or (tagged 0xbe bytes).0 [] in
    if is_information info then ending info (tagged 0xbe bytes).1 else None

-- Whether the octets of a protocol version, or none, say version 1
-- (Q.773, Dialogue portion; X.690, Encoding of a bitstring value).
unfoldable pub version_of : Option (List ℕ) → Option Bool
version_of None = Some true
version_of (Some []) = None
version_of (Some (unused ∷ [])) = if unused == 0 then Some false else None
version_of (Some (unused ∷ bits ∷ more)) = if nat_lt 7 unused then None else Some (nat_le 0x80 bits)

-- These two (own).
abbrev pub version_and : Bool → List ℕ → Bool × List ℕ
version_and version1 rest = (version1, rest)

-- Whether version 1 is said, and what follows the protocol version (Q.773, Dialogue portion).
unfoldable pub version_at : List ℕ → Option (Bool × List ℕ)
version_at bytes = version_of (tagged 0x80 bytes).0 >>= (λ version1. Some (version_and version1 (tagged 0x80 bytes).1))

-- The application context name that is held (Q.773, Dialogue portion).
unfoldable pub context_at : List ℕ → Option (List ℕ)
context_at bytes = only_at 0x06 bytes >>= (λ c. if is_object_identifier c then Some c else None)

-- What begins an AARQ, an AUDT and an AARE, and what follows it (own).
abbrev pub Opening : Type 0
Opening = Bool × List ℕ × List ℕ

-- These three (own).
abbrev pub opening : Bool → List ℕ → List ℕ → Opening
opening version1 context rest = (version1, context, rest)

-- The protocol version, the application context name, and what follows them
-- (Q.773, Dialogue portion).
unfoldable pub opening_at : List ℕ → Option Opening
opening_at bytes = do
  v ← version_at bytes
  name ← content_at 0xa1 v.1
  context ← context_at name.0
  Some (opening v.0 context name.1)

-- The integer of one octet that is held (Q.773, Dialogue portion).
unfoldable pub number_at : List ℕ → Option ℕ
number_at bytes = only_at 0x02 bytes >>= one_octet

-- The diagnostic of this number in an element with this tag (Q.773, Dialogue portion).
abbrev pub source_of : ℕ → ℕ → Option Source
source_of tag n =
    if nat_lt diagnostic_limit n then None
    else if tag == 0xa1 then Some (user n)
    else if tag == 0xa2 then Some (provider n)
    else None

-- The result source diagnostic that is held (Q.773, Dialogue portion).
unfoldable pub diagnostic_at : List ℕ → Option Source
diagnostic_at bytes = do
  h ← one_at bytes
  n ← number_at h.1
  source_of h.0 n
