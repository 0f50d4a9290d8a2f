-- The canonical form: the shortest definite length for everything that is built.
use Rattle.std.specs.Prelude.{◌≡◌, ◌≢◌, ℕ, ◌/◌, ◌%◌, ◌≤◌, List, [], ◌∷◌, ◌++◌, length, bit_and, false, ◌==◌, Some, None, nat_lt, if◌then◌else◌}
use Rattle.ber_core.specs.Length.{length_limit}
use Rattle.ber_core.specs.Element.{Parts, IsElement, depth_limit}
use Rattle.ber_core.specs.Sequence.{Field}
use Rattle.ber_core.specs.Sequence.Field.{must, may, filled, any}

-- The fewest octets of a length within the limit (X.690, Length octets; the shortest form is own).
abbrev pub length_octets : ℕ → List ℕ
length_octets n =
    if nat_lt n 0x80 then n ∷ []
    else if nat_lt n 0x100 then 0x81 ∷ n ∷ []
    else 0x82 ∷ n / 0x100 ∷ n % 0x100 ∷ []

-- The tag and the shortest length (X.690, Structure of an encoding).
abbrev pub written_head : List ℕ → ℕ → List ℕ
written_head tag len = tag ++ length_octets len

-- An element in the shortest definite form (X.690, Structure of an encoding).
abbrev pub written : List ℕ → List ℕ → List ℕ
written tag content = written_head tag (length content) ++ content

-- The parts of an element in the shortest definite form (X.690, Structure of an encoding).
abbrev pub written_parts : List ℕ → List ℕ → Parts
written_parts tag content = record { tag = tag; content = content; whole = written tag content }

-- The octets of a part; an empty `filled` is left out (Q.773, tables of information elements).
abbrev pub written_field : Field → List ℕ
written_field (must tag c) = written (tag ∷ []) c
written_field (may tag None) = []
written_field (may tag (Some c)) = written (tag ∷ []) c
written_field (filled tag []) = []
written_field (filled tag (b ∷ c)) = written (tag ∷ []) (b ∷ c)
written_field (any None) = []
written_field (any (Some whole)) = whole

-- The octets of the parts, one after the other (Q.773, tables of information elements).
abbrev pub written_fields : List Field → List ℕ
written_fields [] = []
written_fields (f ∷ fs) = written_field f ++ written_fields fs

-- A tag of one octet, and a content whose length is within the limit (own).
abbrev pub IsShort : ℕ → List ℕ → Type 0
IsShort tag c = (tag ≢ 0x00) × (bit_and tag 0x1f == 0x1f ≡ false) × (length c ≤ length_limit)

-- The part can be written: its tag is one octet and its content within the limit; a part of any tag
-- is one element (own).
abbrev pub CanWrite : Field → Type 0
CanWrite (must tag c) = IsShort tag c
CanWrite (may tag None) = Unit {0}
CanWrite (may tag (Some c)) = IsShort tag c
CanWrite (filled tag c) = IsShort tag c
CanWrite (any None) = Unit {0}
CanWrite (any (Some whole)) = (e : Parts) × IsElement depth_limit e × (e.whole ≡ whole)

-- Each part can be written (own).
abbrev pub CanWriteAll : List Field → Type 0
CanWriteAll [] = Unit {0}
CanWriteAll (f ∷ fs) = CanWrite f × CanWriteAll fs
