-- The head of an element: its tag and its length.
use Rattle.std.specs.Prelude.{◌≡◌, ℕ, true, List, [], ◌∷◌, ◌++◌, Option, Some, None}
use Rattle.ber_core.specs.Tag.{IsTag, is_constructor}
use Rattle.ber_core.specs.Length.{IsLength}

-- What the length octets behind a tag say: a definite length, or, behind a constructed tag alone,
-- by the one octet 80, the indefinite form (X.690, Length octets).
abbrev pub SaysLength : List ℕ → Option ℕ → List ℕ → Type 0
SaysLength tag None octets = (is_constructor tag ≡ true) × (octets ≡ 0x80 ∷ [])
SaysLength tag (Some n) octets = IsLength octets n

-- The bytes begin with a tag and with the octets of a length, none for the indefinite form, and go
-- on with the rest, whatever it is (X.690, Structure of an encoding).
pub record BeginsWithHead (tag : List ℕ) (len : Option ℕ) (rest bytes : List ℕ) : Type 0 where
  pub octets : List ℕ
  pub is_tag : IsTag tag
  pub says : SaysLength tag len octets
  pub parts : bytes ≡ tag ++ (octets ++ rest)
