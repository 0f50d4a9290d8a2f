-- The contents octets of an object identifier.
use Rattle.std.specs.Prelude.{◌≡◌, ◌≢◌, ℕ, ◌<◌, ◌≤◌, ◌⊎◌, Bool, true, false, List, [], ◌∷◌, length, slice_index, nat_lt, ◌==◌, if◌then◌else◌}
use Rattle.std.specs.List.{flat_map, AllByRecursion}

-- The greatest number of contents octets of an object identifier that is taken (own).
abbrev pub object_identifier_limit : ℕ
object_identifier_limit = 255

-- A series of octets of which each has bit 8 set but the last
-- (X.690, Encoding of an object identifier value).
abbrev pub IsSeries : List ℕ → Type 0
IsSeries [] = ⊥
IsSeries (b ∷ octets) = ((b < 0x80) × (octets ≡ [])) ⊎ ((0x80 ≤ b) × IsSeries octets)

-- A subidentifier is such a series in the fewest octets: its first octet isn't 80
-- (X.690, Encoding of an object identifier value).
abbrev pub IsSubidentifier : List ℕ → Type 0
IsSubidentifier octets = IsSeries octets × (slice_index octets 0 ≢ 0x80)

-- An object identifier is one or more subidentifiers, one after the other, in at most 255 octets
-- (X.690, Encoding of an object identifier value; the limit is own).
pub record IsObjectIdentifier (octets : List ℕ) : Type 0 where
  pub subidentifiers : List (List ℕ)
  pub each : AllByRecursion IsSubidentifier subidentifiers
  pub is_joined : octets ≡ flat_map (λ (s : List ℕ). s) subidentifiers
  pub filled : octets ≢ []
  pub is_short : length octets ≤ object_identifier_limit

-- Whether the octets are subidentifiers from here on, where one begins or is under way (own).
unfoldable pub subidentifiers_at : Bool → List ℕ → Bool
subidentifiers_at begins [] = begins
subidentifiers_at begins (b ∷ octets) =
    if (if begins then b == 0x80 else false) then false else subidentifiers_at (nat_lt b 0x80) octets

-- Whether the octets are an object identifier (own).
unfoldable pub is_object_identifier : List ℕ → Bool
is_object_identifier octets =
    if length octets == 0 then false
    else if nat_lt object_identifier_limit (length octets) then false
    else subidentifiers_at true octets
