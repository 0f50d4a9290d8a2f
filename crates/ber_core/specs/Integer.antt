-- The contents octets of an integer: two's complement in the fewest octets, at most four.
use Rattle.std.specs.Prelude.{◌≡◌, ℕ, ◌-◌, ◌*◌, ◌+◌, ◌/◌, ◌%◌, ◌<◌, ◌≤◌, ℤ, pos, negsuc, Bool, true, false, List, [], ◌∷◌, length, map, Option, Some, None, nat_lt, nat_le, ◌==◌, if◌then◌else◌}
use Rattle.std.specs.List.{AllByRecursion, list_all}

-- The greatest number of contents octets of an integer that is taken (own).
abbrev pub integer_limit : ℕ
integer_limit = 4

-- An octet is a number below 100 (X.690, Encoding of an integer value).
abbrev pub IsOctet : ℕ → Type 0
IsOctet b = b < 0x100

-- The number that one octet is in two's complement: where bit 8 is set, 100 less
-- (X.690, Encoding of an integer value).
abbrev pub signed_octet : ℕ → ℤ
signed_octet b = if nat_lt b 0x80 then pos b else negsuc (0xff - b)

-- The octet that is this number in two's complement: -1 - n has the bits of n, each turned
-- (X.690, Encoding of an integer value).
abbrev pub octet_of : ℤ → ℕ
octet_of (pos n) = n
octet_of (negsuc n) = 0xff - n

-- 100 times a number and an octet more (X.690, Encoding of an integer value).
abbrev pub with_octet : ℤ → ℕ → ℤ
with_octet (pos n) b = pos (n * 0x100 + b)
with_octet (negsuc n) b = negsuc (n * 0x100 + (0xff - b))

-- The number that octets are in two's complement, most significant first, where those before them
-- were this number (X.690, Encoding of an integer value).
unfoldable pub signed_after : ℤ → List ℕ → ℤ
signed_after z [] = z
signed_after z (b ∷ octets) = signed_after (with_octet z b) octets

-- The number that octets are in two's complement, most significant first
-- (X.690, Encoding of an integer value).
abbrev pub signed_number : List ℕ → ℤ
signed_number [] = pos 0
signed_number (b ∷ octets) = signed_after (signed_octet b) octets

-- The first octet and bit 8 of the second aren't nine equal bits
-- (X.690, Encoding of an integer value).
abbrev pub IsFewest : List ℕ → Type 0
IsFewest [] = ⊥
IsFewest (a ∷ []) = Unit {0}
IsFewest (a ∷ b ∷ more) = (a ≡ 0x00 → 0x80 ≤ b) × (a ≡ 0xff → b < 0x80)

-- The octets are this number: one to four octets, in two's complement, in the fewest octets
-- (X.690, Encoding of an integer value; the limit is own).
pub record IsInteger (value : ℤ) (octets : List ℕ) : Type 0 where
  pub are_octets : AllByRecursion IsOctet octets
  pub is_short : length octets ≤ integer_limit
  pub is_fewest : IsFewest octets
  pub is_number : value ≡ signed_number octets

-- ---- read

-- Whether the first octet and bit 8 of the second are nine equal bits (own).
abbrev pub is_padded : ℕ → ℕ → Bool
is_padded a b = if a == 0x00 then nat_lt b 0x80 else (if a == 0xff then nat_le 0x80 b else false)

-- Whether octets are the fewest (own).
abbrev pub is_fewest : List ℕ → Bool
is_fewest [] = false
is_fewest (a ∷ []) = true
is_fewest (a ∷ b ∷ more) = if is_padded a b then false else true

-- Eight bits equal to bit 8 of an octet (own).
abbrev pub sign_octet : ℕ → ℕ
sign_octet b = if nat_lt b 0x80 then 0x00 else 0xff

-- The number that four octets spell, most significant first (own).
abbrev pub word_of : ℕ → ℕ → ℕ → ℕ → ℕ
word_of a b c d = ((a * 0x100 + b) * 0x100 + c) * 0x100 + d

-- The number that contents octets are, if they are an integer (own).
unfoldable pub integer_at : List ℕ → Option ℤ
integer_at octets =
    if list_all (λ b. nat_lt b 0x100) octets
    then (if is_fewest octets then (if nat_lt integer_limit (length octets) then None else Some (signed_number octets)) else None)
    else None

-- ---- written

-- The fewest octets of a number from 0 up: bit 8 of the first is clear
-- (X.690, Encoding of an integer value).
abbrev pub fewest_octets : ℕ → List ℕ
fewest_octets n =
    if nat_lt n 0x80 then n ∷ []
    else if nat_lt n 0x8000 then n / 0x100 ∷ n % 0x100 ∷ []
    else if nat_lt n 0x80_0000 then n / 0x1_0000 ∷ n / 0x100 % 0x100 ∷ n % 0x100 ∷ []
    else n / 0x100_0000 ∷ n / 0x1_0000 % 0x100 ∷ n / 0x100 % 0x100 ∷ n % 0x100 ∷ []

-- The octets of an integer: those of -1 - n are those of n, each bit turned
-- (X.690, Encoding of an integer value).
abbrev pub integer_octets : ℤ → List ℕ
integer_octets (pos n) = fewest_octets n
integer_octets (negsuc n) = map (λ b. 0xff - b) (fewest_octets n)
