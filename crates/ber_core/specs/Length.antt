-- The length of an element: its length octets.
use Rattle.std.specs.Prelude.{◌≡◌, ◌≢◌, ℕ, ◌+◌, ◌-◌, ◌*◌, ◌<◌, ◌≤◌, ◌⊎◌, List, [], ◌∷◌, length}

-- The greatest length that is read or written, in octets (own).
abbrev pub length_limit : ℕ
length_limit = 65535

-- The number that octets spell, most significant first, where those before them spelled n
-- (X.690, Length octets).
unfoldable pub number_after : ℕ → List ℕ → ℕ
number_after n [] = n
number_after n (b ∷ octets) = number_after (n * 256 + b) octets

-- The octets of a definite length n. Short form: one octet below 80, the length itself. Long form:
-- an octet 81 to FE whose low seven bits count the octets that follow, and these spell the length;
-- leading zeros and the long form of a length below 128 are accepted
-- (X.690, Length octets; the limit is own).
abbrev pub IsLength : List ℕ → ℕ → Type 0
IsLength [] n = ⊥
IsLength (b ∷ octets) n = ((b < 0x80) × (octets ≡ []) × (n ≡ b))
    ⊎ ((0x80 < b) × (b ≢ 0xff) × (length octets ≡ b - 0x80) × (n ≡ number_after 0 octets) × (n ≤ length_limit))
