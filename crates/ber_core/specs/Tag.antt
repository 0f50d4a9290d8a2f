-- The tag of an element: its identifier octets.
use Rattle.std.specs.Prelude.{◌≡◌, ◌≢◌, ℕ, zero, suc, ◌<◌, ◌≤◌, ◌⊎◌, Bool, not, MatchBool, bit_and, List, [], ◌∷◌, slice_index, ◌==◌}

-- The octets after the first, at most n of them: bit 8 is set in each but the last
-- (X.690, Identifier octets).
abbrev pub AreFurther : ℕ → List ℕ → Type 0
AreFurther zero octets = ⊥
AreFurther (suc n) [] = ⊥
AreFurther (suc n) (b ∷ octets) = ((b < 0x80) × (octets ≡ [])) ⊎ ((0x80 ≤ b) × AreFurther n octets)

-- A tag is one octet other than 00; where its low five bits are 11111, further octets follow, of
-- which the first isn't 80; at most four of them are taken, and tag numbers below 31 are accepted
-- in this form too (X.690, Identifier octets; the limit and the leniency are own).
abbrev pub IsTag : List ℕ → Type 0
IsTag [] = ⊥
IsTag (first ∷ further) = (first ≢ 0x00) × MatchBool (bit_and first 0x1f == 0x1f) (AreFurther 4 further × (slice_index further 0 ≢ 0x80)) (further ≡ [])

-- Bit 6 of the first octet of a tag is set: the encoding is constructed (X.690, Identifier octets).
abbrev pub is_constructor : List ℕ → Bool
is_constructor tag = not (bit_and (slice_index tag 0) 0x20 == 0)
