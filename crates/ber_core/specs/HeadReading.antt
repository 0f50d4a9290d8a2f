-- A head, read from left to right: what is read and what follows it, or the first fault.
use Rattle.std.specs.Prelude.{ℕ, zero, suc, ◌+◌, ◌-◌, Bool, bit_and, List, [], ◌∷◌, length, take, drop, slice_index, Option, Some, None, Result, Ok, Err, nat_lt, ◌==◌, if◌then◌else◌}
use Rattle.ber_core.specs.declared.fault.BerFault.{BerFault}
use Rattle.ber_core.specs.declared.fault.BerFault.TheVariants.{Short, BadTag, BadLength, IndefinitePrimitive}
use Rattle.ber_core.specs.Results.{◌>>=◌}
use Rattle.ber_core.specs.Tag.{is_constructor}
use Rattle.ber_core.specs.Length.{length_limit, number_after}

-- How many further octets a tag has, where at most n are allowed (X.690, Identifier octets).
unfoldable pub further_at : ℕ → List ℕ → Result ℕ BerFault
further_at zero bytes = Err BadTag
further_at (suc n) [] = Err Short
further_at (suc n) (b ∷ bytes) = if nat_lt b 0x80 then Ok 1 else (further_at n bytes >>= (λ k. Ok (1 + k)))

-- How many further octets a tag has: the first of them isn't 80 (X.690, Identifier octets).
abbrev pub all_further_at : List ℕ → Result ℕ BerFault
all_further_at bytes = if slice_index bytes 0 == 0x80 then Err BadTag else further_at 4 bytes

-- The octets of a tag, and what follows them (X.690, Identifier octets).
unfoldable pub tag_at : List ℕ → Result (List ℕ × List ℕ) BerFault
tag_at [] = Err Short
tag_at (first ∷ bytes) =
    if first == 0x00 then Err BadTag
    else if bit_and first 0x1f == 0x1f then all_further_at bytes >>= (λ k. Ok (take (1 + k) (first ∷ bytes), drop (1 + k) (first ∷ bytes)))
    else Ok (take 1 (first ∷ bytes), drop 1 (first ∷ bytes))

-- The number that all length octets spell, if it is within the limit (X.690, Length octets).
abbrev pub number_at : List ℕ → Result ℕ BerFault
number_at octets = if nat_lt length_limit (number_after 0 octets) then Err BadLength else Ok (number_after 0 octets)

-- A length, none if it is indefinite, and what follows its octets (X.690, Length octets).
unfoldable pub length_at : Bool → List ℕ → Result (Option ℕ × List ℕ) BerFault
length_at constructed [] = Err Short
length_at constructed (b ∷ rest) =
    if b == 0x80 then (if constructed then Ok (None, rest) else Err IndefinitePrimitive)
    else if b == 0xff then Err BadLength
    else if nat_lt b 0x80 then Ok (Some b, rest)
    else if nat_lt (length rest) (b - 0x80) then Err Short
    else (number_at (take (b - 0x80) rest) >>= (λ n. Ok (Some n, drop (b - 0x80) rest)))

-- The tag, whether it is constructed, the length, and what follows (X.690, Structure of an encoding).
unfoldable pub head_at : List ℕ → Result (List ℕ × Bool × Option ℕ × List ℕ) BerFault
head_at bytes = do
  t ← tag_at bytes
  l ← length_at (is_constructor t.0) t.1
  Ok (t.0, is_constructor t.0, l.0, l.1)
