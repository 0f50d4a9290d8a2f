-- Octets that are added in hexadecimal, sixteen after sixteen.
use Rattle.std.proofs.Common.{◌≡◌, ℕ, ◌*◌, ◌/◌, ◌%◌, List, [], ◌∷◌, ◌++◌, length, take, drop, slice_index, refl, ap, arith}
use Rattle.std.proofs.lemmas.List.{append_assoc, append-nil, take_at, take-append-drop}
use Rattle.hex.specs.Hex.{encode_with, encode_lower, lower_digits}
use Rattle.hex.proofs.HexLemmas.{length-encode_with}

-- the digits of two lists of octets, one after the other
encode_append : (t xs ys : List ℕ) → encode_with t (xs ++ ys) ≡ encode_with t xs ++ encode_with t ys
unfolding encode_with
encode_append t [] ys = refl
encode_append t (x ∷ xs) ys = ap (λ (ds : List ℕ). slice_index t (x / 16) ∷ slice_index t (x % 16) ∷ ds) (encode_append t xs ys)

-- the first digits, two for each octet
take_digits : (t xs ys : List ℕ) → take (2 * length xs) (encode_with t (xs ++ ys)) ≡ encode_with t xs
take_digits t xs ys = rw (encode_append t xs ys) (take_at (encode_with t xs) (encode_with t ys) (2 * length xs) (length-encode_with t xs))

-- the digits of sixteen octets more are added
pub sixteen_added : (text digits new rest sixteen more whole : List ℕ) → digits ≡ encode_lower sixteen → new ≡ text ++ digits → sixteen ≡ take 16 rest → more ≡ drop 16 rest
    → text ++ encode_lower rest ≡ whole → new ++ encode_lower more ≡ whole
sixteen_added text digits new rest sixteen more whole d n s m inv = rw (n, d, s, m, append_assoc, ← encode_append lower_digits (take 16 rest) (drop 16 rest), take-append-drop 16 rest) inv

-- no octets are left
pub nothing_left : (text rest whole : List ℕ) → length rest ≡ 0 → text ++ encode_lower rest ≡ whole → text ≡ whole
unfolding encode_with
nothing_left text [] whole e inv = rw append-nil at inv
nothing_left text (x ∷ rest) whole e inv = absurd (omega arith)

-- the first digits of what zeros fill up
pub last_added : (text new digits octets put zeros : List ℕ) → put ≡ octets → digits ≡ encode_lower (put ++ zeros) → new ≡ text ++ take (2 * length octets) digits → new ≡ text ++ encode_lower octets
last_added text new digits octets put zeros p d h = rw h (rw (d, p, take_digits lower_digits octets zeros) refl)
