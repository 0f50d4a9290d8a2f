-- Numbers as a script writes them.
use Rattle.std.specs.Prelude.{◌==◌, ◌&&◌, ◌+◌, ◌-◌, ◌*◌, not, ℕ, ℤ, pos, neg_ℤ, int_le, nat_le, nat_lt, length, ◌||◌, Bool, false, List, [], ◌∷◌, Option, Some, None, if◌then◌else◌}
use Rattle.std.specs.Char.{is_digit}
use Rattle.std.specs.List.{list_all}
use Rattle.std.specs.Str.Parse.{digits_value}
use Rattle.std.specs.Option.{option_map, option_and_then}

-- Whether all octets are decimal digits (own).
abbrev pub are_digits : List ℕ → Bool
are_digits word = list_all (λ octet. is_digit octet 10) word

-- Whether a zero or a plus sign stands before the rest of a number (own).
abbrev pub is_padded : List ℕ → Bool
is_padded [] = false
is_padded (first ∷ rest) = first == 43 || (first == 48 && nat_lt 0 (length rest))

-- Whether a word is a number: decimal digits without zeros before them or a plus sign (own).
abbrev pub is_number : List ℕ → Bool
is_number word = nat_lt 0 (length word) && (are_digits word && not (is_padded word))

-- The number that a word writes (own).
abbrev pub number : List ℕ → Option ℕ
number word = if is_number word then Some (digits_value 10 word) else None

-- A number where it is at most so much (own).
abbrev pub at_most : ℕ → ℕ → Option ℕ
at_most most n = if nat_le n most then Some n else None

-- The number that a word writes, where it is at most so much (own).
abbrev pub number_up_to : ℕ → List ℕ → Option ℕ
number_up_to most word = option_and_then (at_most most) (number word)

-- A number with one digit more behind it, none where the octet is no digit or 64 bits don't hold it (own).
abbrev pub next_number : ℕ → ℕ → Option ℕ
next_number n c = if nat_le 48 c && nat_le c 57 then at_most 18446744073709551615 (n * 10 + (c - 48)) else None

-- The number below zero whose digits these are; 0 is none (own).
abbrev pub negative : ℕ → Option ℤ
negative n = if n == 0 then None else Some (neg_ℤ (pos n))

-- The number that a word writes, with `-` before one below zero (own).
abbrev pub signed_number : List ℕ → Option ℤ
signed_number [] = None
signed_number (first ∷ rest) = if first == 45 then option_and_then negative (number rest) else option_map (λ n. pos n) (number (first ∷ rest))

-- A number where it is no less and no more than so much (own).
abbrev pub between : ℤ → ℤ → ℤ → Option ℤ
between least most n = if int_le least n && int_le n most then Some n else None

-- The number that a word writes, where it is no less and no more than so much (own).
abbrev pub number_between : ℤ → ℤ → List ℕ → Option ℤ
number_between least most word = option_and_then (between least most) (signed_number word)
