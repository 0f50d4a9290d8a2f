-- A word is what is expected exactly where the readers of a script read it.
use Rattle.std.proofs.Common.{◌≡◌, ◌≤◌, ◌+◌, ◌*◌, ◌&&◌, ◌||◌, ℕ, pos, neg_ℤ, nat_le, nat_lt, Bool, true, false, not, List, [], ◌∷◌, length, codes, bytes_eq, Option, Some, None, is_some, option_map, option_and_then, cond, subst, ◌-◌, ◌==◌, refl, sym, ◌∙◌, arith, if◌then◌else◌}
use Rattle.std.specs.Char.{digit_value, is_digit}
use Rattle.std.specs.Str.Parse.{digits_value_after}
use Rattle.ber_core.specs.Options.{◌>>=◌}
use Rattle.tcap_play.specs.Numbers.{are_digits, at_most, is_padded, number, number_between, number_up_to}
use Rattle.tcap_play.specs.ScriptWords.{class_of, code_of, identifier_of, optional_identifier_of, optional_octets_of, spelled_in, body_of, body_with}
use Rattle.tcap_lines.specs.Fits.{is_dash, is_number_within, is_octets, is_signed_within, is_within}

abbrev some_of : ℕ → Option ℕ
some_of n = Some n

if_some : (b : Bool) (n : ℕ) → is_some (if b then some_of n else None) ≡ b
if_some true n = refl
if_some false n = refl

-- a number that is at most so much
pub number_fits : (most : ℕ) (word : List ℕ) → is_some (number_up_to most word) ≡ is_number_within 0 most word
number_fits most word = go (number word) where
  go : (n : Option ℕ) → is_some (option_and_then (at_most most) n) ≡ is_within 0 most n
  go None = refl
  go (Some n) = if_some (nat_le n most) n ∙ grind arith

-- ---- classes

-- further digits make no number smaller
grows : (n : ℕ) (digits : List ℕ) → n ≤ digits_value_after 10 n digits
grows n [] = omega arith
grows n (c ∷ cs) = let more = grows (n * 10 + digit_value c) cs in omega (arith, more)

-- a character above the digits is none
above_digits : (c : ℕ) → nat_lt c 48 ≡ false → nat_lt c 58 ≡ false → is_digit c 10 ≡ false
above_digits c low high = rw (low, high) (go (nat_lt c 65) (nat_lt c 91) (nat_lt c 97) (nat_lt c 123) refl refl refl refl) where
  go : (a b d e : Bool) → nat_lt c 65 ≡ a → nat_lt c 91 ≡ b → nat_lt c 97 ≡ d → nat_lt c 123 ≡ e
      → nat_lt (cond a 36 (cond b (c - 55) (cond d 36 (cond e (c - 87) 36)))) 10 ≡ false
  go true b d e h i j k = refl
  go false true d e h i j k = grind (arith, h)
  go false false true e h i j k = refl
  go false false false true h i j k = grind (arith, j)
  go false false false false h i j k = refl

-- a decimal digit is a character from 0 to 9
decimal_digit : (c : ℕ) → is_digit c 10 ≡ true → (48 ≤ c) × (c ≤ 57) × (digit_value c ≡ c - 48)
decimal_digit c is = go (nat_lt c 48) (nat_lt c 58) refl refl where
  go : (a b : Bool) → nat_lt c 48 ≡ a → nat_lt c 58 ≡ b → (48 ≤ c) × (c ≤ 57) × (digit_value c ≡ c - 48)
  go true b low high = let none : is_digit c 10 ≡ false = rw low refl in absurd cc
  go false true low high = (grind (arith, low), grind (arith, high), rw (low, high) refl)
  go false false low high = let none = above_digits c low high in absurd cc

and_first : (a b : Bool) → (a && b) ≡ true → a ≡ true
and_first true b is = refl
and_first false b is = is

-- a number of two digits or more is 10 at least
long_above : (c d : ℕ) (rest : List ℕ) → are_digits (c ∷ d ∷ rest) ≡ true → is_padded (c ∷ d ∷ rest) ≡ false → 10 ≤ digits_value_after 10 0 (c ∷ d ∷ rest)
long_above c d rest digits bare =
    let more = grows ((0 * 10 + digit_value c) * 10 + digit_value d) rest in
    let is = decimal_digit c (and_first (is_digit c 10) (are_digits (d ∷ rest)) digits) in
    let other : (c == 48) ≡ false = grind (arith, bare) in
    let first : 1 ≤ digit_value c = grind (arith, is.0, is.2, other) in
    omega (arith, more, first)

-- a word of two characters is none of one
long_other : (x c d : ℕ) (rest : List ℕ) → bytes_eq (c ∷ d ∷ rest) (x ∷ []) ≡ false
long_other x c d rest = grind arith

-- one character
one_other : (x c : ℕ) → bytes_eq (c ∷ []) (x ∷ []) ≡ (c == x)
one_other x c = grind arith

-- what is no character from 1 to 4 is no number from 1 to 4
class_none : (c : ℕ) → (c == 49) ≡ false → (c == 50) ≡ false → (c == 51) ≡ false → (c == 52) ≡ false → false ≡ is_number_within 1 4 (c ∷ [])
class_none c one two three four = go (is_digit c 10) refl where
  go : (b : Bool) → is_digit c 10 ≡ b → false ≡ is_number_within 1 4 (c ∷ [])
  go true is = let d = decimal_digit c is in grind (arith, is, d, one, two, three, four)
  go false is = grind (arith, is)

class_one : (c : ℕ) → is_some (class_of (c ∷ [])) ≡ is_number_within 1 4 (c ∷ [])
class_one c = go (c == 49) (c == 50) (c == 51) (c == 52) refl refl refl refl where
  is : (n : ℕ) → c ≡ n → is_some (class_of (n ∷ [])) ≡ is_number_within 1 4 (n ∷ []) → is_some (class_of (c ∷ [])) ≡ is_number_within 1 4 (c ∷ [])
  is n same at = subst (λ m. is_some (class_of (m ∷ [])) ≡ is_number_within 1 4 (m ∷ [])) (sym same) at

  go : (one two three four : Bool) → (c == 49) ≡ one → (c == 50) ≡ two → (c == 51) ≡ three → (c == 52) ≡ four → is_some (class_of (c ∷ [])) ≡ is_number_within 1 4 (c ∷ [])
  go true two three four h i j k = is 49 (grind (arith, h)) refl
  go false true three four h i j k = is 50 (grind (arith, i)) refl
  go false false true four h i j k = is 51 (grind (arith, j)) refl
  go false false false true h i j k = is 52 (grind (arith, k)) refl
  go false false false false h i j k =
      rw (one_other 49 c, one_other 50 c, one_other 51 c, one_other 52 c, h, i, j, k) (class_none c h i j k)

-- 10 and more is above 4
above_four : (n : ℕ) → 10 ≤ n → false ≡ is_within 1 4 (Some n)
above_four n above = grind (arith, above)

-- the classes are the numbers from 1 to 4
pub class_fits : (word : List ℕ) → is_some (class_of word) ≡ is_number_within 1 4 word
class_fits [] = refl
class_fits (c ∷ []) = class_one c
class_fits (c ∷ d ∷ rest) =
    rw (long_other 49 c d rest, long_other 50 c d rest, long_other 51 c d rest, long_other 52 c d rest)
    (go (are_digits (c ∷ d ∷ rest)) (is_padded (c ∷ d ∷ rest)) refl refl) where
      go : (digits padded : Bool) → are_digits (c ∷ d ∷ rest) ≡ digits → is_padded (c ∷ d ∷ rest) ≡ padded → false ≡ is_number_within 1 4 (c ∷ d ∷ rest)
      go true false are bare = let some : nat_lt 0 (length (c ∷ d ∷ rest)) ≡ true = grind arith in
          rw (some, are, bare) (above_four (digits_value_after 10 0 (c ∷ d ∷ rest)) (long_above c d rest are bare))
      go false false are bare = grind (arith, are, bare)
      go true true are bare = grind (arith, are, bare)
      go false true are bare = grind (arith, are, bare)

-- ---- readings one behind the other

-- something is read where both are read
pub then_read : {A B : Type 0} (x : Option A) (f : A → Option B) (c : Bool) → ((v : A) → is_some (f v) ≡ c) → is_some (x >>= f) ≡ (is_some x && c)
then_read None f c each = refl
then_read (Some v) f c each = each v

-- nothing is read where nothing is read behind
pub none_read : {A B : Type 0} (x : Option A) (f : A → Option B) → ((v : A) → is_some (f v) ≡ false) → is_some (x >>= f) ≡ false
none_read None f each = refl
none_read (Some v) f each = each v

-- what is made of what is read is there where that is
pub made_read : {A B : Type 0} (x : Option A) (f : A → B) → is_some (option_map f x) ≡ is_some x
made_read None f = refl
made_read (Some v) f = refl

dashed : {A : Type 0} (b : Bool) (x : Option A) → is_some (if b then Some None else option_map (λ v. Some v) x) ≡ (b || is_some x)
dashed true x = refl
dashed false x = made_read x (λ v. Some v)

-- an invoke identifier that may be left out
pub identifier_fits : (word : List ℕ) → is_some (optional_identifier_of word) ≡ (is_dash word || is_some (identifier_of word))
identifier_fits word = dashed (bytes_eq word (codes "-")) (identifier_of word)

-- a local code
pub code_fits : (word : List ℕ) → is_some (code_of word) ≡ is_signed_within (neg_ℤ (pos 2147483648)) (pos 2147483647) word
code_fits word = made_read (number_between (neg_ℤ (pos 2147483648)) (pos 2147483647) word) _

-- octets that may be left out
pub octets_fit : (word : List ℕ) → is_some (optional_octets_of word) ≡ is_octets word
octets_fit word = go (bytes_eq word (codes "-")) where
  go : (b : Bool) → is_some (if b then Some None else option_map (λ o. Some o) (spelled_in word)) ≡ is_some (if b then Some [] else spelled_in word)
  go true = refl
  go false = made_read (spelled_in word) (λ o. Some o)

-- `-` spells octets
dash_octets : (word : List ℕ) → (is_dash word || is_octets word) ≡ is_octets word
dash_octets word = go (bytes_eq word (codes "-")) where
  go : (b : Bool) → (b || is_some (if b then Some [] else spelled_in word)) ≡ is_some (if b then Some [] else spelled_in word)
  go true = refl
  go false = refl

pub and_true : (b : Bool) → (b && true) ≡ b
and_true true = refl
and_true false = refl

abbrev no_body : {A : Type 0} → Bool → Option (Option A)
no_body b = if b then Some None else None

left_out : (A : Type 0) (b c : Bool) → is_some (no_body {A = A} b) ≡ (true && (b || (false && c)))
left_out A true c = refl
left_out A false c = refl

-- the body of a result
pub body_fits : (code parameter : List ℕ) → is_some (body_of code parameter)
    ≡ ((is_dash code || is_signed_within (neg_ℤ (pos 2147483648)) (pos 2147483647) code) && (is_dash parameter || (not (is_dash code) && is_octets parameter)))
body_fits code parameter = go (is_dash code) where
  both : is_some (body_with code parameter) ≡ (is_signed_within (neg_ℤ (pos 2147483648)) (pos 2147483647) code && (is_dash parameter || is_octets parameter))
  both =
      then_read (code_of code) _ (is_octets parameter) (λ c. then_read (optional_octets_of parameter) _ true (λ p. refl) ∙ (and_true _ ∙ octets_fit parameter))
      ∙ rw (code_fits code, dash_octets parameter) refl

  go : (b : Bool) → is_some (if b then (if is_dash parameter then Some None else None) else body_with code parameter)
      ≡ ((b || is_signed_within (neg_ℤ (pos 2147483648)) (pos 2147483647) code) && (is_dash parameter || (not b && is_octets parameter)))
  go true = left_out _ (is_dash parameter) (is_octets parameter)
  go false = both
