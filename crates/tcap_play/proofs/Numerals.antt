-- What the library reads as a number, and what a script writes as one.
use Rattle.std.proofs.Common.{◌≡◌, ◌&&◌, ◌<◌, ◌≤◌, ◌+◌, ◌-◌, ◌*◌, ℕ, nat_le, Bool, true, false, List, [], ◌∷◌, Option, Some, None, refl, sym, ap, ◌∙◌, length, slice_index, arith, ℤ, pos, neg_ℤ, if◌then◌else◌, drop}
use Rattle.std.specs.Prelude.{int_le}
use Rattle.std.proofs.lemmas.List.{drop_all, drop_more}
use Rattle.std.specs.Char.{digit_value, is_digit}
use Rattle.std.specs.Str.Parse.{digits_value_after}
use Rattle.std.specs.Option.{option_and_then}
use Rattle.tcap_play.specs.Numbers.{are_digits, is_padded, number, at_most, next_number, number_up_to, negative, between, signed_number, number_between}

abbrev some_of : ℕ → Option ℕ
some_of n = Some n

-- the number that these digits write behind those of another
abbrev pub read_on : ℕ → List ℕ → Option ℕ
read_on n [] = Some n
read_on n (c ∷ cs) = option_and_then (λ m. read_on m cs) (next_number n c)

-- further digits make no number smaller
grows : (n : ℕ) (digits : List ℕ) → n ≤ digits_value_after 10 n digits
grows n [] = omega arith
grows n (c ∷ cs) = let more = grows (n * 10 + digit_value c) cs in omega (arith, more)

-- the number of the digits, where they are digits and 64 bits hold it
abbrev told : ℕ → List ℕ → Option ℕ
told n digits = if are_digits digits then at_most 18446744073709551615 (digits_value_after 10 n digits) else None

too_large : (n : ℕ) (digits : List ℕ) → 18446744073709551615 < n → told n digits ≡ None
too_large n digits above = go (are_digits digits) refl where
  go : (b : Bool) → are_digits digits ≡ b → told n digits ≡ None
  go true h = let more = grows n digits in grind (arith, h, more, above)
  go false h = rw h refl

read_told : (n : ℕ) (digits : List ℕ) → n ≤ 18446744073709551615 → read_on n digits ≡ told n digits
read_told n [] fits = grind (arith, fits)
read_told n (c ∷ cs) fits = go (λ m h. read_told m cs h) (nat_le 48 c && nat_le c 57) refl where
  held : ((k : ℕ) → k ≤ 18446744073709551615 → read_on k cs ≡ told k cs) → (m : ℕ) (b : Bool) → nat_le m 18446744073709551615 ≡ b → option_and_then (λ k. read_on k cs) (if b then Some m else None) ≡ told m cs
  held next m true h = next m (grind (arith, h))
  held next m false h = sym (too_large m cs (grind (arith, h)))

  go : ((k : ℕ) → k ≤ 18446744073709551615 → read_on k cs ≡ told k cs) → (b : Bool) → (nat_le 48 c && nat_le c 57) ≡ b → option_and_then (λ m. read_on m cs) (if b then at_most 18446744073709551615 (n * 10 + (c - 48)) else None) ≡ told n (c ∷ cs)
  go next true h =
      let value : digit_value c ≡ c - 48 = grind (arith, h) in
      let is : is_digit c 10 ≡ true = grind (arith, h) in
      rw (is, value) (held next (n * 10 + (c - 48)) (nat_le (n * 10 + (c - 48)) 18446744073709551615) refl)
  go next false h = let isnt : is_digit c 10 ≡ false = grind (arith, h) in rw isnt refl

-- the digits of a word that isn't padded are its number
pub read_number : (word : List ℕ) → (length word ≡ 0 → ⊥) → is_padded word ≡ false → read_on 0 word ≡ number_up_to 18446744073709551615 word
read_number word some bare = read_told 0 word (omega arith) ∙ go (are_digits word) refl where
  go : (b : Bool) → are_digits word ≡ b → told 0 word ≡ number_up_to 18446744073709551615 word
  go b h = grind (arith, h, some, bare)

-- one digit more was read
pub digit_read : (word : List ℕ) (i n m : ℕ) (whole : Option ℕ) → i < length word → Some m ≡ next_number n (slice_index word i)
    → read_on n (drop i word) ≡ whole → read_on m (drop (i + 1) word) ≡ whole
digit_read word i n m whole within is inv =
    ap (option_and_then (λ k. read_on k (drop (i + 1) word))) is ∙ (rw (drop_more word i 0 within) at inv)

-- what is no digit, or makes the number too large, makes the word no number
pub digit_unread : (word : List ℕ) (i n : ℕ) (whole : Option ℕ) → i < length word → None ≡ next_number n (slice_index word i)
    → read_on n (drop i word) ≡ whole → None ≡ whole
digit_unread word i n whole within is inv =
    ap (option_and_then (λ k. read_on k (drop (i + 1) word))) is ∙ (rw (drop_more word i 0 within) at inv)

-- no digit is left
pub digits_read : (word : List ℕ) (i n : ℕ) (whole : Option ℕ) → length word ≤ i → read_on n (drop i word) ≡ whole → Some n ≡ whole
digits_read word i n whole past inv = rw (drop_all i word past) at inv

-- the range of 8 bits lies in that of 32
pub narrower : (word : List ℕ) (n : Option ℤ) → n ≡ number_between (neg_ℤ (pos 2147483648)) (pos 2147483647) word → option_and_then (between (neg_ℤ (pos 128)) (pos 127)) n ≡ number_between (neg_ℤ (pos 128)) (pos 127) word
narrower word n is = rw is (go (signed_number word)) where
  in_range : (m : ℤ) (b : Bool) → (int_le (neg_ℤ (pos 2147483648)) m && int_le m (pos 2147483647)) ≡ b → option_and_then (between (neg_ℤ (pos 128)) (pos 127)) (if b then Some m else None) ≡ between (neg_ℤ (pos 128)) (pos 127) m
  in_range m true h = refl
  in_range m false h = grind (arith, h)

  go : (m : Option ℤ) → option_and_then (between (neg_ℤ (pos 128)) (pos 127)) (option_and_then (between (neg_ℤ (pos 2147483648)) (pos 2147483647)) m) ≡ option_and_then (between (neg_ℤ (pos 128)) (pos 127)) m
  go None = refl
  go (Some m) = in_range m (int_le (neg_ℤ (pos 2147483648)) m && int_le m (pos 2147483647)) refl

-- a number that was read is the number
number_found : (word : List ℕ) (n : ℕ) → Some n ≡ number_up_to 18446744073709551615 word → number word ≡ Some n
number_found word n is = go (number word) refl is where
  low : (m : ℕ) (b : Bool) → nat_le m 18446744073709551615 ≡ b → some_of n ≡ (if b then Some m else None) → some_of m ≡ Some n
  low m true h e = sym e
  low m false h e = absurd cc

  go : (m : Option ℕ) → number word ≡ m → some_of n ≡ option_and_then (at_most 18446744073709551615) m → m ≡ Some n
  go None h e = absurd cc
  go (Some m) h e = low m (nat_le m 18446744073709551615) refl e

-- digits behind `-` are the number below zero
pub below_zero_read : (word : List ℕ) (n : ℕ) → 1 ≤ length word → slice_index word 0 ≡ 45 → (digits : List ℕ) → digits ≡ drop 1 word → Some n ≡ number_up_to 18446744073709551615 digits → option_and_then (between (neg_ℤ (pos 2147483648)) (pos 2147483647)) (negative n) ≡ number_between (neg_ℤ (pos 2147483648)) (pos 2147483647) word
below_zero_read [] n some first digits are is = grind (arith)
below_zero_read (octet ∷ rest) n some first digits are is =
    let found : number rest ≡ Some n = number_found rest n (is ∙ ap (number_up_to 18446744073709551615) are) in
    let mark : octet ≡ 45 = first in
    rw mark (rw found refl)
