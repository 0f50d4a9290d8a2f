-- Steps of reading an integer: what its octets are in 32 bits.
use Rattle.std.proofs.Common.{◌≡◌, ℕ, suc, ◌+◌, ◌-◌, ◌*◌, ◌^◌, ◌<◌, ◌≤◌, ℤ, pos, negsuc, Bool, true, false, cond, ltb, List, [], ◌∷◌, length, get_or, Option, Some, None, refl, sym, ap, ◌∙◌, inl, inr, arith}
use Rattle.std.specs.Int.{w8, w32, cast_signed}
use Rattle.std.proofs.lemmas.Bool.{cases_Bool, lt-ltb, le-ltb, ltb-true, ltb-false}
use Rattle.ber_core.specs.Integer.{signed_after, signed_number, is_padded, sign_octet, word_of, integer_at}
use Rattle.ber_core.proofs.OptionSteps.{some}

low : (n m : ℕ) → n < 2 ^ 31 → n ≡ m → cast_signed w32 n ≡ pos m
low n m h e = let h : n < 2147483648 = h in rw (lt-ltb n 2147483648 h) (ap (λ (k : ℕ). pos k) e)

high : (n m : ℕ) → 2 ^ 31 ≤ n → 4294967296 - suc n ≡ m → cast_signed w32 n ≡ negsuc m
high n m h e = let h : 2147483648 ≤ n = h in rw (le-ltb n 2147483648 h) (ap (λ (k : ℕ). negsuc k) e)

pub signed_1 : (a : ℕ) → a < 256 → cast_signed w8 a ≡ signed_number (a ∷ [])
unfolding signed_after
signed_1 a h = elim (cases_Bool (ltb a 128)) [
  | inl y ↦ rw y refl
  | inr n ↦ rw n (ap (λ (k : ℕ). negsuc k) (omega arith))
]

pub signed_2 : (a b : ℕ) → a < 256 → b < 256 → cast_signed w32 (word_of (sign_octet a) (sign_octet a) a b) ≡ signed_number (a ∷ b ∷ [])
unfolding signed_after
signed_2 a b h k = elim (cases_Bool (ltb a 128)) [
  | inl y ↦ let y1 = ltb-true a 128 y in rw y (low (word_of 0 0 a b) (a * 256 + b) (omega arith) (omega arith))
  | inr n ↦ let n1 = ltb-false a 128 n in rw n (high (word_of 255 255 a b) ((255 - a) * 256 + (255 - b)) (omega arith) (omega arith))
]

pub signed_3 : (a b c : ℕ) → a < 256 → b < 256 → c < 256 → cast_signed w32 (word_of (sign_octet a) a b c) ≡ signed_number (a ∷ b ∷ c ∷ [])
unfolding signed_after
signed_3 a b c h k l = elim (cases_Bool (ltb a 128)) [
  | inl y ↦ let y1 = ltb-true a 128 y in rw y (low (word_of 0 a b c) ((a * 256 + b) * 256 + c) (omega arith) (omega arith))
  | inr n ↦ let n1 = ltb-false a 128 n in rw n (high (word_of 255 a b c) (((255 - a) * 256 + (255 - b)) * 256 + (255 - c)) (omega arith) (omega arith))
]

pub signed_4 : (a b c d : ℕ) → a < 256 → b < 256 → c < 256 → d < 256 → cast_signed w32 (word_of a b c d) ≡ signed_number (a ∷ b ∷ c ∷ d ∷ [])
unfolding signed_after
signed_4 a b c d h k l m = elim (cases_Bool (ltb a 128)) [
  | inl y ↦ let y1 = ltb-true a 128 y in rw y (low (word_of a b c d) (((a * 256 + b) * 256 + c) * 256 + d) (omega arith) refl)
  | inr n ↦ let n1 = ltb-false a 128 n in rw n (high (word_of a b c d) ((((255 - a) * 256 + (255 - b)) * 256 + (255 - c)) * 256 + (255 - d)) (omega arith) (omega arith))
]

-- ---- by the number of octets

abbrev Octets : List ℕ → Type 0
Octets xs = (k : ℕ) → get_or xs k 0 < 256

pub integer_at-1 : (xs : List ℕ) (z : ℤ) → length xs ≡ 1 → Octets xs → z ≡ cast_signed w8 (get_or xs 0 0) → integer_at xs ≡ Some z
unfolding integer_at
integer_at-1 [] z e o is = absurd (omega (arith, e))
integer_at-1 (a ∷ []) z e o is = rw (lt-ltb a 256 (o 0)) (ap (λ (x : ℤ). some x) (sym (is ∙ signed_1 a (o 0))))
integer_at-1 (a ∷ b ∷ xs) z e o is = absurd (omega (arith, e))

pub integer_at-2 : (xs : List ℕ) (z : ℤ) → length xs ≡ 2 → Octets xs → is_padded (get_or xs 0 0) (get_or xs 1 0) ≡ false → z ≡ cast_signed w32 (word_of (sign_octet (get_or xs 0 0)) (sign_octet (get_or xs 0 0)) (get_or xs 0 0) (get_or xs 1 0)) → integer_at xs ≡ Some z
unfolding integer_at
integer_at-2 [] z e o p is = absurd (omega (arith, e))
integer_at-2 (a ∷ []) z e o p is = absurd (omega (arith, e))
integer_at-2 (a ∷ b ∷ []) z e o p is = rw (lt-ltb a 256 (o 0), lt-ltb b 256 (o 1), p) (ap (λ (x : ℤ). some x) (sym (is ∙ signed_2 a b (o 0) (o 1))))
integer_at-2 (a ∷ b ∷ c ∷ xs) z e o p is = absurd (omega (arith, e))

pub integer_at-3 : (xs : List ℕ) (z : ℤ) → length xs ≡ 3 → Octets xs → is_padded (get_or xs 0 0) (get_or xs 1 0) ≡ false → z ≡ cast_signed w32 (word_of (sign_octet (get_or xs 0 0)) (get_or xs 0 0) (get_or xs 1 0) (get_or xs 2 0)) → integer_at xs ≡ Some z
unfolding integer_at
integer_at-3 [] z e o p is = absurd (omega (arith, e))
integer_at-3 (a ∷ []) z e o p is = absurd (omega (arith, e))
integer_at-3 (a ∷ b ∷ []) z e o p is = absurd (omega (arith, e))
integer_at-3 (a ∷ b ∷ c ∷ []) z e o p is = rw (lt-ltb a 256 (o 0), lt-ltb b 256 (o 1), lt-ltb c 256 (o 2), p) (ap (λ (x : ℤ). some x) (sym (is ∙ signed_3 a b c (o 0) (o 1) (o 2))))
integer_at-3 (a ∷ b ∷ c ∷ d ∷ xs) z e o p is = absurd (omega (arith, e))

pub integer_at-4 : (xs : List ℕ) (z : ℤ) → length xs ≡ 4 → Octets xs → is_padded (get_or xs 0 0) (get_or xs 1 0) ≡ false → z ≡ cast_signed w32 (word_of (get_or xs 0 0) (get_or xs 1 0) (get_or xs 2 0) (get_or xs 3 0)) → integer_at xs ≡ Some z
unfolding integer_at
integer_at-4 [] z e o p is = absurd (omega (arith, e))
integer_at-4 (a ∷ []) z e o p is = absurd (omega (arith, e))
integer_at-4 (a ∷ b ∷ []) z e o p is = absurd (omega (arith, e))
integer_at-4 (a ∷ b ∷ c ∷ []) z e o p is = absurd (omega (arith, e))
integer_at-4 (a ∷ b ∷ c ∷ d ∷ []) z e o p is = rw (lt-ltb a 256 (o 0), lt-ltb b 256 (o 1), lt-ltb c 256 (o 2), lt-ltb d 256 (o 3), p) (ap (λ (x : ℤ). some x) (sym (is ∙ signed_4 a b c d (o 0) (o 1) (o 2) (o 3))))
integer_at-4 (a ∷ b ∷ c ∷ d ∷ f ∷ xs) z e o p is = absurd (omega (arith, e))

guard_none : {A : Type 0} (b : Bool) (o : Option A) → o ≡ None → cond b o None ≡ None
guard_none true o e = e
guard_none false o e = refl

pub integer_at-padded : (xs : List ℕ) → 2 ≤ length xs → is_padded (get_or xs 0 0) (get_or xs 1 0) ≡ true → integer_at xs ≡ None
unfolding integer_at
integer_at-padded [] le p = absurd (omega arith)
integer_at-padded (a ∷ []) le p = absurd (omega arith)
integer_at-padded (a ∷ b ∷ xs) le p = rw p (guard_none _ None refl)

pub integer_at-none : integer_at [] ≡ None
unfolding integer_at
integer_at-none = refl

pub integer_at-long : (xs : List ℕ) → 4 < length xs → integer_at xs ≡ None
unfolding integer_at
integer_at-long xs lt = rw (lt-ltb 4 (length xs) lt) (guard_none _ _ (guard_none _ None refl))
