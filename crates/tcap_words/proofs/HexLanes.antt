-- Sixteen octets whose digits are computed lane by lane.
use Rattle.std.proofs.Common.{◌≡◌, ℕ, zero, suc, ◌+◌, ◌-◌, ◌/◌, ◌%◌, ◌<◌, Bool, true, ◌&&◌, T, eqb, ltb, cond, List, [], ◌∷◌, ◌++◌, map, length, replicate, slice_index, slice_index_or, refl, ap, ◌∙◌, inl, inr, subst, arith, eqb→eq, ltb→lt, IsAscii, eq-zero-or-pos, bit_and, ◌^◌, sym}
use Rattle.std.proofs.lemmas.Nat.{and_le_r, and_mask}
use Rattle.std.proofs.lemmas.Simd.{zip2_splat, length-zip2, length-replicate}
use lib.Ieee.Fits.{and_l, and_r}
use lib.Lanes.{zip2, sel_l, top, Each1}
use Rattle.std.proofs.lemmas.Str.Ascii.{IsAscii-from_reads}
use Rattle.hex.proofs.HexLemmas.{IsAscii-encode_with}
use Rattle.hex.specs.Hex.{encode_with, encode_lower, lower_digits}

-- the digit of a number below 16, by comparing it with 10
abbrev digit_by : ℕ → ℕ
digit_by x = cond (top 7 (cond (ltb x 10) 255 0)) ((x + 48) % 256) ((x + 87) % 256)

abbrev all_below : (ℕ → Bool) → ℕ → Bool
all_below p zero = true
all_below p (suc n) = p n && all_below p n

every_below : (p : ℕ → Bool) (n : ℕ) → T (all_below p n) → (i : ℕ) → i < n → T (p i)
every_below p zero h i l = absurd (omega arith)
every_below p (suc n) h i l =
    elim (eq-zero-or-pos (n - i)) [
      | inl z ↦ let e : n ≡ i = omega arith in subst (λ x. T (p x)) e (and_l _ _ h)
      | inr g ↦ every_below p n (and_r (p n) _ h) i (omega arith)
    ]

digit_is : (x : ℕ) → x < 16 → digit_by x ≡ slice_index lower_digits x
digit_is x h = eqb→eq _ _ (every_below (λ x. eqb (digit_by x) (slice_index lower_digits x)) 16 tt x h)

-- the same of each lane
pub digits_are : (n : ℕ) (xs : List ℕ) → length xs ≡ n → Each1 (λ x. x < 16) xs
    → sel_l (map (top 7) (zip2 (λ x y. cond (ltb x y) 255 0) xs (replicate n 10))) (zip2 (λ x y. (x + y) % 256) xs (replicate n 48)) (zip2 (λ x y. (x + y) % 256) xs (replicate n 87))
    ≡ map (slice_index lower_digits) xs
digits_are zero [] e h = refl
digits_are zero (x ∷ xs) e h = absurd (omega arith)
digits_are (suc n) [] e h = absurd (omega arith)
digits_are (suc n) (x ∷ xs) e h = ap (λ (ds : List ℕ). digit_by x ∷ ds) (digits_are n xs (omega arith) h.1) ∙ ap (λ (d : ℕ). d ∷ map (slice_index lower_digits) xs) (digit_is x h.0)

uppers : (n : ℕ) (xs : List ℕ) → length xs ≡ n → zip2 (λ x y. x / 2 ^ y) xs (replicate n 4) ≡ map (λ x. x / 16) xs
uppers n xs e = zip2_splat (λ (x y : ℕ). x / 2 ^ y) xs n 4 e

lowers : (n : ℕ) (xs : List ℕ) → length xs ≡ n → zip2 bit_and xs (replicate n 15) ≡ map (λ x. x % 16) xs
lowers zero [] e = refl
lowers zero (x ∷ xs) e = absurd (omega arith)
lowers (suc n) [] e = absurd (omega arith)
lowers (suc n) (x ∷ xs) e = rw (and_mask x 4, lowers n xs (omega arith)) refl

-- the digits of sixteen octets, taken by turns from those of the upper and of the lower halves
pub by_turns : (xs : List ℕ) → length xs ≡ 16 → let highs = map (slice_index lower_digits) (map (λ x. x / 16) xs) in
    let lows = map (slice_index lower_digits) (map (λ x. x % 16) xs) in
    let at : ℕ → ℕ = λ i. slice_index_or (highs ++ lows) i 0 in
    ◌≡◌ {A = List ℕ} (at 0 ∷ at 16 ∷ at 1 ∷ at 17 ∷ at 2 ∷ at 18 ∷ at 3 ∷ at 19 ∷ at 4 ∷ at 20 ∷ at 5 ∷ at 21 ∷ at 6 ∷ at 22 ∷ at 7 ∷ at 23
    ∷ at 8 ∷ at 24 ∷ at 9 ∷ at 25 ∷ at 10 ∷ at 26 ∷ at 11 ∷ at 27 ∷ at 12 ∷ at 28 ∷ at 13 ∷ at 29 ∷ at 14 ∷ at 30 ∷ at 15 ∷ at 31 ∷ [])
    (encode_lower xs)
unfolding encode_with
by_turns (a ∷ b ∷ c ∷ d ∷ e ∷ f ∷ g ∷ h ∷ i ∷ j ∷ k ∷ l ∷ m ∷ n ∷ o ∷ p ∷ []) s = refl
by_turns xs s = absurd (omega arith)

-- the same, of what was computed of the upper and of the lower halves
pub by_turns_of : (xs highs lows : List ℕ) → length xs ≡ 16 → ((i : ℕ) → slice_index xs i < 256)
    → highs ≡ map (slice_index lower_digits) (zip2 (λ x y. x / 2 ^ y) xs (replicate 16 4)) → lows ≡ map (slice_index lower_digits) (zip2 bit_and xs (replicate 16 15))
    → let at : ℕ → ℕ = λ i. slice_index_or (highs ++ lows) i 0 in
    ◌≡◌ {A = List ℕ} (at 0 ∷ at 16 ∷ at 1 ∷ at 17 ∷ at 2 ∷ at 18 ∷ at 3 ∷ at 19 ∷ at 4 ∷ at 20 ∷ at 5 ∷ at 21 ∷ at 6 ∷ at 22 ∷ at 7 ∷ at 23
    ∷ at 8 ∷ at 24 ∷ at 9 ∷ at 25 ∷ at 10 ∷ at 26 ∷ at 11 ∷ at 27 ∷ at 12 ∷ at 28 ∷ at 13 ∷ at 29 ∷ at 14 ∷ at 30 ∷ at 15 ∷ at 31 ∷ [])
    (encode_lower xs)
by_turns_of xs highs lows s b h l =
    rw (h, l, uppers 16 xs s, lowers 16 xs s) (by_turns xs s)

-- halves of octets are below 16
pub high_below : (n : ℕ) (xs : List ℕ) → length xs ≡ n → ((i : ℕ) → slice_index xs i < 256) → Each1 (λ x. x < 16) (zip2 (λ x y. x / 2 ^ y) xs (replicate n 4))
high_below zero [] e h = tt
high_below zero (x ∷ xs) e h = absurd (omega arith)
high_below (suc n) [] e h = absurd (omega arith)
high_below (suc n) (x ∷ xs) e h = let lt : x < 256 = h 0 in (omega arith, high_below n xs (omega arith) (λ i. h (suc i)))

pub low_below : (n : ℕ) (xs : List ℕ) → Each1 (λ x. x < 16) (zip2 bit_and xs (replicate n 15))
low_below zero [] = tt
low_below zero (x ∷ xs) = tt
low_below (suc n) [] = tt
low_below (suc n) (x ∷ xs) = (omega (arith, and_le_r x 15), low_below n xs)

pub halves_long : (f : ℕ → ℕ → ℕ) (n y : ℕ) (xs : List ℕ) → length xs ≡ n → length (zip2 f xs (replicate n y)) ≡ n
halves_long f n y xs e = length-zip2 f xs (replicate n y) (e ∙ sym (length-replicate n y)) ∙ e

lower_ascii : IsAscii lower_digits
lower_ascii = IsAscii-from_reads lower_digits 16 (omega arith) (λ k h. ltb→lt _ _ (every_below (λ k. ltb (slice_index lower_digits k) 128) 16 tt k h))

-- digits are ASCII
pub digits_ascii : (xs ds : List ℕ) → ds ≡ encode_lower xs → IsAscii ds
digits_ascii xs ds e = rw e (IsAscii-encode_with lower_digits xs lower_ascii)
