-- What is drawn from a counter is the numbers from its start on.
use Rattle.std.proofs.Common.{◌≡◌, ℕ, zero, suc, ◌+◌, ◌<◌, ◌⊎◌, Bool, List, [], ◌∷◌, ◌++◌, AllPairs, Option, Some, None, is_some, option_to_list, if◌then◌else◌, sym, ap, ◌∙◌, inl, inr, arith, add-one, append-nil}
use Rattle.std.specs.List.{range_with_len}
use Rattle.std.proofs.lemmas.List.FromFn.{length-range_with_len, get_or-range_with_len}

-- nothing, or the next number
abbrev pub IsDrawnNext : ℕ → Option ℕ → Type 0
IsDrawnNext next drawn = (drawn ≡ None) ⊎ (drawn ≡ Some next)

range-suc : (a n : ℕ) → range_with_len a (suc n) ≡ range_with_len a n ++ (a + n) ∷ []
range-suc a zero = let e : a ≡ a + 0 = omega arith in ap (λ (x : ℕ). x ∷ []) e
range-suc a (suc n) = let e : a + 1 + n ≡ a + suc n =
    omega arith in ap (λ (l : List ℕ). a ∷ l) (range-suc (a + 1) n
    ∙ ap (λ (x : ℕ). range_with_len (a + 1) n ++ x ∷ []) e)

pub range-more : (a n : ℕ) → range_with_len a (n + 1) ≡ range_with_len a n ++ (a + n) ∷ []
range-more a n = ap (range_with_len a) (add-one n) ∙ range-suc a n

-- one step of a counter
pub drawn-step : (a n : ℕ) (drawn : Option ℕ) (some : Bool) → some ≡ is_some drawn → IsDrawnNext (a + n) drawn
    → range_with_len a n ++ option_to_list drawn ≡ range_with_len a (if some then n + 1 else n)
drawn-step a n drawn some e (inl none) = rw (e, none) (append-nil (range_with_len a n))
drawn-step a n drawn some e (inr next) = rw (e, next) (sym (range-more a n))

pub range-rises : (a n : ℕ) → AllPairs (λ x y. x < y) (range_with_len a n)
range-rises a n i j d lt within =
    let long = length-range_with_len a n in
    let first = get_or-range_with_len a n i d (omega (arith, long, within, lt)) in
    let second = get_or-range_with_len a n j d (omega (arith, long, within)) in
    omega (arith, first, second, lt)
