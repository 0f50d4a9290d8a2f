-- The last item of a list, written over where it stands.
use Rattle.std.proofs.Common.{◌≡◌, ◌∙◌, ℕ, ◌+◌, ◌-◌, List, [], ◌∷◌, ◌++◌, length, slice_set, slice_index_or, ap, arith}
use Rattle.std.proofs.Math.Seq.{set-append_seam, get_or-append_seam}

-- The place of the last item is the length of the others.
last-place : {X : Type 0} (xs : List X) (n : ℕ) → n ≡ length xs + 1 → n - 1 ≡ length xs
last-place xs n is = omega (arith, is)

-- Where another is written in its place, it is the last.
pub set-last : {X : Type 0} (xs : List X) (x y : X) (n : ℕ) → n ≡ length xs + 1 → slice_set (xs ++ x ∷ []) (n - 1) y ≡ xs ++ y ∷ []
set-last xs x y n is = ap (λ (place : ℕ). slice_set (xs ++ x ∷ []) place y) (last-place xs n is) ∙ set-append_seam xs x [] y

-- What stands there is it.
pub get-last : {X : Type 0} (xs : List X) (x d : X) (n : ℕ) → n ≡ length xs + 1 → slice_index_or (xs ++ x ∷ []) (n - 1) d ≡ x
get-last xs x d n is = ap (λ (place : ℕ). slice_index_or (xs ++ x ∷ []) place d) (last-place xs n is) ∙ get_or-append_seam xs x [] d
