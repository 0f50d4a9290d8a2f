-- What holds of each entry of a list.
use Rattle.std.proofs.Common.{◌≡◌, Bool, false, true, List, [], ◌∷◌, ◌++◌, refl}
use Rattle.std.specs.Prelude.{if◌then◌else◌}
use Rattle.std.specs.List.{AllByRecursion}

pub each-append : {X : Type 0} (P : X → Type 0) (xs ys : List X) → AllByRecursion P xs → AllByRecursion P ys
    → AllByRecursion P (xs ++ ys)
each-append P [] ys p q = q
each-append P (x ∷ xs) ys p q = (p.0, each-append P xs ys p.1 q)

pub one-of : {X : Type 0} (P : X → Type 0) (earlier later : List X) (x : X) → AllByRecursion P (earlier ++ x ∷ later)
    → P x
one-of P [] later x all = all.0
one-of P (y ∷ earlier) later x all = one-of P earlier later x all.1

pub either : {X : Type 0} (P : X → Type 0) (test : Bool) (xs ys : List X) → (test ≡ true → AllByRecursion P xs)
    → (test ≡ false → AllByRecursion P ys) → AllByRecursion P (if test then xs else ys)
either P true xs ys p q = p refl
either P false xs ys p q = q refl
