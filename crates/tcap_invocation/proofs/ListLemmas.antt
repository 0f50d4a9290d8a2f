-- Facts of an error, of what is there, and of what a test leaves of a list.
use Rattle.std.proofs.Common.{◌≡◌, ◌∙◌, Bool, cond, subst, List, [], ◌∷◌, filter, Result, Ok, Err, OnErr, Option, Some, None}
use Rattle.std.specs.Prelude.{OnSome, IsSome}
use Rattle.std.specs.List.Retain.{RetainsInTurn}

-- what holds anyway holds of an error
pub OnErr-of : {A E : Type 0} (r : Result A E) (P : Type 0) → P → OnErr r P
OnErr-of (Ok x) P p = tt
OnErr-of (Err e) P p = p

-- what holds of what is there, where it is there
pub OnSome-of : {A : Type 0} (o : Option A) (P : Type 0) → IsSome o → OnSome o P → P
OnSome-of None P some p = absurd cc
OnSome-of (Some x) P some p = p

-- where no call changes the closure or the element, `retain_mut` leaves what passes the test
pub filter-retained : {X F : Type 0} (R : F → X → Bool → F → X → Type 0) (test : X → Bool) (f : F)
    → ((x : X) (b : Bool) (f' : F) (y : X) → R f x b f' y → (b ≡ test x) × (f' ≡ f) × (y ≡ x)) → (xs ys : List X) → RetainsInTurn R f xs ys → ys ≡ filter test xs
filter-retained R test f says [] ys h = h
filter-retained R test f says (x ∷ xs) ys h =
    let said = says x h.0 h.1 h.2 h.3 in
    let rest = filter-retained R test f says xs h.4 (subst (λ g. RetainsInTurn R g xs h.4) said.1 h.5) in
    h.6 ∙ (λ i. cond (said.0 i) (said.2 i ∷ rest i) (rest i))
