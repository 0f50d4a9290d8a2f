-- Lists in an order that a test tells: whether the first of two comes before the second.
use Rattle.std.specs.Prelude.{Bool, List, [], ◌∷◌, Option, Some, None, if◌then◌else◌}

-- An element in its place among elements that are in order (own).
abbrev pub put_by : {A : Type 0} → (A → A → Bool) → A → List A → List A
put_by before x [] = x ∷ []
put_by before x (y ∷ ys) = if before y x then y ∷ put_by before x ys else x ∷ y ∷ ys

-- The elements in order; those of which neither comes before the other keep their places (own).
abbrev pub in_order_by : {A : Type 0} → (A → A → Bool) → List A → List A
in_order_by before [] = []
in_order_by before (x ∷ xs) = put_by before x (in_order_by before xs)

-- The first of some elements (own).
abbrev pub first_of : {A : Type 0} → List A → Option A
first_of [] = None
first_of (x ∷ xs) = Some x
