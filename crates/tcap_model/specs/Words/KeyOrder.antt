-- Lists in the order of their keys, which are lists of numbers.
use Rattle.std.specs.Prelude.{ℕ, ◌==◌, ◌&&◌, ◌||◌, Bool, true, false, nat_lt, List, [], ◌∷◌}
use Rattle.tcap_invocation.specs.Order.{put_by, in_order_by}

-- Lexicographic order: a key comes before another if it has the smaller number where they first differ,
-- or ends there (own).
abbrev pub comes_before : List ℕ → List ℕ → Bool
comes_before [] [] = false
comes_before [] (n ∷ ns) = true
comes_before (m ∷ ms) [] = false
comes_before (m ∷ ms) (n ∷ ns) = nat_lt m n || ((m == n) && comes_before ms ns)

-- Whether the key of one value comes before that of another (own).
abbrev pub key_before : {X : Type 0} → (X → List ℕ) → X → X → Bool
key_before key x y = comes_before (key x) (key y)

-- A value in its place among values that are in the order of their keys (own).
abbrev pub put : {X : Type 0} → (X → List ℕ) → X → List X → List X
put key x ys = put_by (key_before key) x ys

-- Values in the order of their keys (own).
abbrev pub in_order : {X : Type 0} → (X → List ℕ) → List X → List X
in_order key xs = in_order_by (key_before key) xs
