-- Lists in the order of a test: the sort by insertion puts in order, keeps what is in the list, and is
-- the only list in order with the same elements.
use Rattle.std.proofs.Common.{◌≡◌, ℕ, ◌+◌, Bool, true, false, cond, List, [], ◌∷◌, length, Option, Some, None, refl, ap, sym, ◌∙◌, arith}
use Rattle.std.specs.List.{AllByRecursion}
use Rattle.tcap_invocation.specs.Order.{put_by, in_order_by, first_of}

-- the sum of f, by recursion
abbrev pub total : {A : Type 0} → (A → ℕ) → List A → ℕ
total f [] = 0
total f (x ∷ xs) = f x + total f xs

total-ones : {A : Type 0} (xs : List A) → total (λ (x : A). 1) xs ≡ length xs
total-ones [] = refl
total-ones (x ∷ xs) = let rest = total-ones xs in omega (arith, rest)

module _ {A : Type 0} (before : A → A → Bool) where
  -- nothing of a list comes before x
  abbrev pub Ahead : A → List A → Type 0
  Ahead x [] = Unit {0}
  Ahead x (y ∷ ys) = (before y x ≡ false) × Ahead x ys

  -- nothing comes before what stands ahead of it
  abbrev pub Ordered : List A → Type 0
  Ordered [] = Unit {0}
  Ordered (x ∷ xs) = Ahead x xs × Ordered xs

  -- ---- the sort keeps what is in the list

  module _ (P : A → Type 0) where
    pub all_put : (x : A) (ys : List A) → P x → AllByRecursion P ys → AllByRecursion P (put_by before x ys)
    all_put x [] p a = (p, tt)
    all_put x (y ∷ ys) p a = go (before y x) (all_put x ys p a.1)
      where
        go : (b : Bool) → AllByRecursion P (put_by before x ys) → AllByRecursion P (cond b (y ∷ put_by before x ys) (x ∷ y ∷ ys))
        go true ih = (a.0, ih)
        go false ih = (p, a)

    pub all_in_order : (xs : List A) → AllByRecursion P xs → AllByRecursion P (in_order_by before xs)
    all_in_order [] a = tt
    all_in_order (x ∷ xs) a = all_put x (in_order_by before xs) a.0 (all_in_order xs a.1)

  module _ (f : A → ℕ) where
    pub total_put : (x : A) (ys : List A) → total f (put_by before x ys) ≡ f x + total f ys
    total_put x [] = refl
    total_put x (y ∷ ys) = go (before y x) (total_put x ys)
      where
        go : (b : Bool) → total f (put_by before x ys) ≡ f x + total f ys → total f (cond b (y ∷ put_by before x ys) (x ∷ y ∷ ys)) ≡ f x + (f y + total f ys)
        go true ih = omega (arith, ih)
        go false ih = refl

    pub total_in_order : (xs : List A) → total f (in_order_by before xs) ≡ total f xs
    total_in_order [] = refl
    total_in_order (x ∷ xs) = total_put x (in_order_by before xs) ∙ ap (λ n. f x + n) (total_in_order xs)

  pub length-in_order : (xs : List A) → length (in_order_by before xs) ≡ length xs
  length-in_order xs = sym (total-ones (in_order_by before xs)) ∙ total_in_order (λ x. 1) xs ∙ total-ones xs

  -- ---- the first

  -- of an element and the first of a list the one that comes first
  abbrev pub front : A → Option A → A
  front y None = y
  front y (Some h) = cond (before h y) h y

  pub first_of-put : (y : A) (zs : List A) → first_of (put_by before y zs) ≡ Some (front y (first_of zs))
  first_of-put y [] = refl
  first_of-put y (z ∷ zs) = go (before z y)
    where
      go : (b : Bool) → first_of (cond b (z ∷ put_by before y zs) (y ∷ z ∷ zs)) ≡ Some (cond b z y)
      go true = refl
      go false = refl

  -- ---- where the test is an order

  module _ (once : (a b : A) → before a b ≡ true → before b a ≡ false) (behind : (a b c : A) → before b a ≡ false → before c b ≡ false → before c a ≡ false) where
    pub ahead_later : (x y : A) (zs : List A) → before y x ≡ false → Ahead y zs → Ahead x zs
    ahead_later x y [] h a = tt
    ahead_later x y (z ∷ zs) h a = (behind x y z h a.0, ahead_later x y zs h a.1)

    ahead_put : (x y : A) (ys : List A) → before y x ≡ false → Ahead x ys → Ahead x (put_by before y ys)
    ahead_put x y [] e a = (e, tt)
    ahead_put x y (z ∷ zs) e a = go (before z y) (ahead_put x y zs e a.1)
      where
        go : (b : Bool) → Ahead x (put_by before y zs) → Ahead x (cond b (z ∷ put_by before y zs) (y ∷ z ∷ zs))
        go true ih = (a.0, ih)
        go false ih = (e, a)

    -- the sort puts in order
    pub ordered_put : (x : A) (ys : List A) → Ordered ys → Ordered (put_by before x ys)
    ordered_put x [] o = (tt, tt)
    ordered_put x (y ∷ ys) o = go (before y x) refl (ordered_put x ys o.1)
      where
        go : (b : Bool) → before y x ≡ b → Ordered (put_by before x ys) → Ordered (cond b (y ∷ put_by before x ys) (x ∷ y ∷ ys))
        go true e ih = (ahead_put y x ys (once y x e) o.0, ih)
        go false e ih = ((e, ahead_later x y ys e o.0), o)

    pub ordered_in_order : (xs : List A) → Ordered (in_order_by before xs)
    ordered_in_order [] = tt
    ordered_in_order (x ∷ xs) = ordered_put x (in_order_by before xs) (ordered_in_order xs)

  -- ---- two lists in order with the same elements are one

  abbrev weight : Bool → ℕ
  weight true = 1
  weight false = 0

  -- whether z comes before x, as a number
  abbrev earlier_than : A → A → ℕ
  earlier_than x z = weight (before z x)

  none_earlier : (x : A) (xs : List A) → Ahead x xs → total (earlier_than x) xs ≡ 0
  none_earlier x [] a = refl
  none_earlier x (y ∷ ys) a = let rest = none_earlier x ys a.1 in rw (a.0, rest) refl

  no_earlier : (x y : A) → earlier_than x y ≡ 0 → before y x ≡ false
  no_earlier x y = go (before y x)
    where
      go : (b : Bool) → weight b ≡ 0 → b ≡ false
      go true h = absurd (omega (arith, h))
      go false h = refl

  -- neither of two elements of the list comes before the other only where they are one
  module _ (never : (a : A) → before a a ≡ false) (In : A → Type 0) (apart : (a b : A) → In a → In b → before a b ≡ false → before b a ≡ false → a ≡ b) where
    head_not_before : (x y : A) (xs ys : List A) → Ahead x xs → total (earlier_than x) (x ∷ xs) ≡ total (earlier_than x) (y ∷ ys) → before y x ≡ false
    head_not_before x y xs ys a s =
        let none = none_earlier x xs a in
        let own : earlier_than x x ≡ 0 = rw (never x) refl in
        no_earlier x y (omega (arith, none, own, s))

    pub one_order : (xs ys : List A) → AllByRecursion In xs → AllByRecursion In ys → Ordered xs → Ordered ys → ((f : A → ℕ) → total f xs ≡ total f ys) → xs ≡ ys
    one_order [] [] i j o p s = refl
    one_order [] (y ∷ ys) i j o p s = absurd (let e = s (λ z. 1) in omega (arith, e))
    one_order (x ∷ xs) [] i j o p s = absurd (let e = s (λ z. 1) in omega (arith, e))
    one_order (x ∷ xs) (y ∷ ys) i j o p s =
        let first : before y x ≡ false = head_not_before x y xs ys o.0 (s (earlier_than x)) in
        let second : before x y ≡ false = head_not_before y x ys xs p.0 (sym (s (earlier_than y))) in
        let same : x ≡ y = apart x y i.0 j.0 second first in
        let rest : xs ≡ ys = one_order xs ys i.1 j.1 o.1 p.1 (λ f. let e = s f in let k = ap f same in omega (arith, e, k)) in
        λ t. same t ∷ rest t
