-- Lists in the order of a test: elements put one after the other, what is told of them in order, and the
-- place that a binary search finds.
use Rattle.std.proofs.Common.{◌≡◌, ℕ, zero, suc, ◌<◌, ◌≤◌, Bool, true, false, cond, List, [], ◌∷◌, length, insert, remove, filter, Option, Some, None, refl, ap, sym, ◌∙◌, arith, slice_index_or, if◌then◌else◌}
use Rattle.std.specs.Prelude.{filter_map}
use Rattle.std.specs.List.{cons_option}
use Rattle.std.specs.List.Sorted.{IsPartitionedBy, IsPartitionPoint}
use Rattle.tcap_invocation.specs.Order.{put_by, in_order_by}
use Rattle.tcap_invocation.proofs.InsertionLemmas.{Ahead, Ordered, ahead_later, ordered_in_order}

-- whether the first passes the test
module _ {A : Type 0} (p : A → Bool) (x : A) (xs : List A) where
  pub filter-kept : p x ≡ true → filter p (x ∷ xs) ≡ x ∷ filter p xs
  filter-kept e = rw e refl

  pub filter-dropped : p x ≡ false → filter p (x ∷ xs) ≡ filter p xs
  filter-dropped e = rw e refl

module _ {A : Type 0} (before : A → A → Bool) where
  pub put_ahead : (x : A) (ys : List A) → Ahead before x ys → put_by before x ys ≡ x ∷ ys
  put_ahead x [] a = refl
  put_ahead x (y ∷ ys) a = rw a.0 refl

  -- sorting changes nothing in a list that is in order
  pub in_order-fixed : (xs : List A) → Ordered before xs → in_order_by before xs ≡ xs
  in_order-fixed [] o = refl
  in_order-fixed (x ∷ xs) o = ap (put_by before x) (in_order-fixed xs o.1) ∙ put_ahead x xs o.0

  pub length-put : (x : A) (ys : List A) → length (put_by before x ys) ≡ suc (length ys)
  length-put x [] = refl
  length-put x (y ∷ ys) = go (before y x) (length-put x ys)
    where
      go : (b : Bool) → length (put_by before x ys) ≡ suc (length ys) → length (cond b (y ∷ put_by before x ys) (x ∷ y ∷ ys)) ≡ suc (suc (length ys))
      go true e = ap suc e
      go false e = refl

  -- a test that passes what stands ahead of what it passes
  module _ (p : A → Bool) (passes : (x y : A) → before y x ≡ false → p y ≡ true → p x ≡ true) where
    earlier_all : (x : A) (ys : List A) (j : ℕ) (d : A) → Ahead before x ys → j < length ys → p (slice_index_or ys j d) ≡ true → p x ≡ true
    earlier_all x [] j d a high e = absurd (omega (arith, high))
    earlier_all x (y ∷ ys) (suc j) d a high e = earlier_all x ys j d a.1 (omega (arith, high)) e
    earlier_all x (y ∷ ys) zero d a high e = passes x y a.0 e

    pub IsPartitionedBy-ordered : (xs : List A) → Ordered before xs → IsPartitionedBy p xs
    IsPartitionedBy-ordered [] o i j d low high e = absurd (omega (arith, high))
    IsPartitionedBy-ordered (x ∷ xs) o zero zero d low high e = e
    IsPartitionedBy-ordered (x ∷ xs) o zero (suc j) d low high e = earlier_all x xs j d o.0 (omega (arith, high)) e
    IsPartitionedBy-ordered (x ∷ xs) o (suc i) zero d low high e = absurd (omega (arith, low))
    IsPartitionedBy-ordered (x ∷ xs) o (suc i) (suc j) d low high e = IsPartitionedBy-ordered xs o.1 i j d (omega (arith, low)) (omega (arith, high)) e

  module _ (once : (a b : A) → before a b ≡ true → before b a ≡ false) (behind : (a b c : A) → before b a ≡ false → before c b ≡ false → before c a ≡ false) where
    strict : (y a b : A) → before y a ≡ true → before a b ≡ true → before y b ≡ true
    strict y a b p q = go (before y b) refl
      where
        go : (c : Bool) → before y b ≡ c → before y b ≡ true
        go true e = e
        go false e = let no : before y a ≡ false = behind a b y (once a b q) e in absurd cc

    pub put_put : (a b : A) (zs : List A) → before a b ≡ true → put_by before a (put_by before b zs) ≡ put_by before b (put_by before a zs)
    put_put a b [] lt = rw (once a b lt, lt) refl
    put_put a b (z ∷ zs) lt = go (before z b) (before z a) refl refl (put_put a b zs lt)
      where
        go : (p q : Bool) → before z b ≡ p → before z a ≡ q → put_by before a (put_by before b zs) ≡ put_by before b (put_by before a zs)
            → put_by before a (cond p (z ∷ put_by before b zs) (b ∷ z ∷ zs)) ≡ put_by before b (cond q (z ∷ put_by before a zs) (a ∷ z ∷ zs))
        go true true d e rest = rw (d, e) (ap (λ l. z ∷ l) rest)
        go true false d e rest = rw (e, lt, d) refl
        go false true d e rest = let more : before z b ≡ true = strict z a b e lt in absurd cc
        go false false d e rest = rw (once a b lt, lt, d) refl

    -- what is before an element is before what that is not after
    before-earlier : (t x y : A) → before y x ≡ false → before y t ≡ true → before x t ≡ true
    before-earlier t x y o e = go (before x t) refl
      where
        go : (c : Bool) → before x t ≡ c → before x t ≡ true
        go true q = q
        go false q = let no : before y t ≡ false = behind t x y q o in absurd cc

    pub IsPartitionedBy-before : (xs : List A) (t : A) → Ordered before xs → IsPartitionedBy (λ y. before y t) xs
    IsPartitionedBy-before xs t o = IsPartitionedBy-ordered (λ y. before y t) (before-earlier t) xs o

  -- ---- elements are taken out

  ahead_filter : (p : A → Bool) (x : A) (ys : List A) → Ahead before x ys → Ahead before x (filter p ys)
  ahead_filter p x [] a = tt
  ahead_filter p x (y ∷ ys) a = elim (p y) as (λ b. Ahead before x (cond b (y ∷ filter p ys) (filter p ys))) [ true ↦ (a.0, ahead_filter p x ys a.1) | false ↦ ahead_filter p x ys a.1 ]

  pub ordered_filter : (p : A → Bool) (xs : List A) → Ordered before xs → Ordered before (filter p xs)
  ordered_filter p [] o = tt
  ordered_filter p (x ∷ xs) o =
      elim (p x) as (λ b. Ordered before (cond b (x ∷ filter p xs) (filter p xs))) [ true ↦ (ahead_filter p x xs o.0, ordered_filter p xs o.1) | false ↦ ordered_filter p xs o.1 ]

  ahead_remove : (x : A) (ys : List A) (i : ℕ) → Ahead before x ys → Ahead before x (remove ys i)
  ahead_remove x [] zero a = tt
  ahead_remove x [] (suc i) a = tt
  ahead_remove x (y ∷ ys) zero a = a.1
  ahead_remove x (y ∷ ys) (suc i) a = (a.0, ahead_remove x ys i a.1)

  pub ordered_remove : (xs : List A) (i : ℕ) → Ordered before xs → Ordered before (remove xs i)
  ordered_remove [] zero o = tt
  ordered_remove [] (suc i) o = tt
  ordered_remove (x ∷ xs) zero o = o.1
  ordered_remove (x ∷ xs) (suc i) o = (ahead_remove x xs i o.0, ordered_remove xs i o.1)

  -- ---- what is told of the elements

  module _ {B : Type 0} (after : B → B → Bool) (f : A → Option B) (same : (x y : A) (u v : B) → f x ≡ Some u → f y ≡ Some v → before x y ≡ after u v) where
    abbrev put_told : Option B → List B → List B
    put_told None us = us
    put_told (Some u) us = put_by after u us

    ahead_told : (x : A) (u : B) (ys : List A) → f x ≡ Some u → Ahead before x ys → Ahead after u (filter_map f ys)
    ahead_told x u [] e a = tt
    ahead_told x u (y ∷ ys) e a = go (f y) refl (ahead_told x u ys e a.1)
      where
        go : (o : Option B) → f y ≡ o → Ahead after u (filter_map f ys) → Ahead after u (cons_option o (filter_map f ys))
        go None q rest = rest
        go (Some v) q rest = (sym (same y x v u q e) ∙ a.0, rest)

    module _ (behind : (a b c : A) → before b a ≡ false → before c b ≡ false → before c a ≡ false) (once : (a b : A) → before a b ≡ true → before b a ≡ false) where
      told_put : (x : A) (ys : List A) → Ordered before ys → filter_map f (put_by before x ys) ≡ put_told (f x) (filter_map f ys)
      told_put x [] o = alone (f x)
        where
          alone : (p : Option B) → cons_option p [] ≡ put_told p []
          alone None = refl
          alone (Some u) = refl
      told_put x (y ∷ ys) o = go (before y x) refl (told_put x ys o.1)
        where
          later : (p q : Option B) → f x ≡ p → f y ≡ q → before y x ≡ true → cons_option q (put_told p (filter_map f ys)) ≡ put_told p (cons_option q (filter_map f ys))
          later None q d e b = refl
          later (Some u) None d e b = refl
          later (Some u) (Some v) d e b = rw (sym (same y x v u e d) ∙ b) refl

          first : (p : Option B) → f x ≡ p → before y x ≡ false → cons_option p (filter_map f (y ∷ ys)) ≡ put_told p (filter_map f (y ∷ ys))
          first None d b = refl
          first (Some u) d b = sym (put_first u (filter_map f (y ∷ ys)) (ahead_told x u (y ∷ ys) d (b, ahead_later before once behind x y ys b o.0)))
            where
              put_first : (u : B) (us : List B) → Ahead after u us → put_by after u us ≡ u ∷ us
              put_first u [] a = refl
              put_first u (v ∷ vs) a = rw a.0 refl

          go : (b : Bool) → before y x ≡ b → filter_map f (put_by before x ys) ≡ put_told (f x) (filter_map f ys)
              → filter_map f (cond b (y ∷ put_by before x ys) (x ∷ y ∷ ys)) ≡ put_told (f x) (filter_map f (y ∷ ys))
          go true b rest = ap (cons_option (f y)) rest ∙ later (f x) (f y) refl refl b
          go false b rest = first (f x) refl b

      -- what is told of the sorted elements is what is told of them, sorted
      pub told_in_order : (xs : List A) → filter_map f (in_order_by before xs) ≡ in_order_by after (filter_map f xs)
      told_in_order [] = refl
      told_in_order (x ∷ xs) = told_put x (in_order_by before xs) (ordered_in_order before once behind xs) ∙ go (f x) (told_in_order xs)
        where
          go : (o : Option B) → filter_map f (in_order_by before xs) ≡ in_order_by after (filter_map f xs) → put_told o (filter_map f (in_order_by before xs)) ≡ in_order_by after (cons_option o (filter_map f xs))
          go None e = e
          go (Some u) e = ap (put_by after u) e

  -- elements that pass a test, as what is told
  abbrev only : (A → Bool) → A → Option A
  only p x = if p x then Some x else None

  only-is : (p : A → Bool) (x u : A) → only p x ≡ Some u → x ≡ u
  only-is p x u = go (p x)
    where
      go : (b : Bool) → (if b then Some x else None) ≡ Some u → x ≡ u
      go true e = cc
      go false e = absurd cc

  filter_only : (p : A → Bool) (xs : List A) → filter_map (only p) xs ≡ filter p xs
  filter_only p [] = refl
  filter_only p (x ∷ xs) = go (p x) (filter_only p xs)
    where
      go : (b : Bool) → filter_map (only p) xs ≡ filter p xs → cons_option (if b then Some x else None) (filter_map (only p) xs) ≡ cond b (x ∷ filter p xs) (filter p xs)
      go true e = ap (λ l. x ∷ l) e
      go false e = e

  module _ (once : (a b : A) → before a b ≡ true → before b a ≡ false) (behind : (a b c : A) → before b a ≡ false → before c b ≡ false → before c a ≡ false) where
    pub filter_in_order : (p : A → Bool) (xs : List A) → filter p (in_order_by before xs) ≡ in_order_by before (filter p xs)
    filter_in_order p xs =
        sym (filter_only p (in_order_by before xs))
        ∙ told_in_order before (only p) (λ x y u v d e. let k = only-is p x u d in let l = only-is p y v e in (λ j. before (k j) (l j))) behind once xs
        ∙ ap (in_order_by before) (filter_only p xs)

  -- ---- what a binary search finds

  abbrev pub IsAt : A → List A → ℕ → Type 0
  IsAt t xs i = IsPartitionPoint (λ y. before y t ≡ true) (λ y. before y t ≡ false) xs i

  -- an element is put where a search for it ends
  pub insert-put : (xs : List A) (t : A) (i : ℕ) → i ≤ length xs → IsAt t xs i → insert xs i t ≡ put_by before t xs
  insert-put [] t i within p = let none : i ≡ 0 = omega (arith, within) in rw none refl
  insert-put (x ∷ xs) t zero within p = let first : before x t ≡ false = p.1 0 x (omega arith) (omega arith) in rw first refl
  insert-put (x ∷ xs) t (suc i) within p =
      let first : before x t ≡ true = p.0 0 x (omega arith) (omega arith) in
      let rest : insert xs i t ≡ put_by before t xs = insert-put xs t i (omega (arith, within)) (λ k d low high. p.0 (suc k) d (omega arith) (omega (arith, high)), λ k d low high. p.1 (suc k) d (omega (arith, low)) (omega (arith, high))) in
      rw first (ap (λ l. x ∷ l) rest)

  -- and stands there
  pub remove-put : (t : A) (ys : List A) (i : ℕ) → before t t ≡ false → IsAt t (put_by before t ys) i → (i < length (put_by before t ys)) × (remove (put_by before t ys) i ≡ ys)
  remove-put t [] zero never p = (omega arith, refl)
  remove-put t [] (suc i) never p = let no : before t t ≡ true = p.0 0 t (omega arith) (omega arith) in absurd cc
  remove-put t (y ∷ ys) i never p = go (before y t) refl i p (λ j q. remove-put t ys j never q)
    where
      Goal : List A → ℕ → Type 0
      Goal l i = (i < length l) × (remove l i ≡ y ∷ ys)

      go : (b : Bool) → before y t ≡ b → (i : ℕ) → IsAt t (cond b (y ∷ put_by before t ys) (t ∷ y ∷ ys)) i
          → ((j : ℕ) → IsAt t (put_by before t ys) j → (j < length (put_by before t ys)) × (remove (put_by before t ys) j ≡ ys)) → Goal (cond b (y ∷ put_by before t ys) (t ∷ y ∷ ys)) i
      go true e zero p rest = let no : before y t ≡ false = p.1 0 y (omega arith) (omega arith) in absurd cc
      go true e (suc i) p rest =
          let r = rest i (λ k d low high. p.0 (suc k) d (omega arith) (omega (arith, high)), λ k d low high. p.1 (suc k) d (omega (arith, low)) (omega (arith, high))) in
          (let within = r.0 in omega (arith, within), ap (λ l. y ∷ l) r.1)
      go false e zero p rest = (omega arith, refl)
      go false e (suc i) p rest = let no : before t t ≡ true = p.0 0 t (omega arith) (omega arith) in absurd cc
