-- Values in the order of their keys, group by group: joined groups have the order of all.
use Rattle.std.proofs.Common.{◌≡◌, ◌≤◌, ◌<◌, ◌+◌, ◌==◌, ◌&&◌, ℕ, zero, suc, Bool, true, false, cond, nat_lt}
use Rattle.std.proofs.Common.{List, [], ◌∷◌, ◌++◌, refl, sym, ap, ◌∙◌, arith}
use Rattle.std.proofs.lemmas.Bool.{or_parts, eq-eqb, ltb-false, true≢false}
use Rattle.std.proofs.lemmas.Bool.Decides.{nat_tests}
use Rattle.std.specs.Prelude.{filter}
use Rattle.std.specs.List.{flat_map, range_with_len, AllByRecursion}
use Rattle.tcap_laws.proofs.Isolation.KeyedLists.{and_not, asym, trans}
use Rattle.tcap_model.specs.Words.KeyOrder.{comes_before, put, in_order}

-- of two keys neither of which comes before the other both are one
antisym : (a b : List ℕ) → comes_before a b ≡ false → comes_before b a ≡ false → a ≡ b
antisym [] [] p q = refl
antisym [] (n ∷ ns) p q = absurd (true≢false p)
antisym (m ∷ ms) [] p q = absurd (true≢false q)
antisym (m ∷ ms) (n ∷ ns) p q =
    let first = or_parts (nat_lt m n) ((m == n) && comes_before ms ns) p in
    let second = or_parts (nat_lt n m) ((n == m) && comes_before ns ms) q in
    let low = ltb-false m n first.0 in
    let high = ltb-false n m second.0 in
    let same : m ≡ n = omega (arith, low, high) in
    let rest = antisym ms ns (and_not (m == n) (comes_before ms ns) first.1 (eq-eqb m n same))
    (and_not (n == m) (comes_before ns ms) second.1 (eq-eqb n m (sym same))) in
    ap (λ k. k ∷ ms) same ∙ ap (λ z. n ∷ z) rest

module _ {X : Type 0} (key : X → List ℕ) where
  abbrev is_before : X → X → Bool
  is_before x y = comes_before (key x) (key y)

  -- ---- two with different keys may be put in either way round

  module _ (x y : X) (apart : key x ≡ key y → ⊥) where
    -- of two with different keys one comes first
    one_first : (zs : List X) → cond (is_before y x) (y ∷ x ∷ zs) (x ∷ y ∷ zs) ≡ cond (is_before x y) (x ∷ y ∷ zs)
        (y ∷ x ∷ zs)
    one_first zs = go (is_before y x) (is_before x y) refl refl
      where
        go : (a b : Bool) → is_before y x ≡ a → is_before x y ≡ b
            → cond a (y ∷ x ∷ zs) (x ∷ y ∷ zs) ≡ cond b (x ∷ y ∷ zs) (y ∷ x ∷ zs)
        go true true p q = absurd (true≢false (sym q ∙ asym (key x) (key y) p))
        go true false p q = refl
        go false true p q = refl
        go false false p q = absurd (apart (antisym (key x) (key y) q p))

    -- what comes before the one and not before the other stands between them
    between : (z a b : X) → is_before z a ≡ true → is_before z b ≡ false → is_before b a ≡ true
    between z a b p q = go (is_before b a) refl
      where
        go : (c : Bool) → is_before b a ≡ c → c ≡ true
        go true e = refl
        go false e = absurd (true≢false (sym p ∙ trans (key a) (key b) (key z) e q))

    pub put-commute : (zs : List X) → put key x (put key y zs) ≡ put key y (put key x zs)
    put-commute [] = one_first []
    put-commute (z ∷ zs) = go (is_before z x) (is_before z y) refl refl (put-commute zs)
      where
        go : (c d : Bool) → is_before z x ≡ c → is_before z y ≡ d → put key x (put key y zs) ≡ put key y (put key x zs)
            → put key x (cond d (z ∷ put key y zs) (y ∷ z ∷ zs)) ≡ put key y (cond c (z ∷ put key x zs) (x ∷ z ∷ zs))
        go true true p q ih =
            ap (λ b. cond b (z ∷ put key x (put key y zs)) (x ∷ z ∷ put key y zs)) p
            ∙ (ap (λ l. z ∷ l) ih ∙ sym (ap (λ b. cond b (z ∷ put key y (put key x zs)) (y ∷ z ∷ put key x zs)) q))
        go true false p q ih =
            ap (λ b. cond b (y ∷ put key x (z ∷ zs)) (x ∷ y ∷ z ∷ zs)) (between z x y p q)
            ∙ (ap (λ b. y ∷ cond b (z ∷ put key x zs) (x ∷ z ∷ zs)) p
            ∙ sym (ap (λ b. cond b (z ∷ put key y (put key x zs)) (y ∷ z ∷ put key x zs)) q))
        go false true p q ih =
            ap (λ b. cond b (z ∷ put key x (put key y zs)) (x ∷ z ∷ put key y zs)) p
            ∙ (sym (ap (λ b. x ∷ cond b (z ∷ put key y zs) (y ∷ z ∷ zs)) q)
            ∙ sym (ap (λ b. cond b (x ∷ put key y (z ∷ zs)) (y ∷ x ∷ z ∷ zs)) (between z y x q p)))
        go false false p q ih =
            ap (λ b. cond (is_before y x) (y ∷ cond b (z ∷ put key x zs) (x ∷ z ∷ zs)) (x ∷ y ∷ z ∷ zs)) p
            ∙ (one_first (z ∷ zs)
            ∙ sym (ap (λ b. cond (is_before x y) (x ∷ cond b (z ∷ put key y zs) (y ∷ z ∷ zs)) (y ∷ x ∷ z ∷ zs)) q))

  -- ---- groups

  module _ (owner : X → ℕ) (apart : (x y : X) → (owner x ≡ owner y → ⊥) → key x ≡ key y → ⊥) where
    abbrev pub group : ℕ → List X → List X
    group d xs = filter (λ x. owner x == d) xs

    -- one of another group is put past a group
    past_group : (x : X) (d : ℕ) → (owner x == d) ≡ false → (ys more rest : List X)
        → in_order key more ≡ put key x (in_order key rest)
        → in_order key (group d ys ++ more) ≡ put key x (in_order key (group d ys ++ rest))
    past_group x d e [] more rest ih = ih
    past_group x d e (y ∷ ys) more rest ih = go (owner y == d) refl (past_group x d e ys more rest ih)
      where
        other : (owner y == d) ≡ true → owner y ≡ owner x → ⊥
        other q same = true≢false (sym q ∙ (ap (λ n. n == d) same ∙ e))

        go : (b : Bool) → (owner y == d) ≡ b
            → in_order key (group d ys ++ more) ≡ put key x (in_order key (group d ys ++ rest))
            → in_order key (cond b (y ∷ group d ys) (group d ys) ++ more) ≡ put key x
            (in_order key (cond b (y ∷ group d ys) (group d ys) ++ rest))
        go true q h = ap (put key y) h ∙ put-commute y x (apart y x (other q)) (in_order key (group d ys ++ rest))
        go false q h = h

    -- all groups from this one on
    abbrev pub grouped : ℕ → ℕ → List X → List X
    grouped a n xs = flat_map (λ d. group d xs) (range_with_len a n)

    below_all : (x : X) (xs : List X) (a n : ℕ) → owner x < a → grouped a n (x ∷ xs) ≡ grouped a n xs
    below_all x xs a zero lt = refl
    below_all x xs a (suc n) lt =
        ap (λ b. cond b (x ∷ group a xs) (group a xs) ++ grouped (a + 1) n (x ∷ xs)) not_here
        ∙ ap (λ z. group a xs ++ z) (below_all x xs (a + 1) n (omega (arith, lt)))
      where
        not_here : (owner x == a) ≡ false
        not_here = grind (arith, nat_tests)

    put_grouped : (x : X) (xs : List X) (a n : ℕ) → a ≤ owner x → owner x < a + n
        → in_order key (grouped a n (x ∷ xs)) ≡ put key x (in_order key (grouped a n xs))
    put_grouped x xs a zero low high = absurd (omega (arith, low, high))
    put_grouped x xs a (suc n) low high =
        go (owner x == a) refl (λ above. put_grouped x xs (a + 1) n above (omega (arith, high)))
      where
        here : (owner x == a) ≡ true → owner x < a + 1
        here q = grind (arith, nat_tests)

        later : (owner x == a) ≡ false → a + 1 ≤ owner x
        later q = grind (arith, nat_tests)

        go : (b : Bool) → (owner x == a) ≡ b
            → (a + 1 ≤ owner x → in_order key (grouped (a + 1) n (x ∷ xs)) ≡ put key x
            (in_order key (grouped (a + 1) n xs)))
            → in_order key (cond b (x ∷ group a xs) (group a xs) ++ grouped (a + 1) n (x ∷ xs)) ≡ put key x
            (in_order key (group a xs ++ grouped (a + 1) n xs))
        go true q ih = ap (λ z. put key x (in_order key (group a xs ++ z))) (below_all x xs (a + 1) n (here q))
        go false q ih = past_group x a q xs (grouped (a + 1) n (x ∷ xs)) (grouped (a + 1) n xs) (ih (later q))

    none_grouped : (a n : ℕ) → grouped a n [] ≡ []
    none_grouped a zero = refl
    none_grouped a (suc n) = none_grouped (a + 1) n

    -- the order of the joined groups is that of all
    pub grouped-in_order : (xs : List X) (a n : ℕ) → AllByRecursion (λ x. (a ≤ owner x) × (owner x < a + n)) xs
        → in_order key (grouped a n xs) ≡ in_order key xs
    grouped-in_order [] a n all = ap (in_order key) (none_grouped a n)
    grouped-in_order (x ∷ xs) a n all =
        put_grouped x xs a n all.0.0 all.0.1 ∙ ap (put key x) (grouped-in_order xs a n all.1)
