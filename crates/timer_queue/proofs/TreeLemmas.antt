-- The sum over the tree that the heap is, cut where a place doesn't pass, is the sum over all places.
use Rattle.std.proofs.Common.{◌≡◌, ◌≢◌, ℕ, zero, suc, ◌+◌, ◌*◌, ◌<◌, ◌≤◌, ◌⊎◌, inl, inr, [], ◌∷◌, ◌++◌, Bool, true, false, cond, nat_eq, nat_lt, refl, sym, ap, ◌∙◌, arith, tests}
use Rattle.std.proofs.lemmas.Bool.{cases_eq, cases_lt, cases_order, cases_Bool}
use Rattle.std.proofs.lemmas.List.Sums.{sum_by-append, sum_by-cons}
use Rattle.std.specs.List.{sum_by}
use Rattle.timer_queue.specs.Heap.{IsChild}
use Rattle.timer_queue.specs.Due.{downwards}
use Rattle.timer_queue.proofs.SiftLemmas.{child_past, same_parent, has_parent}

-- g 0 + .. + g (n - 1)
abbrev pub total : (ℕ → ℕ) → ℕ → ℕ
total g zero = 0
total g (suc n) = total g n + g n

-- The sum over the tree below a place, of the places below a number.
abbrev tree : (ℕ → ℕ) → ℕ → ℕ → ℕ → ℕ
tree g n zero i = 0
tree g n (suc depth) i = cond (nat_lt i n) (g i + (tree g n depth (2 * i + 1) + tree g n depth (2 * i + 2))) 0

-- How many ways lead down from a place to another.
abbrev ways : ℕ → ℕ → ℕ → ℕ
ways zero i k = 0
ways (suc depth) i k = cond (nat_eq i k) 1 (cond (nat_lt i k) (ways depth (2 * i + 1) k + ways depth (2 * i + 2) k) 0)

lt-true : (a b : ℕ) → a < b → nat_lt a b ≡ true
lt-true a b h = grind (arith, tests, h)

lt-false : (a b : ℕ) → b ≤ a → nat_lt a b ≡ false
lt-false a b h = grind (arith, tests, h)

eq-true : (a : ℕ) → nat_eq a a ≡ true
eq-true a = grind (arith, tests)

eq-false : (a b : ℕ) → a ≢ b → nat_eq a b ≡ false
eq-false a b h = grind (arith, tests, h)

tree-past : (g : ℕ → ℕ) (n depth i : ℕ) → n ≤ i → tree g n depth i ≡ 0
tree-past g n zero i le = refl
tree-past g n (suc depth) i le = rw (lt-false i n le) refl

tree-here : (g : ℕ → ℕ) (n depth i : ℕ) → i < n → tree g n (suc depth) i ≡ g i + (tree g n depth (2 * i + 1) + tree g n depth (2 * i + 2))
tree-here g n depth i lt = ap (λ b. cond b (g i + (tree g n depth (2 * i + 1) + tree g n depth (2 * i + 2))) 0) (lt-true i n lt)

ways-past : (depth i k : ℕ) → k < i → ways depth i k ≡ 0
ways-past zero i k lt = refl
ways-past (suc depth) i k lt = rw (eq-false i k (λ e. omega (arith, lt, e)), lt-false i k (omega (arith, lt))) refl

ways-same : (depth i : ℕ) → ways (suc depth) i i ≡ 1
ways-same depth i = rw (eq-true i) refl

ways-below : (depth i k : ℕ) → i < k → ways (suc depth) i k ≡ ways depth (2 * i + 1) k + ways depth (2 * i + 2) k
ways-below depth i k lt = rw (eq-false i k (λ e. omega (arith, lt, e)), lt-true i k lt) refl

-- One place more is in the tree as often as ways lead to it.
tree-more : (g : ℕ → ℕ) (n depth i : ℕ) → tree g (suc n) depth i ≡ tree g n depth i + ways depth i n * g n
tree-more g n zero i = omega arith
tree-more g n (suc depth) i = go (cases_lt i n) (cases_eq i n) (tree-more g n depth (2 * i + 1)) (tree-more g n depth (2 * i + 2))
  where
    go : (i < n) ⊎ (n ≤ i) → (i ≡ n) ⊎ (i ≢ n)
        → tree g (suc n) depth (2 * i + 1) ≡ tree g n depth (2 * i + 1) + ways depth (2 * i + 1) n * g n
        → tree g (suc n) depth (2 * i + 2) ≡ tree g n depth (2 * i + 2) + ways depth (2 * i + 2) n * g n
        → tree g (suc n) (suc depth) i ≡ tree g n (suc depth) i + ways (suc depth) i n * g n
    go (inl lt) d left right =
        let whole : (ways depth (2 * i + 1) n + ways depth (2 * i + 2) n) * g n ≡ ways depth (2 * i + 1) n * g n + ways depth (2 * i + 2) n * g n = omega arith in
        rw (tree-here g (suc n) depth i (omega (arith, lt)), tree-here g n depth i lt, ways-below depth i n lt, whole) (omega (arith, left, right))
    go (inr le) (inl e) left right =
        let one : tree g (suc n) depth (2 * i + 1) ≡ 0 = tree-past g (suc n) depth (2 * i + 1) (omega (arith, e)) in
        let two : tree g (suc n) depth (2 * i + 2) ≡ 0 = tree-past g (suc n) depth (2 * i + 2) (omega (arith, e)) in
        let none : tree g n (suc depth) i ≡ 0 = tree-past g n (suc depth) i le in
        let way : ways (suc depth) i n ≡ 1 = ap (ways (suc depth) i) (sym e) ∙ ways-same depth i in
        let same : g i ≡ g n = ap g e in
        rw (tree-here g (suc n) depth i (omega (arith, e)), none, way, one, two) (omega (arith, same))
    go (inr le) (inr ne) left right =
        let none : tree g n (suc depth) i ≡ 0 = tree-past g n (suc depth) i le in
        let none_more : tree g (suc n) (suc depth) i ≡ 0 = tree-past g (suc n) (suc depth) i (omega (arith, le, ne)) in
        let way : ways (suc depth) i n ≡ 0 = ways-past (suc depth) i n (omega (arith, le, ne)) in
        rw (none, none_more, way) (omega arith)

-- One more where the two are the same.
abbrev one_if : ℕ → ℕ → ℕ
one_if i k = cond (nat_eq i k) 1 0

one_if-same : (i k : ℕ) → i ≡ k → one_if i k ≡ 1
one_if-same i k e = ap (one_if i) (sym e) ∙ ap (λ b. cond b 1 0) (eq-true i)

one_if-apart : (i k : ℕ) → i ≢ k → one_if i k ≡ 0
one_if-apart i k n = ap (λ b. cond b 1 0) (eq-false i k n)

-- As many ways lead to a place as to the one above it.
ways-up : (depth i c p : ℕ) → IsChild c p → ways (suc depth) i c ≡ ways depth i p + one_if i c
ways-up zero i c p h = go (cases_eq i c) (cases_lt i c)
  where
    go : (i ≡ c) ⊎ (i ≢ c) → (i < c) ⊎ (c ≤ i) → ways (suc zero) i c ≡ 0 + one_if i c
    go (inl e) d = rw (one_if-same i c e, e, ways-same zero c) (omega arith)
    go (inr n) (inl lt) = rw (one_if-apart i c n, ways-below zero i c lt) (omega arith)
    go (inr n) (inr le) = rw (one_if-apart i c n, ways-past 1 i c (omega (arith, le, n))) (omega arith)
ways-up (suc depth) i c p h = go (cases_eq i c) (cases_lt i c) (cases_order i p) (ways-up depth (2 * i + 1) c p h) (ways-up depth (2 * i + 2) c p h)
  where
    low : p < c
    low = child_past c p h

    go : (i ≡ c) ⊎ (i ≢ c) → (i < c) ⊎ (c ≤ i) → (i ≡ p) ⊎ ((i < p) ⊎ (p < i))
        → ways (suc depth) (2 * i + 1) c ≡ ways depth (2 * i + 1) p + one_if (2 * i + 1) c
        → ways (suc depth) (2 * i + 2) c ≡ ways depth (2 * i + 2) p + one_if (2 * i + 2) c
        → ways (suc (suc depth)) i c ≡ ways (suc depth) i p + one_if i c
    go (inl e) d o left right =
        let own : ways (suc (suc depth)) i c ≡ 1 = ap (ways (suc (suc depth)) i) (sym e) ∙ ways-same (suc depth) i in
        rw (own, one_if-same i c e, ways-past (suc depth) i p (omega (arith, low, e))) (omega arith)
    go (inr n) (inr le) o left right =
        rw (ways-past (suc (suc depth)) i c (omega (arith, le, n)), one_if-apart i c n, ways-past (suc depth) i p (omega (arith, le, low))) (omega arith)
    go (inr n) (inl lt) (inl same) left right =
        let own : ways (suc depth) i p ≡ 1 = ap (ways (suc depth) i) (sym same) ∙ ways-same depth i in
        let none_left : ways depth (2 * i + 1) p ≡ 0 = ways-past depth (2 * i + 1) p (omega (arith, same)) in
        let none_right : ways depth (2 * i + 2) p ≡ 0 = ways-past depth (2 * i + 2) p (omega (arith, same)) in
        let one : one_if (2 * i + 1) c + one_if (2 * i + 2) c ≡ 1 = one_child same h in
        rw (ways-below (suc depth) i c lt, one_if-apart i c n, own) (omega (arith, left, right, none_left, none_right, one))
      where
        one_child : i ≡ p → IsChild c p → one_if (2 * i + 1) c + one_if (2 * i + 2) c ≡ 1
        one_child same (inl k) = rw (one_if-same (2 * i + 1) c (omega (arith, k, same)), one_if-apart (2 * i + 2) c (λ e. omega (arith, e, k, same))) (omega arith)
        one_child same (inr k) = rw (one_if-apart (2 * i + 1) c (λ e. omega (arith, e, k, same)), one_if-same (2 * i + 2) c (omega (arith, k, same))) (omega arith)
    go (inr n) (inl lt) (inr (inl below)) left right =
        let none_left : one_if (2 * i + 1) c ≡ 0 = one_if-apart (2 * i + 1) c (λ e. let s = same_parent c i p (inl (sym e)) h in omega (arith, below, s)) in
        let none_right : one_if (2 * i + 2) c ≡ 0 = one_if-apart (2 * i + 2) c (λ e. let s = same_parent c i p (inr (sym e)) h in omega (arith, below, s)) in
        rw (ways-below (suc depth) i c lt, one_if-apart i c n, ways-below depth i p below) (omega (arith, left, right, none_left, none_right))
    go (inr n) (inl lt) (inr (inr above)) left right =
        let none_left : one_if (2 * i + 1) c ≡ 0 = one_if-apart (2 * i + 1) c (λ e. let s = same_parent c i p (inl (sym e)) h in omega (arith, above, s)) in
        let none_right : one_if (2 * i + 2) c ≡ 0 = one_if-apart (2 * i + 2) c (λ e. let s = same_parent c i p (inr (sym e)) h in omega (arith, above, s)) in
        let past_left : ways depth (2 * i + 1) p ≡ 0 = ways-past depth (2 * i + 1) p (omega (arith, above)) in
        let past_right : ways depth (2 * i + 2) p ≡ 0 = ways-past depth (2 * i + 2) p (omega (arith, above)) in
        rw (ways-below (suc depth) i c lt, one_if-apart i c n, ways-past (suc depth) i p above) (omega (arith, left, right, none_left, none_right, past_left, past_right))

-- One way leads to each place from the first.
one_way : (depth k : ℕ) → k < depth → ways depth 0 k ≡ 1
one_way zero k lt = absurd (omega (arith, lt))
one_way (suc depth) k lt = go (cases_eq k 0) (one_way depth)
  where
    go : (k ≡ 0) ⊎ (k ≢ 0) → ((j : ℕ) → j < depth → ways depth 0 j ≡ 1) → ways (suc depth) 0 k ≡ 1
    go (inl e) ih = rw (e, ways-same depth 0) refl
    go (inr n) ih =
        let p = has_parent k (omega (arith, n)) in
        let up = ways-up depth 0 k p.0 p.1 in
        let apart = one_if-apart 0 k (λ e. n (sym e)) in
        let one = ih p.0 (omega (arith, p.2, lt)) in
        omega (arith, up, apart, one)

-- The sum over the tree below the first place is that over all places.
tree-total : (g : ℕ → ℕ) (n depth : ℕ) → n ≤ depth → tree g n depth 0 ≡ total g n
tree-total g zero depth le = tree-past g 0 depth 0 (omega arith)
tree-total g (suc n) depth le =
    let one = one_way depth n (omega (arith, le)) in
    let before = tree-total g n depth (omega (arith, le)) in
    tree-more g n depth 0 ∙ rw (one, before) (omega arith)

module _ (passes : ℕ → Bool) (len : ℕ) (within : (p : ℕ) → passes p ≡ true → p < len)
    (closed : (c p : ℕ) → IsChild c p → passes p ≡ false → passes c ≡ false) (weight : ℕ → ℕ) where
  abbrev kept : ℕ → ℕ
  kept p = cond (passes p) (weight p) 0

  -- Below a place that doesn't pass is nothing.
  tree-none : (depth i : ℕ) → passes i ≡ false → tree kept len depth i ≡ 0
  tree-none zero i e = refl
  tree-none (suc depth) i e = go (cases_lt i len) (tree-none depth (2 * i + 1) (closed (2 * i + 1) i (inl refl) e)) (tree-none depth (2 * i + 2) (closed (2 * i + 2) i (inr refl) e))
    where
      go : (i < len) ⊎ (len ≤ i) → tree kept len depth (2 * i + 1) ≡ 0 → tree kept len depth (2 * i + 2) ≡ 0 → tree kept len (suc depth) i ≡ 0
      go (inl lt) left right =
          let own : kept i ≡ 0 = ap (λ b. cond b (weight i) 0) e in
          tree-here kept len depth i lt ∙ omega (arith, own, left, right)
      go (inr le) left right = tree-past kept len (suc depth) i le

  -- The walk has what passes.
  walk-tree : (depth i : ℕ) → sum_by weight (downwards passes depth i) ≡ tree kept len depth i
  walk-tree zero i = refl
  walk-tree (suc depth) i = go (cases_Bool (passes i)) (walk-tree depth (2 * i + 1)) (walk-tree depth (2 * i + 2))
    where
      go : (passes i ≡ true) ⊎ (passes i ≡ false)
          → sum_by weight (downwards passes depth (2 * i + 1)) ≡ tree kept len depth (2 * i + 1)
          → sum_by weight (downwards passes depth (2 * i + 2)) ≡ tree kept len depth (2 * i + 2)
          → sum_by weight (downwards passes (suc depth) i) ≡ tree kept len (suc depth) i
      go (inl e) left right =
          let own : kept i ≡ weight i = ap (λ b. cond b (weight i) 0) e in
          let children = downwards passes depth (2 * i + 1) ++ downwards passes depth (2 * i + 2) in
          let sum : sum_by weight (i ∷ children) ≡ weight i + (sum_by weight (downwards passes depth (2 * i + 1)) + sum_by weight (downwards passes depth (2 * i + 2))) =
          sum_by-cons weight i children ∙ ap (λ n. weight i + n) (sum_by-append weight (downwards passes depth (2 * i + 1)) (downwards passes depth (2 * i + 2))) in
          ap (λ b. sum_by weight (cond b (i ∷ children) [])) e ∙ sum ∙ sym (tree-here kept len depth i (within i e) ∙ omega (arith, own, left, right))
      go (inr e) left right =
          ap (λ b. sum_by weight (cond b (i ∷ (downwards passes depth (2 * i + 1) ++ downwards passes depth (2 * i + 2))) [])) e ∙ sym (tree-none (suc depth) i e)

  pub walk-total : sum_by weight (downwards passes len 0) ≡ total (λ p. cond (passes p) (weight p) 0) len
  walk-total = walk-tree len 0 ∙ tree-total kept len len (omega arith)
