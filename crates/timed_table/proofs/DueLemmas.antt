-- What a weight sums to over the values that are due is the same by keys and by identifiers.
use Rattle.std.proofs.Common.{◌≡◌, ◌≢◌, ℕ, zero, suc, ◌+◌, ◌<◌, ◌≤◌, ◌⊎◌, inl, inr, List, [], ◌∷◌, length, filter, filter_map, true, false, cond, nat_eq, Option, Some, None, IsSome, option_map, refl, sym, ap, ◌∙◌, arith, rules, tests}
use Rattle.std.proofs.lemmas.Bool.{cases_eq}
use Rattle.std.proofs.lemmas.List.Sums.{sum_by-append, sum_by-cons}
use Rattle.std.proofs.lemmas.List.Sorted.{sum_by-IsPermutation}
use Rattle.std.specs.List.{sum_by, cons_option}
use Rattle.std.specs.List.Sorted.{IsPermutation}
use Rattle.slab.specs.Slab.{Slab, get}
use Rattle.timer_queue.proofs.CallerLemmas.{sum_by-map, sum_by-filter}
use Rattle.timer_queue.specs.declared.timer.Timer.{Timer}
use Rattle.timer_queue.specs.Due.{due_items}
use Rattle.timer_queue.specs.Heap.{up_to}
use Rattle.timer_queue.specs.Order.{timer_at, is_due as is_timer_due}
use Rattle.timed_table.specs.Row.{Row, is_due, due_values}
use Rattle.timed_table.specs.Tied.{IsTied, identifier_limit, key_of, row_at, row_at_key, rows_from, all_rows}

-- g low + g (low + 1) + .., so many of them
abbrev total_from : (ℕ → ℕ) → ℕ → ℕ → ℕ
total_from g low zero = 0
total_from g low (suc count) = g low + total_from g (low + 1) count

total-last : (g : ℕ → ℕ) (low count : ℕ) → total_from g low (suc count) ≡ total_from g low count + g (low + count)
total-last g low zero = let e : low + 0 ≡ low = omega arith in rw e (omega arith)
total-last g low (suc count) =
    let ih = total-last g (low + 1) count in
    let e : low + suc count ≡ low + 1 + count = omega arith in
    rw e (omega (arith, ih))

total-up_to : (g : ℕ → ℕ) (n : ℕ) → sum_by g (up_to n) ≡ total_from g 0 n
total-up_to g zero = refl
total-up_to g (suc n) =
    let ih = total-up_to g n in
    let more = sum_by-append g (up_to n) (n ∷ []) in
    let one = sum_by-cons g n [] in
    let last = total-last g 0 n in
    let e : 0 + n ≡ n = omega arith in
    let here : g (0 + n) ≡ g n = ap g e in
    more ∙ omega (arith, ih, one, last, here)

total-same : (g h : ℕ → ℕ) (low count : ℕ) → ((k : ℕ) → low ≤ k → k < low + count → g k ≡ h k) → total_from g low count ≡ total_from h low count
total-same g h low zero same = refl
total-same g h low (suc count) same =
    let here = same low (omega arith) (omega arith) in
    let rest = total-same g h (low + 1) count (λ k le lt. same k (omega (arith, le)) (omega (arith, lt))) in
    omega (arith, here, rest)

total-zero : (g : ℕ → ℕ) (low count : ℕ) → ((k : ℕ) → low ≤ k → k < low + count → g k ≡ 0) → total_from g low count ≡ 0
total-zero g low zero none = refl
total-zero g low (suc count) none =
    let here = none low (omega arith) (omega arith) in
    let rest = total-zero g (low + 1) count (λ k le lt. none k (omega (arith, le)) (omega (arith, lt))) in
    omega (arith, here, rest)

-- Where all others are zero the total is that one.
total-one : (g : ℕ → ℕ) (low count j : ℕ) → low ≤ j → j < low + count → ((k : ℕ) → k ≢ j → g k ≡ 0) → total_from g low count ≡ g j
total-one g low zero j le lt none = absurd (omega (arith, le, lt))
total-one g low (suc count) j le lt none = go (cases_eq low j) (total-one g (low + 1) count j)
  where
    go : (low ≡ j) ⊎ (low ≢ j) → (low + 1 ≤ j → j < low + 1 + count → ((k : ℕ) → k ≢ j → g k ≡ 0) → total_from g (low + 1) count ≡ g j) → g low + total_from g (low + 1) count ≡ g j
    go (inl e) ih =
        let here = ap g e in
        let rest = total-zero g (low + 1) count (λ k more _. none k (λ s. omega (arith, e, s, more))) in
        omega (arith, here, rest)
    go (inr n) ih =
        let here = none low n in
        let rest = ih (omega (arith, le, n)) (omega (arith, lt)) none in
        omega (arith, here, rest)

total-plus : (g h : ℕ → ℕ) (low count : ℕ) → total_from (λ k. g k + h k) low count ≡ total_from g low count + total_from h low count
total-plus g h low zero = omega arith
total-plus g h low (suc count) = let ih = total-plus g h (low + 1) count in omega (arith, ih)

-- A table of numbers sums to the same by its rows and by its columns.
total-swap : (m : ℕ → ℕ → ℕ) (low count first n : ℕ) → total_from (λ i. total_from (λ k. m k i) first n) low count ≡ total_from (λ k. total_from (λ i. m k i) low count) first n
total-swap m low zero first n = sym (total-zero (λ k. 0) first n (λ k le lt. refl))
total-swap m low (suc count) first n =
    ap (λ x. total_from (λ k. m k low) first n + x) (total-swap m (low + 1) count first n) ∙ sym (total-plus (λ k. m k low) (λ k. total_from (λ i. m k i) (low + 1) count) first n)

module _ {T : Type 0} (weight : T → ℕ) where
  -- The weight of a value that there may be.
  abbrev weigh : Option T → ℕ
  weigh None = 0
  weigh (Some v) = weight v

  -- The weight of a row that is due, if there is one.
  abbrev weigh_row : ℕ → Option (Row T) → ℕ
  weigh_row moment None = 0
  weigh_row moment (Some r) = cond (is_due moment r.time) (weight r.value) 0

  sum-found : (found : ℕ → Option T) (ks : List ℕ) → sum_by weight (filter_map found ks) ≡ sum_by (λ k. weigh (found k)) ks
  sum-found found [] = refl
  sum-found found (k ∷ ks) = go (found k) refl (sum-found found ks)
    where
      go : (o : Option T) → found k ≡ o → sum_by weight (filter_map found ks) ≡ sum_by (λ j. weigh (found j)) ks → sum_by weight (filter_map found (k ∷ ks)) ≡ sum_by (λ j. weigh (found j)) (k ∷ ks)
      go None e ih = ap (λ o. sum_by weight (cons_option o (filter_map found ks))) e ∙ ih ∙ sym (sum_by-cons (λ j. weigh (found j)) k ks ∙ ap (λ o. weigh o + sum_by (λ j. weigh (found j)) ks) e ∙ omega arith)
      go (Some v) e ih =
          ap (λ o. sum_by weight (cons_option o (filter_map found ks))) e ∙ sum_by-cons weight v (filter_map found ks) ∙ ap (λ n. weight v + n) ih
          ∙ sym (sum_by-cons (λ j. weigh (found j)) k ks ∙ ap (λ o. weigh o + sum_by (λ j. weigh (found j)) ks) e)

  sum-rows : (moment : ℕ) (at : ℕ → Option (Row T)) (low count : ℕ) → sum_by (λ r. cond (is_due moment r.time) (weight r.value) 0) (rows_from at low count) ≡ total_from (λ id. weigh_row moment (at id)) low count
  sum-rows moment at low zero = refl
  sum-rows moment at low (suc count) = go (at low) refl (sum-rows moment at (low + 1) count)
    where
      go : (o : Option (Row T)) → at low ≡ o → sum_by (λ r. cond (is_due moment r.time) (weight r.value) 0) (rows_from at (low + 1) count) ≡ total_from (λ id. weigh_row moment (at id)) (low + 1) count
          → sum_by (λ r. cond (is_due moment r.time) (weight r.value) 0) (cons_option (at low) (rows_from at (low + 1) count)) ≡ weigh_row moment (at low) + total_from (λ id. weigh_row moment (at id)) (low + 1) count
      go None e ih = rw e (ih ∙ omega arith)
      go (Some r) e ih = rw e (sum_by-cons (λ r. cond (is_due moment r.time) (weight r.value) 0) r (rows_from at (low + 1) count) ∙ ap (λ n. cond (is_due moment r.time) (weight r.value) 0 + n) ih)

  module _ (moment : ℕ) (keys : List (ℕ × ℕ)) (values : Slab T) (timers : List (Option Timer)) (t : IsTied keys values timers) where
    -- The weight at a key that is due.
    abbrev at_key : ℕ → ℕ
    at_key k = cond (is_timer_due moment (timer_at timers k)) (weigh (get values k)) 0

    -- The same, at the identifier that has the key.
    abbrev at_both : ℕ → Option ℕ → ℕ
    at_both k None = 0
    at_both k (Some j) = cond (nat_eq j k) (at_key k) 0

    both-here : (k : ℕ) → at_both k (Some k) ≡ at_key k
    both-here k = let e : nat_eq k k ≡ true = grind (arith, tests) in ap (λ b. cond b (at_key k) 0) e

    both-apart : (k j : ℕ) → j ≢ k → at_both k (Some j) ≡ 0
    both-apart k j n = let e : nat_eq j k ≡ false = grind (arith, tests, n) in ap (λ b. cond b (at_key k) 0) e

    some_same : {X : Type 0} (a b : X) → Some a ≡ Some b → a ≡ b
    some_same a b e = cc

    -- By identifiers.
    by_key : (k : ℕ) → total_from (λ id. at_both k (key_of keys id)) 0 identifier_limit ≡ at_key k
    by_key k = go (timer_at timers k) refl
      where
        none : timer_at timers k ≡ None → (o : Option ℕ) → at_both k o ≡ 0
        none e None = refl
        none e (Some j) = go (cases_eq j k)
          where
            go : (j ≡ k) ⊎ (j ≢ k) → at_both k (Some j) ≡ 0
            go (inl s) = ap (λ i. at_both k (Some i)) s ∙ both-here k ∙ ap (λ u. cond (is_timer_due moment u) (weigh (get values k)) 0) e
            go (inr n) = both-apart k j n

        go : (o : Option Timer) → timer_at timers k ≡ o → total_from (λ id. at_both k (key_of keys id)) 0 identifier_limit ≡ at_key k
        go None e = total-zero (λ id. at_both k (key_of keys id)) 0 identifier_limit (λ id le lt. none e (key_of keys id)) ∙ sym (ap (λ u. cond (is_timer_due moment u) (weigh (get values k)) 0) e)
        go (Some u) e =
            let named = t.named k u e in
            let drawn = t.drawn u.name k named in
            total-one (λ id. at_both k (key_of keys id)) 0 identifier_limit u.name (omega arith) (omega (arith, drawn)) others ∙ ap (at_both k) named ∙ both-here k
          where
            others : (id : ℕ) → id ≢ u.name → at_both k (key_of keys id) ≡ 0
            others id n = by (key_of keys id) refl
              where
                by : (o : Option ℕ) → key_of keys id ≡ o → at_both k (key_of keys id) ≡ 0
                by None h = ap (at_both k) h
                by (Some j) h = ap (at_both k) h ∙ both-apart k j (λ s. n (t.own id u.name k (h ∙ ap Some s) (t.named k u e)))

    due-time : (u : Option Timer) → is_due moment (option_map (λ (w : Timer). w.time) u) ≡ is_timer_due moment u
    due-time None = refl
    due-time (Some u) = refl

    -- By keys.
    by_identifier : (id : ℕ) → total_from (λ k. at_both k (key_of keys id)) 0 (length timers) ≡ weigh_row moment (row_at keys values timers id)
    by_identifier id = go (key_of keys id) refl
      where
        made : (key : ℕ) (o : Option T) → IsSome o → cond (is_timer_due moment (timer_at timers key)) (weigh o) 0
            ≡ weigh_row moment (option_map (λ value. record { identifier = id; value = value; time = option_map (λ (w : Timer). w.time) (timer_at timers key) }) o)
        made key None h = absurd (search (h, rules))
        made key (Some v) h = ap (λ b. cond b (weight v) 0) (sym (due-time (timer_at timers key)))

        go : (o : Option ℕ) → key_of keys id ≡ o → total_from (λ k. at_both k (key_of keys id)) 0 (length timers) ≡ weigh_row moment (row_at keys values timers id)
        go None e = total-zero (λ k. at_both k (key_of keys id)) 0 (length timers) (λ k le lt. ap (at_both k) e) ∙ sym (ap (λ o. weigh_row moment (row_at_key values timers id o)) e)
        go (Some key) e =
            let covered = t.covered id key e in
            total-one (λ k. at_both k (key_of keys id)) 0 (length timers) key (omega arith) (omega (arith, covered)) (λ k n. ap (at_both k) e ∙ both-apart k key (λ s. n (sym s)))
            ∙ ap (at_both key) e
            ∙ both-here key
            ∙ made key (get values key) (t.held id key e)
            ∙ sym (ap (λ o. weigh_row moment (row_at_key values timers id o)) e)

    -- What the walk over the keys that are due gives.
    pub due-sum : (ks : List ℕ) → IsPermutation (due_items moment timers) ks → sum_by weight (filter_map (get values) ks) ≡ sum_by weight (due_values moment (all_rows keys values timers))
    due-sum ks shuffled =
        let found : sum_by weight (filter_map (get values) ks) ≡ sum_by (λ k. weigh (get values k)) ks = sum-found (get values) ks in
        let same : sum_by (λ k. weigh (get values k)) ks ≡ sum_by (λ k. weigh (get values k)) (due_items moment timers) = sum_by-IsPermutation (λ k. weigh (get values k)) (due_items moment timers) ks shuffled in
        let kept : sum_by (λ k. weigh (get values k)) (due_items moment timers) ≡ sum_by at_key (up_to (length timers)) = sum_by-filter (λ k. weigh (get values k)) (λ k. is_timer_due moment (timer_at timers k)) (up_to (length timers)) in
        let totals : sum_by at_key (up_to (length timers)) ≡ total_from at_key 0 (length timers) = total-up_to at_key (length timers) in
        let keyed : total_from (λ k. total_from (λ id. at_both k (key_of keys id)) 0 identifier_limit) 0 (length timers) ≡ total_from at_key 0 (length timers) =
        total-same (λ k. total_from (λ id. at_both k (key_of keys id)) 0 identifier_limit) at_key 0 (length timers) (λ k le lt. by_key k) in
        let swapped = total-swap (λ k id. at_both k (key_of keys id)) 0 identifier_limit 0 (length timers) in
        let listed : total_from (λ id. total_from (λ k. at_both k (key_of keys id)) 0 (length timers)) 0 identifier_limit ≡ total_from (λ id. weigh_row moment (row_at keys values timers id)) 0 identifier_limit =
        total-same (λ id. total_from (λ k. at_both k (key_of keys id)) 0 (length timers)) (λ id. weigh_row moment (row_at keys values timers id)) 0 identifier_limit (λ id le lt. by_identifier id) in
        let rows = sum-rows moment (row_at keys values timers) 0 identifier_limit in
        let due = sum_by-filter (λ (r : Row T). weight r.value) (λ r. is_due moment r.time) (all_rows keys values timers) in
        let mapped = sum_by-map weight (λ (r : Row T). r.value) (filter (λ r. is_due moment r.time) (all_rows keys values timers)) in
        found ∙ same ∙ kept ∙ totals ∙ sym keyed ∙ sym swapped ∙ listed ∙ sym rows ∙ sym due ∙ sym mapped
