-- What ties the values, the keys and the timers after a row came, and the rows that they then are.
use Rattle.std.proofs.Common.{◌≡◌, ◌≢◌, ℕ, ◌<◌, ◌⊎◌, inl, inr, List, [], ◌∷◌, ◌++◌, length, set, cond, nat_eq, Option, Some, None, IsSome, option_map, refl, sym, ap, ◌∙◌, arith, rules}
use Rattle.std.proofs.lemmas.Bool.{cases_eq}
use Rattle.std.proofs.lemmas.List.{length-set}
use Rattle.slab.specs.Slab.{Slab, get, Updates as SlabUpdates}
use Rattle.timer_queue.specs.declared.timer.Timer.{Timer}
use Rattle.timer_queue.specs.Order.{timer_at}
use Rattle.timed_table.specs.Row.{AllBelow}
use Rattle.timed_table.specs.Tied.{identifier_limit, key_of, row_at, row_at_key, all_rows, timer_named, IsTied}
use Rattle.timed_table.proofs.RowLemmas.{rows-added}
use Rattle.timed_table.proofs.TiedLemmas.{apart, same, some_same, none_some, time-named, name-named, time_of, row_made, row-names, row-above, key-above, same-row, timer-here, timer-other}

module _ {T : Type 0} where
  module _ (keys : List (ℕ × ℕ)) (values : Slab T) (timers : List (Option Timer)) (t : IsTied keys values timers) where
    -- A new row.
    module _ (new_keys : List (ℕ × ℕ)) (new_values : Slab T) (id key : ℕ) (value : T) (time : Option ℕ) (within : key < length timers) (small : id < identifier_limit)
        (ix : (q : ℕ) → key_of new_keys q ≡ cond (nat_eq id q) (Some key) (key_of keys q)) (up : SlabUpdates values new_values key (Some value)) (vacant : get values key ≡ None)
        (below : AllBelow id (all_rows keys values timers)) where
      times : List (Option Timer)
      times = set timers key (timer_named id time)

      at_id : (q : ℕ) → id ≡ q → key_of new_keys q ≡ Some key
      at_id q e = ix q ∙ ap (λ b. cond b (Some key) (key_of keys q)) (ap (nat_eq id) (sym e) ∙ same id)

      beside : (q : ℕ) → id ≢ q → key_of new_keys q ≡ key_of keys q
      beside q n = ix q ∙ ap (λ b. cond b (Some key) (key_of keys q)) (apart id q n)

      other_key : (q k : ℕ) → key_of keys q ≡ Some k → k ≢ key
      other_key q k h e = none-is (get values k) (ap (get values) e ∙ vacant) (t.held q k h)
        where
          none-is : (o : Option T) → o ≡ None → IsSome o → ⊥
          none-is None e h = search (h, rules)
          none-is (Some r) e h = search (e, rules)

      pub tied-added : IsTied new_keys new_values (set timers key (timer_named id time))
      tied-added = record { held = held; own = own; drawn = drawn; covered = covered; named = named }
        where
          held : (q k : ℕ) → key_of new_keys q ≡ Some k → IsSome (get new_values k)
          held q k h = go (cases_eq id q)
            where
              go : (id ≡ q) ⊎ (id ≢ q) → IsSome (get new_values k)
              go (inl e) = let is : key ≡ k = some_same key k (sym (at_id q e) ∙ h) in rw (← is, up.changed) refl
              go (inr n) = let was : key_of keys q ≡ Some k = sym (beside q n) ∙ h in rw (up.others k (other_key q k was)) (t.held q k was)

          own : (one other k : ℕ) → key_of new_keys one ≡ Some k → key_of new_keys other ≡ Some k → one ≡ other
          own one other k h j = go (cases_eq id one) (cases_eq id other)
            where
              go : (id ≡ one) ⊎ (id ≢ one) → (id ≡ other) ⊎ (id ≢ other) → one ≡ other
              go (inl e) (inl d) = sym e ∙ d
              go (inl e) (inr n) = absurd (other_key other k (sym (beside other n) ∙ j) (sym (some_same key k (sym (at_id one e) ∙ h))))
              go (inr n) (inl d) = absurd (other_key one k (sym (beside one n) ∙ h) (sym (some_same key k (sym (at_id other d) ∙ j))))
              go (inr n) (inr m) = t.own one other k (sym (beside one n) ∙ h) (sym (beside other m) ∙ j)

          drawn : (q k : ℕ) → key_of new_keys q ≡ Some k → q < identifier_limit
          drawn q k h = go (cases_eq id q)
            where
              go : (id ≡ q) ⊎ (id ≢ q) → q < identifier_limit
              go (inl e) = omega (arith, small, e)
              go (inr n) = t.drawn q k (sym (beside q n) ∙ h)

          covered : (q k : ℕ) → key_of new_keys q ≡ Some k → k < length (set timers key (timer_named id time))
          covered q k h = rw (length-set timers key (timer_named id time)) (go (cases_eq id q))
            where
              go : (id ≡ q) ⊎ (id ≢ q) → k < length timers
              go (inl e) = let is : key ≡ k = some_same key k (sym (at_id q e) ∙ h) in omega (arith, within, is)
              go (inr n) = t.covered q k (sym (beside q n) ∙ h)

          named : (k : ℕ) (u : Timer) → timer_at (set timers key (timer_named id time)) k ≡ Some u → key_of new_keys u.name ≡ Some k
          named k u h = go (cases_eq k key)
            where
              go : (k ≡ key) ⊎ (k ≢ key) → key_of new_keys u.name ≡ Some k
              go (inl e) =
                  let at_key : timer_named id time ≡ Some u = sym (timer-here keys values timers t key (timer_named id time) within) ∙ ap (timer_at (set timers key (timer_named id time))) (sym e) ∙ h in
                  at_id u.name (name-named id time u at_key) ∙ ap Some (sym e)
              go (inr n) =
                  let was : key_of keys u.name ≡ Some k = t.named k u (sym (timer-other keys values timers t key (timer_named id time) within k n) ∙ h) in
                  beside u.name (λ e. none_some (key_of keys id) k (key-above keys values timers t id below) (ap (key_of keys) e ∙ was)) ∙ was

      pub rows-inserted : all_rows new_keys new_values (set timers key (timer_named id time)) ≡ all_rows keys values timers ++ record { identifier = id; value = value; time = time } ∷ []
      rows-inserted = rows-added (row_at keys values timers) (row-names keys values timers) (row_at new_keys new_values (set timers key (timer_named id time))) id others (record { identifier = id; value = value; time = time }) come (row-above keys values timers t id below) 0 identifier_limit (omega arith) (omega (arith, small))
        where
          others : (q : ℕ) → q ≢ id → row_at new_keys new_values (set timers key (timer_named id time)) q ≡ row_at keys values timers q
          others q n = ap (row_at_key new_values (set timers key (timer_named id time)) q) (beside q (λ e. n (sym e))) ∙ go (key_of keys q) refl
            where
              go : (o : Option ℕ) → key_of keys q ≡ o → row_at_key new_values (set timers key (timer_named id time)) q o ≡ row_at_key values timers q o
              go None e = refl
              go (Some k) e = same-row keys values timers t new_values (set timers key (timer_named id time)) q k (up.others k (other_key q k e)) (timer-other keys values timers t key (timer_named id time) within k (other_key q k e))

          come : row_at new_keys new_values (set timers key (timer_named id time)) id ≡ Some (record { identifier = id; value = value; time = time })
          come =
              ap (row_at_key new_values (set timers key (timer_named id time)) id) (at_id id refl)
              ∙ ap (λ o. option_map (row_made id (time_of (timer_at (set timers key (timer_named id time)) key))) o) up.changed
              ∙ ap (λ u. Some (row_made id (time_of u) value)) (timer-here keys values timers t key (timer_named id time) within)
              ∙ ap (λ w. Some (row_made id w value)) (time-named id time)
