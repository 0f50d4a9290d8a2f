-- What ties the values, the keys and the timers after a row was taken out or written, and the rows that they then are.
use Rattle.std.proofs.Common.{◌≡◌, ◌≢◌, ℕ, ◌<◌, ◌⊎◌, inl, inr, List, length, set, cond, nat_eq, Option, Some, None, IsSome, option_map, refl, sym, ap, ◌∙◌, rules}
use Rattle.std.proofs.lemmas.Bool.{cases_eq}
use Rattle.std.proofs.lemmas.List.{length-set}
use Rattle.slab.specs.Slab.{Slab, get, Updates as SlabUpdates}
use Rattle.timer_queue.specs.declared.timer.Timer.{Timer}
use Rattle.timer_queue.specs.Order.{timer_at}
use Rattle.timed_table.specs.Row.{with_time, with_value, without}
use Rattle.timed_table.specs.Tied.{identifier_limit, key_of, row_at, row_at_key, all_rows, timer_named, IsTied}
use Rattle.timed_table.proofs.RowLemmas.{rows-changed, rows-without}
use Rattle.timed_table.proofs.TiedLemmas.{apart, same, some_same, none_some, time-named, name-named, time_of, row_made, timed, valued, row-names, same-row, timer-here, timer-other}

module _ {T : Type 0} where
  module _ (keys : List (ℕ × ℕ)) (values : Slab T) (timers : List (Option Timer)) (t : IsTied keys values timers) where
    -- An identifier that has a key.
    module _ (id key : ℕ) (at : key_of keys id ≡ Some key) where
      own_key : (q k : ℕ) → key_of keys q ≡ Some k → q ≢ id → k ≢ key
      own_key q k h n e = n (t.own q id k h (at ∙ ap Some (sym e)))

      inside : key < length timers
      inside = t.covered id key at

      -- Its row is taken out.
      module _ (new_keys : List (ℕ × ℕ)) (new_values : Slab T) (ix : (q : ℕ) → key_of new_keys q ≡ cond (nat_eq id q) None (key_of keys q)) (up : SlabUpdates values new_values key None) where
        gone : (q : ℕ) → id ≡ q → key_of new_keys q ≡ None
        gone q e = ix q ∙ ap (λ b. cond b None (key_of keys q)) (ap (nat_eq id) (sym e) ∙ same id)

        stays : (q : ℕ) → id ≢ q → key_of new_keys q ≡ key_of keys q
        stays q n = ix q ∙ ap (λ b. cond b None (key_of keys q)) (apart id q n)

        was_other : (q k : ℕ) → key_of new_keys q ≡ Some k → id ≢ q
        was_other q k h e = none_some (key_of new_keys q) k (gone q e) h

        was : (q k : ℕ) → key_of new_keys q ≡ Some k → key_of keys q ≡ Some k
        was q k h = sym (stays q (was_other q k h)) ∙ h

        pub tied-removed : IsTied new_keys new_values (set timers key None)
        tied-removed = record { held = held; own = own; drawn = drawn; covered = covered; named = named }
          where
            held : (q k : ℕ) → key_of new_keys q ≡ Some k → IsSome (get new_values k)
            held q k h = rw (up.others k (own_key q k (was q k h) (λ e. was_other q k h (sym e)))) (t.held q k (was q k h))

            own : (one other k : ℕ) → key_of new_keys one ≡ Some k → key_of new_keys other ≡ Some k → one ≡ other
            own one other k h j = t.own one other k (was one k h) (was other k j)

            drawn : (q k : ℕ) → key_of new_keys q ≡ Some k → q < identifier_limit
            drawn q k h = t.drawn q k (was q k h)

            covered : (q k : ℕ) → key_of new_keys q ≡ Some k → k < length (set timers key None)
            covered q k h = rw (length-set timers key None) (t.covered q k (was q k h))

            named : (k : ℕ) (u : Timer) → timer_at (set timers key None) k ≡ Some u → key_of new_keys u.name ≡ Some k
            named k u h = go (cases_eq k key)
              where
                go : (k ≡ key) ⊎ (k ≢ key) → key_of new_keys u.name ≡ Some k
                go (inl e) = absurd (none_some (timer_at (set timers key None) k) u (ap (timer_at (set timers key None)) e ∙ timer-here keys values timers t key None inside) h)
                go (inr n) =
                    let before : key_of keys u.name ≡ Some k = t.named k u (sym (timer-other keys values timers t key None inside k n) ∙ h) in
                    stays u.name (λ e. n (some_same k key (sym before ∙ ap (key_of keys) (sym e) ∙ at))) ∙ before

        pub rows-removed : all_rows new_keys new_values (set timers key None) ≡ without id (all_rows keys values timers)
        rows-removed = rows-without (row_at keys values timers) (row-names keys values timers) (row_at new_keys new_values (set timers key None)) id others left 0 identifier_limit
          where
            others : (q : ℕ) → q ≢ id → row_at new_keys new_values (set timers key None) q ≡ row_at keys values timers q
            others q n = ap (row_at_key new_values (set timers key None) q) (stays q (λ e. n (sym e))) ∙ go (key_of keys q) refl
              where
                go : (o : Option ℕ) → key_of keys q ≡ o → row_at_key new_values (set timers key None) q o ≡ row_at_key values timers q o
                go None e = refl
                go (Some k) e = same-row keys values timers t new_values (set timers key None) q k (up.others k (own_key q k e n)) (timer-other keys values timers t key None inside k (own_key q k e n))

            left : row_at new_keys new_values (set timers key None) id ≡ None
            left = ap (row_at_key new_values (set timers key None) id) (gone id refl)

      -- Its time is written.
      module _ (time : Option ℕ) where
        pub tied-timed : IsTied keys values (set timers key (timer_named id time))
        tied-timed = record { held = t.held; own = t.own; drawn = t.drawn; covered = covered; named = named }
          where
            covered : (q k : ℕ) → key_of keys q ≡ Some k → k < length (set timers key (timer_named id time))
            covered q k h = rw (length-set timers key (timer_named id time)) (t.covered q k h)

            named : (k : ℕ) (u : Timer) → timer_at (set timers key (timer_named id time)) k ≡ Some u → key_of keys u.name ≡ Some k
            named k u h = go (cases_eq k key)
              where
                go : (k ≡ key) ⊎ (k ≢ key) → key_of keys u.name ≡ Some k
                go (inl e) =
                    let at_key : timer_named id time ≡ Some u = sym (timer-here keys values timers t key (timer_named id time) inside) ∙ ap (timer_at (set timers key (timer_named id time))) (sym e) ∙ h in
                    ap (key_of keys) (sym (name-named id time u at_key)) ∙ at ∙ ap Some (sym e)
                go (inr n) = t.named k u (sym (timer-other keys values timers t key (timer_named id time) inside k n) ∙ h)

        pub rows-timed : all_rows keys values (set timers key (timer_named id time)) ≡ with_time id time (all_rows keys values timers)
        rows-timed = rows-changed (row_at keys values timers) (row-names keys values timers) (row_at keys values (set timers key (timer_named id time))) id others (timed time) here 0 identifier_limit
          where
            others : (q : ℕ) → q ≢ id → row_at keys values (set timers key (timer_named id time)) q ≡ row_at keys values timers q
            others q n = go (key_of keys q) refl
              where
                go : (o : Option ℕ) → key_of keys q ≡ o → row_at_key values (set timers key (timer_named id time)) q o ≡ row_at_key values timers q o
                go None e = refl
                go (Some k) e = same-row keys values timers t values (set timers key (timer_named id time)) q k refl (timer-other keys values timers t key (timer_named id time) inside k (own_key q k e n))

            here : row_at keys values (set timers key (timer_named id time)) id ≡ option_map (timed time) (row_at keys values timers id)
            here =
                ap (row_at_key values (set timers key (timer_named id time)) id) at
                ∙ ap (λ u. option_map (row_made id (time_of u)) (get values key)) (timer-here keys values timers t key (timer_named id time) inside)
                ∙ ap (λ w. option_map (row_made id w) (get values key)) (time-named id time)
                ∙ made (get values key)
                ∙ ap (λ o. option_map (timed time) (row_at_key values timers id o)) (sym at)
              where
                made : (o : Option T) → option_map (row_made id time) o
                    ≡ option_map (timed time) (option_map (row_made id (time_of (timer_at timers key))) o)
                made None = refl
                made (Some v) = refl

      -- Its value is written.
      module _ (new_values : Slab T) (value : T) (up : SlabUpdates values new_values key (Some value)) where
        pub tied-written : IsTied keys new_values timers
        tied-written = record { held = held; own = t.own; drawn = t.drawn; covered = t.covered; named = t.named }
          where
            held : (q k : ℕ) → key_of keys q ≡ Some k → IsSome (get new_values k)
            held q k h = go (cases_eq k key)
              where
                go : (k ≡ key) ⊎ (k ≢ key) → IsSome (get new_values k)
                go (inl e) = rw (e, up.changed) refl
                go (inr n) = rw (up.others k n) (t.held q k h)

        pub rows-written : all_rows keys new_values timers ≡ with_value id value (all_rows keys values timers)
        rows-written = rows-changed (row_at keys values timers) (row-names keys values timers) (row_at keys new_values timers) id others (valued value) here 0 identifier_limit
          where
            others : (q : ℕ) → q ≢ id → row_at keys new_values timers q ≡ row_at keys values timers q
            others q n = go (key_of keys q) refl
              where
                go : (o : Option ℕ) → key_of keys q ≡ o → row_at_key new_values timers q o ≡ row_at_key values timers q o
                go None e = refl
                go (Some k) e = same-row keys values timers t new_values timers q k (up.others k (own_key q k e n)) refl

            here : row_at keys new_values timers id ≡ option_map (valued value) (row_at keys values timers id)
            here =
                ap (row_at_key new_values timers id) at
                ∙ ap (λ o. option_map (row_made id (time_of (timer_at timers key))) o) up.changed
                ∙ made (get values key) (t.held id key at)
                ∙ ap (λ o. option_map (valued value) (row_at_key values timers id o)) (sym at)
              where
                made : (o : Option T) → IsSome o → Some (row_made id (time_of (timer_at timers key)) value)
                    ≡ option_map (valued value) (option_map (row_made id (time_of (timer_at timers key))) o)
                made None h = absurd (search (h, rules))
                made (Some v) h = refl

    -- An identifier without a key.
    pub rows-untimed : (id : ℕ) (time : Option ℕ) → key_of keys id ≡ None → all_rows keys values timers ≡ with_time id time (all_rows keys values timers)
    rows-untimed id time none = rows-changed (row_at keys values timers) (row-names keys values timers) (row_at keys values timers) id (λ q n. refl) (timed time) here 0 identifier_limit
      where
        here : row_at keys values timers id ≡ option_map (timed time) (row_at keys values timers id)
        here = rw none refl

    pub rows-unwritten : (id : ℕ) (value : T) → key_of keys id ≡ None → all_rows keys values timers ≡ with_value id value (all_rows keys values timers)
    rows-unwritten id value none = rows-changed (row_at keys values timers) (row-names keys values timers) (row_at keys values timers) id (λ q n. refl) (valued value) here 0 identifier_limit
      where
        here : row_at keys values timers id ≡ option_map (valued value) (row_at keys values timers id)
        here = rw none refl

    pub rows-unremoved : (id : ℕ) → key_of keys id ≡ None → all_rows keys values timers ≡ without id (all_rows keys values timers)
    rows-unremoved id none = rows-without (row_at keys values timers) (row-names keys values timers) (row_at keys values timers) id (λ q n. refl) here 0 identifier_limit
      where
        here : row_at keys values timers id ≡ None
        here = rw none refl
