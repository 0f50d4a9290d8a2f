-- The first timer is the least time of the rows.
use Rattle.std.proofs.Common.{◌≡◌, ℕ, List, false, Option, Some, None, refl, sym, ap, ◌∙◌, subst, rules}
use Rattle.slab.specs.Slab.{Slab}
use Rattle.timer_queue.specs.declared.timer.Timer.{Timer}
use Rattle.timer_queue.specs.Order.{timer_at, is_before as is_timer_before}
use Rattle.timer_queue.specs.Queue.{HasNoTimer, IsFirst as IsFirstItem}
use Rattle.timed_table.specs.Row.{row_of, time_in, HasNoTime, IsFirst, is_before}
use Rattle.timed_table.specs.Tied.{IsTied, all_rows, key_of}
use Rattle.timed_table.proofs.TiedLemmas.{time_of, time-is, time-none}

some_same : {X : Type 0} (a b : X) → Some a ≡ Some b → a ≡ b
some_same a b e = cc

module _ {T : Type 0} (keys : List (ℕ × ℕ)) (values : Slab T) (timers : List (Option Timer)) (t : IsTied keys values timers) where
  pub no-time : HasNoTimer timers → HasNoTime (all_rows keys values timers)
  no-time none id = go (key_of keys id) refl
    where
      go : (o : Option ℕ) → key_of keys id ≡ o → time_in (row_of id (all_rows keys values timers)) ≡ None
      go None e = time-none keys values timers t id e
      go (Some key) e = time-is keys values timers t id key e ∙ ap time_of (none key)

  -- A row that has a time has a timer of that time and its identifier.
  timer-of : (id time : ℕ) → time_in (row_of id (all_rows keys values timers)) ≡ Some time → (key : ℕ) × (timer_at timers key ≡ Some (record { time = time; name = id }))
  timer-of id time h = go (key_of keys id) refl
    where
      go : (o : Option ℕ) → key_of keys id ≡ o → (key : ℕ) × (timer_at timers key ≡ Some (record { time = time; name = id }))
      go None e = let bad = sym (time-none keys values timers t id e) ∙ h in absurd (search (bad, rules))
      go (Some key) e = (key, made (timer_at timers key) refl)
        where
          made : (o : Option Timer) → timer_at timers key ≡ o → timer_at timers key ≡ Some (record { time = time; name = id })
          made None k = let bad = sym (time-is keys values timers t id key e ∙ ap time_of k) ∙ h in absurd (search (bad, rules))
          made (Some u) k =
              let times : u.time ≡ time = some_same u.time time (sym (time-is keys values timers t id key e ∙ ap time_of k) ∙ h) in
              let names : u.name ≡ id = t.own u.name id key (t.named key u k) e in
              k ∙ (λ j. Some (record { time = times j; name = names j }))

  pub first-row : (key : ℕ) (u : Timer) → timer_at timers key ≡ Some u → IsFirstItem timers key → IsFirst (all_rows keys values timers) (u.time, u.name)
  first-row key u has first = record { has = time-is keys values timers t u.name key (t.named key u has) ∙ ap time_of has; least = least }
    where
      same : first.timer ≡ u
      same = some_same first.timer u (sym first.has ∙ has)

      least : (id time : ℕ) → time_in (row_of id (all_rows keys values timers)) ≡ Some time → is_before (time, id) (u.time, u.name) ≡ false
      least id time h =
          let other = timer-of id time h in
          subst (λ w. is_timer_before (record { time = time; name = id }) w ≡ false) same (first.least other.0 (record { time = time; name = id }) other.1)
