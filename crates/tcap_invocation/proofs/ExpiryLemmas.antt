-- The first timer runs out: what it was of is told first, and the rest from then on is the same.
use Rattle.std.proofs.Common.{◌≡◌, ℕ, suc, ◌<◌, ◌≤◌, Bool, true, false, cond, List, [], ◌∷◌, length, filter, Option, Some, None, refl, ap, sym, subst, ◌∙◌, arith, tests, nat_lt, nat_le}
use Rattle.std.specs.Prelude.{filter_map}
use Rattle.std.specs.List.{cons_option}
use Rattle.std.specs.Option.{option_map}
use Rattle.tcap_invocation.specs.declared.invocations.lapse.Expiry.TheVariants.{Lapse as Lapses, Wait}
use Rattle.tcap_invocation.specs.declared.invocations.lapse.Lapse.{Lapse}
use Rattle.tcap_invocation.specs.declared.invocations.timers.Timer.{Timer}
use Rattle.tcap_invocation.specs.declared.stage.Stage.{Stage}
use Rattle.tcap_invocation.specs.declared.stage.Stage.TheVariants.{Queued, Sent, Waiting}
use Rattle.tcap_invocation.specs.Expiries.{reached_any, first_expiry_at, after_expiry, WasNext, RunsOut}
use Rattle.tcap_invocation.specs.Invocations.{Row, InvocationList, IsSound, with_rows, without}
use Rattle.tcap_invocation.specs.Lapses.{due_deadline, lapse_with, lapse_of, due_at, first_due_at, is_before, is_held, stays}
use Rattle.tcap_invocation.specs.Order.{in_order_by, first_of}
use Rattle.tcap_invocation.specs.TimerList.{is_over, lapse_at_time, timers_at, told_of_timer}
use Rattle.tcap_invocation.specs.Timers.{next_timer_at}
use Rattle.tcap_invocation.proofs.LapseLemmas.{numbered_due}
use Rattle.tcap_invocation.proofs.OverLemmas.{over-entry, held-without, length-without}
use Rattle.tcap_invocation.proofs.TellingLemmas.{lapse_at-first, told_at-without, filter-without, lapse-entry}
use Rattle.tcap_invocation.proofs.TimelyLemmas.{next_timer_at-timers, told_at-timers}

-- ---- waits that are over

-- Without those as much is due.
due-held : (clock now : ℕ) (rows : List Row) → due_at now (filter (λ r. is_held clock r.1.stage) rows) ≡ due_at now rows
due-held clock now [] = refl
due-held clock now (r ∷ rs) = go r.1.stage refl (due-held clock now rs)
  where
    kept : List Row
    kept = filter (λ r. is_held clock r.1.stage) rs

    more : due_at now kept ≡ due_at now rs → due_at now (r ∷ kept) ≡ due_at now (r ∷ rs)
    more ih = ap (cons_option (lapse_of now r)) ih

    go : (s : Stage) → r.1.stage ≡ s → due_at now kept ≡ due_at now rs → due_at now (cond (is_held clock s) (r ∷ kept) kept) ≡ due_at now (r ∷ rs)
    go (Queued timeout) e ih = more ih
    go (Sent deadline) e ih = more ih
    go (Waiting until) e ih = wait (nat_lt clock until)
      where
        wait : (b : Bool) → due_at now (cond b (r ∷ kept) kept) ≡ due_at now (r ∷ rs)
        wait true = more ih
        wait false = ih ∙ ap (λ s. cons_option (lapse_with r.0 r.1.number (due_deadline now s)) (due_at now rs)) (sym e)

-- A later moment leaves the same.
stays-held : (clock now : ℕ) (rows : List Row) → clock ≤ now → filter (λ r. stays now r.1.stage) (filter (λ r. is_held clock r.1.stage) rows) ≡ filter (λ r. stays now r.1.stage) rows
stays-held clock now [] late = refl
stays-held clock now (r ∷ rs) late = go r.1.stage refl (stays-held clock now rs late)
  where
    kept : List Row
    kept = filter (λ r. is_held clock r.1.stage) rs

    left : List Row
    left = filter (λ r. stays now r.1.stage) rs

    more : filter (λ r. stays now r.1.stage) kept ≡ left → filter (λ r. stays now r.1.stage) (r ∷ kept) ≡ cond (stays now r.1.stage) (r ∷ left) left
    more ih = ap (λ (l : List Row). cond (stays now r.1.stage) (r ∷ l) l) ih

    go : (s : Stage) → r.1.stage ≡ s → filter (λ r. stays now r.1.stage) kept ≡ left
        → filter (λ r. stays now r.1.stage) (cond (is_held clock s) (r ∷ kept) kept) ≡ cond (stays now r.1.stage) (r ∷ left) left
    go (Queued timeout) e ih = more ih
    go (Sent deadline) e ih = more ih
    go (Waiting until) e ih = wait (nat_lt clock until) refl
      where
        wait : (b : Bool) → nat_lt clock until ≡ b → filter (λ r. stays now r.1.stage) (cond b (r ∷ kept) kept) ≡ cond (stays now r.1.stage) (r ∷ left) left
        wait true d = more ih
        wait false d =
            let over : nat_lt now until ≡ false = grind (arith, tests, d, late) in
            ih ∙ ap (λ b. cond b (r ∷ left) left) (sym (ap (stays now) e ∙ over))

length-held : (clock : ℕ) (rows : List Row) → length (filter (λ r. is_held clock r.1.stage) rows) ≤ length rows
length-held clock [] = omega arith
length-held clock (r ∷ rs) = go (is_held clock r.1.stage) (length-held clock rs)
  where
    kept : List Row
    kept = filter (λ r. is_held clock r.1.stage) rs

    go : (b : Bool) → length kept ≤ length rs → length (cond b (r ∷ kept) kept) ≤ suc (length rs)
    go true h = omega (arith, h)
    go false h = omega (arith, h)

-- what lapses is told, and a wait that is over is one
told-front : (now : ℕ) (t : Timer) (ts : List Timer) → t.lapses ≡ true → nat_le t.time now ≡ true → first_of (filter_map (told_of_timer now) (t ∷ ts)) ≡ Some (lapse_at_time t)
told-front now t ts sent by = rw (sent, by) refl

over-front : (clock : ℕ) (t : Timer) (ts : List Timer) → t.lapses ≡ false → nat_le t.time clock ≡ true → first_of (filter (is_over clock) (t ∷ ts)) ≡ Some t
over-front clock t ts wait come = rw (wait, come) refl

-- ---- each expiry

module _ (list : InvocationList) (clock : ℕ) (sound : IsSound list) where
  next : (o : Option Timer) → first_of (timers_at list.rows) ≡ o → option_map (λ (t : Timer). t.time) o ≡ next_timer_at list.rows
  next o first = ap (option_map (λ (t : Timer). t.time)) (sym first) ∙ next_timer_at-timers list.rows

  nothing : WasNext clock None (next_timer_at list.rows) → RunsOut clock None list (after_expiry list clock None)
  nothing behind = record { next = behind; deadline = tt; told = λ now late. refl; rest = λ now late. refl; fewer = λ some. absurd cc }

  module _ (t : Timer) (first : first_of (timers_at list.rows) ≡ Some t) (come : nat_le t.time clock ≡ true) where
    -- it lapses
    module _ (sent : t.lapses ≡ true) where
      abbrev l : Lapse
      l = lapse_at_time t

      due : (now : ℕ) → clock ≤ now → first_due_at now list.rows ≡ Some l
      due now late =
          ap first_of (sym (told_at-timers now list.rows)) ∙ head (timers_at list.rows) first
        where
          head : (ts : List Timer) → first_of ts ≡ Some t → first_of (filter_map (told_of_timer now) ts) ≡ Some l
          head [] e = absurd cc
          head (u ∷ us) e =
              let by : nat_le t.time now ≡ true = grind (arith, tests, come, late) in
              let same : u ≡ t = cc in
              subst (λ (u : Timer). first_of (filter_map (told_of_timer now) (u ∷ us)) ≡ Some l) (sym same) (told-front now t us sent by)

      lapsed : RunsOut clock (Some (Lapses l)) list (after_expiry list clock (Some (Lapses l)))
      lapsed = record {
        next = sym (next (Some t) first);
        deadline = grind (arith, tests, come);
        told = λ now late. told_at-without now list.rows l (numbered_due now list.rows sound.in_order) sound.distinct (due now late);
        rest = λ now late. ap (with_rows list) (filter-without now l.id l list.rows (lapse_at-first now list.rows l (numbered_due now list.rows sound.in_order) sound.distinct (due now late)));
        fewer = λ some.
            let late : clock ≤ clock = omega arith in
            let entry = lapse-entry clock list.rows l.id l (lapse_at-first clock list.rows l (numbered_due clock list.rows sound.in_order) sound.distinct (due clock late)) in
            length-without clock l.id entry.0 list.rows entry.1;
      }

    -- a wait is over
    waited : t.lapses ≡ false → RunsOut clock (Some Wait) list (after_expiry list clock (Some Wait))
    waited wait = record {
      next = subst (λ (o : Option ℕ). WasNext clock (Some Wait) o) (next (Some t) first) refl;
      deadline = tt;
      told = λ now late. ap (in_order_by is_before) (sym (due-held clock now list.rows));
      rest = λ now late. ap (with_rows list) (stays-held clock now list.rows late);
      fewer = λ some.
          let entry = over-entry clock list.rows t sound.distinct (over (timers_at list.rows) first) in
          let left = ap length (held-without clock t.id entry.0 list.rows entry.1 entry.2) in
          let most = length-held clock (without list.rows t.id) in
          let less = length-without clock t.id entry.0 list.rows entry.1 in
          omega (arith, left, most, less);
    }
      where
        over : (ts : List Timer) → first_of ts ≡ Some t → first_of (filter (is_over clock) ts) ≡ Some t
        over [] e = absurd cc
        over (u ∷ us) e =
            let same : u ≡ t = cc in
            subst (λ (u : Timer). first_of (filter (is_over clock) (u ∷ us)) ≡ Some t) (sym same) (over-front clock t us wait come)

  pub runs-out : RunsOut clock (first_expiry_at clock list.rows) list (after_expiry list clock (first_expiry_at clock list.rows))
  runs-out = go (first_of (timers_at list.rows)) refl
    where
      go : (o : Option Timer) → first_of (timers_at list.rows) ≡ o → RunsOut clock (reached_any clock o) list (after_expiry list clock (reached_any clock o))
      go None first = nothing (subst (λ (o : Option ℕ). WasNext clock None o) (next None first) tt)
      go (Some t) first = by (nat_le t.time clock) t.lapses refl refl
        where
          by : (b c : Bool) → nat_le t.time clock ≡ b → t.lapses ≡ c
              → RunsOut clock (cond b (Some (cond c (Lapses (lapse_at_time t)) Wait)) None) list (after_expiry list clock (cond b (Some (cond c (Lapses (lapse_at_time t)) Wait)) None))
          by true true come sent = lapsed t first come sent
          by true false come wait = waited t first come wait
          by false c late kind =
              let behind : clock < t.time = grind (arith, tests, late) in
              nothing (subst (λ (o : Option ℕ). WasNext clock None o) (next (Some t) first) behind)
