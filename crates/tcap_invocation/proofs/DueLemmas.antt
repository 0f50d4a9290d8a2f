-- What stands in front of timers in order once their time has come, and what stands behind it.
use Rattle.std.proofs.Common.{◌≡◌, ℕ, ◌<◌, Bool, true, false, cond, List, [], ◌∷◌, length, drop, filter, refl, ap, sym, ◌∙◌, arith, tests, nat_lt, nat_le, ◌||◌}
use Rattle.std.specs.Prelude.{filter_map}
use Rattle.tcap_invocation.specs.declared.invocations.lapse.Lapse.{Lapse}
use Rattle.tcap_invocation.specs.declared.invocations.timers.Timer.{Timer}
use Rattle.tcap_invocation.specs.Order.{first_of}
use Rattle.tcap_invocation.specs.Invocations.{Row, InvocationList, with_rows}
use Rattle.tcap_invocation.specs.Lapses.{due_at, told_at, after_lapse}
use Rattle.tcap_invocation.specs.TimerList.{IsInOrder, is_earlier, timer_of, timers_at, told_of_timer, is_later, is_kept, is_over, is_first_over, has_come}
use Rattle.tcap_invocation.proofs.InsertionLemmas.{Ahead, ordered_in_order}
use Rattle.tcap_invocation.proofs.SortLemmas.{filter-dropped, in_order-fixed}
use Rattle.tcap_invocation.proofs.TellingLemmas.{after_lapse-none}
use Rattle.tcap_invocation.proofs.TimelyLemmas.{told_at-timers, due_at-timers, held-all}
use Rattle.tcap_invocation.proofs.TimerLemmas.{earlier_once, not_earlier, IsInOrder-tail, ordered, untold-later}

pub IsInOrder-drop : (ts : List Timer) → IsInOrder ts → IsInOrder (drop 1 ts)
IsInOrder-drop [] o = o
IsInOrder-drop (t ∷ ts) o = IsInOrder-tail t ts o

module _ (clock : ℕ) where
  -- one whose time has come isn't later, and one of a wait that is over isn't kept
  later-false : (t : Timer) → nat_le t.time clock ≡ true → is_later clock t ≡ false
  later-false t come = grind (arith, tests, come)

  kept-false : (t : Timer) → is_over clock t ≡ true → is_kept clock t ≡ false
  kept-false t over = go t.lapses over
    where
      go : (b : Bool) → cond b false (nat_le t.time clock) ≡ true → (b || nat_lt clock t.time) ≡ false
      go true e = absurd cc
      go false e = grind (arith, tests, e)

  pub later-true : (t : Timer) → nat_le t.time clock ≡ false → is_later clock t ≡ true
  later-true t late = grind (arith, tests, late)

  pub kept-true : (t : Timer) → nat_le t.time clock ≡ false → is_kept clock t ≡ true
  kept-true t late = go t.lapses
    where
      go : (b : Bool) → (b || nat_lt clock t.time) ≡ true
      go true = refl
      go false = grind (arith, tests, late)

  -- so without the first as much is left, and one less
  pub filter-due : (ts : List Timer) → has_come clock (first_of ts) ≡ true → filter (is_later clock) (drop 1 ts) ≡ filter (is_later clock) ts
  filter-due [] come = absurd cc
  filter-due (t ∷ ts) come = sym (filter-dropped (is_later clock) t ts (later-false t come))

  pub filter-over : (ts : List Timer) → is_first_over clock (first_of ts) ≡ true → filter (is_kept clock) (drop 1 ts) ≡ filter (is_kept clock) ts
  filter-over [] over = absurd cc
  filter-over (t ∷ ts) over = sym (filter-dropped (is_kept clock) t ts (kept-false t over))

  pub length-due : (ts : List Timer) → has_come clock (first_of ts) ≡ true → length (drop 1 ts) < length ts
  length-due [] come = absurd cc
  length-due (t ∷ ts) come = omega arith

  pub length-over : (ts : List Timer) → is_first_over clock (first_of ts) ≡ true → length (drop 1 ts) < length ts
  length-over [] over = absurd cc
  length-over (t ∷ ts) over = omega arith

  -- where the time of the first hasn't come, all pass what each passes whose time hasn't come
  module _ (p : Timer → Bool) (passes : (t : Timer) → nat_le t.time clock ≡ false → p t ≡ true) where
    filter-ahead : (t : Timer) (ts : List Timer) → nat_le t.time clock ≡ false → Ahead is_earlier t ts → filter p ts ≡ ts
    filter-ahead t [] late a = refl
    filter-ahead t (u ∷ us) late a =
        let after = a.0 in
        let later : nat_le u.time clock ≡ false = grind (arith, tests, late, after) in
        rw (passes u later) (ap (λ (l : List Timer). u ∷ l) (filter-ahead t us late a.1))

    pub filter-later : (ts : List Timer) → IsInOrder ts → has_come clock (first_of ts) ≡ false → filter p ts ≡ ts
    filter-later [] o none = refl
    filter-later (t ∷ ts) o none = rw (passes t none) (ap (λ (l : List Timer). t ∷ l) (filter-ahead t ts none (ordered (t ∷ ts) o).0))

  -- and nothing is told
  pub told-later : (ts : List Timer) → IsInOrder ts → has_come clock (first_of ts) ≡ false → filter_map (told_of_timer clock) ts ≡ []
  told-later [] o none = refl
  told-later (t ∷ ts) o none = untold-later clock t ts o (later-true t none)

  -- so of rows none is due, and all stay
  module _ (rows : List Row) (late : has_come clock (first_of (timers_at rows)) ≡ false) where
    untold : filter_map (told_of_timer clock) (timers_at rows) ≡ []
    untold = told-later (timers_at rows) (in_order-fixed is_earlier (timers_at rows) (ordered_in_order is_earlier earlier_once not_earlier (filter_map timer_of rows))) late

    pub told_at-later : told_at clock rows ≡ []
    told_at-later = sym (told_at-timers clock rows) ∙ untold

    due_at-later : due_at clock rows ≡ []
    due_at-later = none (due_at clock rows) (sym (due_at-timers clock rows) ∙ ap length untold)
      where
        none : (ls : List Lapse) → length ls ≡ 0 → ls ≡ []
        none [] e = refl
        none (l ∷ ls) e = absurd (omega (arith, e))

  pub after_lapse-later : (list : InvocationList) → has_come clock (first_of (timers_at list.rows)) ≡ false → after_lapse list clock ≡ list
  after_lapse-later list late = after_lapse-none list clock (due_at-later list.rows late) ∙ ap (with_rows list) (held-all clock list.rows late)
