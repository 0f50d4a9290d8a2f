-- The first timer of a wait that is over, and what taking its invocation out leaves.
use Rattle.std.proofs.Common.{◌≡◌, ℕ, suc, ℤ, ◌+◌, ◌<◌, Bool, true, false, cond, List, [], ◌∷◌, length, filter, Option, Some, None, refl, ap, sym, subst, ◌∙◌, arith, tests, nat_lt, nat_le}
use Rattle.std.specs.Prelude.{filter_map}
use Rattle.std.specs.List.{AllByRecursion, IsDistinct, cons_option}
use Rattle.std.specs.Map.{keys_of, lookup}
use Rattle.std.specs.Ordering.{int_eq}
use Rattle.tcap_invocation.specs.declared.invocations.Invocation.{Invocation}
use Rattle.tcap_invocation.specs.declared.invocations.timers.Timer.{Timer}
use Rattle.tcap_invocation.specs.declared.stage.Stage.{Stage}
use Rattle.tcap_invocation.specs.declared.stage.Stage.TheVariants.{Queued, Sent, Waiting}
use Rattle.tcap_invocation.specs.Order.{first_of}
use Rattle.tcap_invocation.specs.Invocations.{Row, entry_at, without}
use Rattle.tcap_invocation.specs.Lapses.{is_held}
use Rattle.tcap_invocation.specs.TimerList.{IsInOrder, is_earlier, timer_with, timer_of, timers_at, is_over}
use Rattle.tcap_invocation.proofs.InsertionLemmas.{Ahead, total, total_in_order, all_in_order}
use Rattle.tcap_invocation.proofs.RemovalLemmas.{told_of, told-own}
use Rattle.tcap_invocation.proofs.TimerLemmas.{ordered}

-- ---- the timers whose time has come

module _ (clock : ℕ) where
  not-over : (t : Timer) → nat_le t.time clock ≡ false → is_over clock t ≡ false
  not-over t late = go t.lapses
    where
      go : (b : Bool) → cond b false (nat_le t.time clock) ≡ false
      go true = refl
      go false = late

  none-ahead : (t : Timer) (ts : List Timer) → nat_lt clock t.time ≡ true → Ahead is_earlier t ts → filter (is_over clock) ts ≡ []
  none-ahead t [] later a = refl
  none-ahead t (u ∷ us) later a =
      let after = a.0 in
      let late : nat_le u.time clock ≡ false = grind (arith, tests, later, after) in
      rw (not-over u late) (none-ahead t us later a.1)

  -- where the time of the first hasn't come, none is over
  pub none-later : (t : Timer) (ts : List Timer) → IsInOrder (t ∷ ts) → nat_lt clock t.time ≡ true → filter (is_over clock) (t ∷ ts) ≡ []
  none-later t ts o later =
      let late : nat_le t.time clock ≡ false = grind (arith, tests, later) in
      rw (not-over t late) (none-ahead t ts later (ordered (t ∷ ts) o).0)

  -- the first that is over passes what all pass
  first-over : (P : Timer → Type 0) (ts : List Timer) (t : Timer) → AllByRecursion P ts → first_of (filter (is_over clock) ts) ≡ Some t → P t × (is_over clock t ≡ true)
  first-over P [] t a e = absurd cc
  first-over P (u ∷ us) t a e = go (is_over clock u) refl e (first-over P us t a.1)
    where
      go : (b : Bool) → is_over clock u ≡ b → first_of (cond b (u ∷ filter (is_over clock) us) (filter (is_over clock) us)) ≡ Some t
          → (first_of (filter (is_over clock) us) ≡ Some t → P t × (is_over clock t ≡ true)) → P t × (is_over clock t ≡ true)
      go true o q rest = let same : u ≡ t = cc in (subst P same a.0, subst (λ (t : Timer). is_over clock t ≡ true) same o)
      go false o q rest = rest q

  -- ---- the invocation that waits

  timer-named : (r : Row) (t : Timer) → timer_of r ≡ Some t → t.id ≡ r.0
  timer-named r t = go r.0 r.1.number r.1.stage
    where
      go : (id : ℤ) (number : ℕ) (s : Stage) → timer_with id number s ≡ Some t → t.id ≡ id
      go id number (Queued timeout) e = absurd cc
      go id number (Sent deadline) e = cc
      go id number (Waiting until) e = cc

  over-held : (id : ℤ) (number : ℕ) (s : Stage) (t : Timer) → timer_with id number s ≡ Some t → is_over clock t ≡ true → is_held clock s ≡ false
  over-held id number (Queued timeout) t e o = absurd cc
  over-held id number (Sent deadline) t e o =
      let is : t ≡ record { time = deadline; number = number; id = id; lapses = true } = cc in
      let bad : false ≡ true = subst (λ (t : Timer). is_over clock t ≡ true) is o in
      absurd cc
  over-held id number (Waiting until) t e o =
      let is : t ≡ record { time = until; number = number; id = id; lapses = false } = cc in
      let come : nat_le until clock ≡ true = subst (λ (t : Timer). is_over clock t ≡ true) is o in
      grind (arith, tests, come)

  -- the identifier of the first timer that is over is that of an invocation that is held no longer
  pub over-entry : (rows : List Row) (t : Timer) → IsDistinct int_eq (keys_of rows) → first_of (filter (is_over clock) (timers_at rows)) ≡ Some t
      → (e : Invocation) × (entry_at rows t.id ≡ Some e) × (is_held clock e.stage ≡ false)
  over-entry rows t distinct first =
      let own = told-own timer_of (λ (t : Timer). t.id) timer-named rows distinct in
      let all = all_in_order is_earlier (λ (t : Timer). told_of timer_of (λ (t : Timer). t.id) timer-named t.id (lookup (int_eq t.id) rows) ≡ Some t) (filter_map timer_of rows) own in
      let found = first-over (λ (t : Timer). told_of timer_of (λ (t : Timer). t.id) timer-named t.id (lookup (int_eq t.id) rows) ≡ Some t) (timers_at rows) t all first in
      go (entry_at rows t.id) found.0 found.1
    where
      go : (o : Option Invocation) → told_of timer_of (λ (t : Timer). t.id) timer-named t.id o ≡ Some t → is_over clock t ≡ true → (e : Invocation) × (o ≡ Some e) × (is_held clock e.stage ≡ false)
      go None e over = absurd cc
      go (Some entry) e over = (entry, refl, over-held t.id entry.number entry.stage t e over)

  -- without it as many are held
  pub held-without : (id : ℤ) (e : Invocation) (rows : List Row) → entry_at rows id ≡ Some e → is_held clock e.stage ≡ false → filter (λ r. is_held clock r.1.stage) (without rows id) ≡ filter (λ r. is_held clock r.1.stage) rows
  held-without id e [] found over = absurd cc
  held-without id e (r ∷ rs) found over = go (int_eq id r.0) found (λ q. held-without id e rs q over)
    where
      go : (b : Bool) → cond b (Some r.1) (lookup (int_eq id) rs) ≡ Some e
          → (lookup (int_eq id) rs ≡ Some e → filter (λ r. is_held clock r.1.stage) (without rs id) ≡ filter (λ r. is_held clock r.1.stage) rs)
          → filter (λ r. is_held clock r.1.stage) (cond b rs (r ∷ without rs id)) ≡ filter (λ r. is_held clock r.1.stage) (r ∷ rs)
      go true q rest = let same : e ≡ r.1 = cc in let own : is_held clock r.1.stage ≡ false = subst (λ (e : Invocation). is_held clock e.stage ≡ false) same over in rw own refl
      go false q rest = ap (λ (rs : List Row). cond (is_held clock r.1.stage) (r ∷ rs) rs) (rest q)

  pub length-without : (id : ℤ) (e : Invocation) (rows : List Row) → entry_at rows id ≡ Some e → length (without rows id) < length rows
  length-without id e [] found = absurd cc
  length-without id e (r ∷ rs) found = go (int_eq id r.0) found (length-without id e rs)
    where
      go : (b : Bool) → cond b (Some r.1) (lookup (int_eq id) rs) ≡ Some e → (lookup (int_eq id) rs ≡ Some e → length (without rs id) < length rs) → length (cond b rs (r ∷ without rs id)) < suc (length rs)
      go true q rest = omega arith
      go false q rest = let less = rest q in omega (arith, less)

  -- ---- none is over

  abbrev count : Timer → ℕ
  count t = cond (is_over clock t) 1 0

  uncounted : (ts : List Timer) → first_of (filter (is_over clock) ts) ≡ None → total count ts ≡ 0
  uncounted [] e = refl
  uncounted (t ∷ ts) e = go (is_over clock t) e (uncounted ts)
    where
      go : (b : Bool) → first_of (cond b (t ∷ filter (is_over clock) ts) (filter (is_over clock) ts)) ≡ None → (first_of (filter (is_over clock) ts) ≡ None → total count ts ≡ 0) → cond b 1 0 + total count ts ≡ 0
      go true q rest = absurd cc
      go false q rest = let left = rest q in omega (arith, left)

  pub held-none : (rows : List Row) → first_of (filter (is_over clock) (timers_at rows)) ≡ None → filter (λ r. is_held clock r.1.stage) rows ≡ rows
  held-none rows none = kept rows (sym (total_in_order is_earlier count (filter_map timer_of rows)) ∙ uncounted (timers_at rows) none)
    where
      kept : (rows : List Row) → total count (filter_map timer_of rows) ≡ 0 → filter (λ r. is_held clock r.1.stage) rows ≡ rows
      kept [] z = refl
      kept (r ∷ rs) z = go r.0 r.1.number r.1.stage z (kept rs)
        where
          go : (id : ℤ) (number : ℕ) (s : Stage) → total count (cons_option (timer_with id number s) (filter_map timer_of rs)) ≡ 0
              → (total count (filter_map timer_of rs) ≡ 0 → filter (λ r. is_held clock r.1.stage) rs ≡ rs) → cond (is_held clock s) (r ∷ filter (λ r. is_held clock r.1.stage) rs) (filter (λ r. is_held clock r.1.stage) rs) ≡ r ∷ rs
          go id number (Queued timeout) z rest = ap (λ l. r ∷ l) (rest z)
          go id number (Sent deadline) z rest = ap (λ l. r ∷ l) (rest (omega (arith, z)))
          go id number (Waiting until) z rest = over (nat_le until clock) refl z
            where
              over : (b : Bool) → nat_le until clock ≡ b → cond b 1 0 + total count (filter_map timer_of rs) ≡ 0 → cond (nat_lt clock until) (r ∷ filter (λ r. is_held clock r.1.stage) rs) (filter (λ r. is_held clock r.1.stage) rs) ≡ r ∷ rs
              over true e z = absurd (omega (arith, z))
              over false e z = let more : nat_lt clock until ≡ true = grind (arith, tests, e) in rw more (ap (λ l. r ∷ l) (rest (omega (arith, z))))
