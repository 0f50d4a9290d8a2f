-- The first timer of few rows, as a walk finds it: of two of one moment the one that was found before, since the
-- numbers rise. And the invocation that has the first timer.
use Rattle.std.proofs.Common.{◌≡◌, ℕ, zero, suc, ℤ, ◌+◌, ◌<◌, ◌≤◌, Bool, true, false, cond, List, [], ◌∷◌, length, remove, take, Option, Some, None, refl, ap, sym, subst, ◌∙◌, arith, tests, nat_lt, if◌then◌else◌}
use Rattle.std.specs.Prelude.{filter_map, slice_get}
use Rattle.std.specs.List.{AllByRecursion, IsDistinct, cons_option}
use Rattle.std.specs.Map.{keys_of, lookup}
use Rattle.std.specs.Ordering.{int_eq}
use Rattle.std.specs.Cmp.{int_eq_equiv}
use Rattle.std.proofs.lemmas.Map.Keys.{IsDistinct-head, IsDistinct-tail}
use Rattle.tcap_invocation.specs.declared.invocations.few.First.{First}
use Rattle.tcap_invocation.specs.declared.invocations.lapse.Lapse.{Lapse}
use Rattle.tcap_invocation.specs.declared.invocations.Invocation.{Invocation}
use Rattle.tcap_invocation.specs.declared.invocations.timers.Timer.{Timer}
use Rattle.tcap_invocation.specs.declared.stage.Stage.{Stage}
use Rattle.tcap_invocation.specs.declared.stage.Stage.TheVariants.{Queued, Sent, Waiting}
use Rattle.tcap_invocation.specs.Order.{in_order_by, first_of}
use Rattle.tcap_invocation.specs.Invocations.{Row, AllAbove, AreInOrder, entry_at, without}
use Rattle.tcap_invocation.specs.TimerList.{HasTimer, IsAt, IsFirst, is_earlier, nearer_at, nearer_of, timer_with, timer_of, timers_at}
use Rattle.tcap_invocation.proofs.FewLemmas.{first_both, first_both-none, first_of-cons, both_both}
use Rattle.tcap_invocation.proofs.InsertionLemmas.{all_in_order, front}
use Rattle.tcap_invocation.proofs.RemovalLemmas.{told_of, told-own}
use Rattle.tcap_invocation.proofs.TimerLemmas.{not_earlier}

-- ---- the walk

abbrev pub nearer : Option Timer → Timer → Timer
nearer None t = t
nearer (Some f) t = if nat_lt t.time f.time then t else f

abbrev pub nearer_any : Option Timer → Option Timer → Option Timer
nearer_any first None = first
nearer_any first (Some t) = Some (nearer first t)

abbrev pub first_timer_from : Option Timer → List Row → Option Timer
first_timer_from first [] = first
first_timer_from first (r ∷ rs) = first_timer_from (nearer_any first (timer_of r)) rs

abbrev AllAfter : Option Timer → List Row → Type 0
AllAfter None rows = Unit {0}
AllAfter (Some t) rows = AllAbove t.number rows

earlier_earlier : (a b c : Timer) → is_earlier a b ≡ true → is_earlier b c ≡ true → is_earlier a c ≡ true
earlier_earlier a b c h k = grind (arith, tests, h, k)

found_before : (f t : Timer) → f.number < t.number → nat_lt t.time f.time ≡ false → is_earlier t f ≡ false
found_before f t above h = grind (arith, tests, above, h)

found_after : (f t : Timer) → nat_lt t.time f.time ≡ true → is_earlier t f ≡ true
found_after f t h = grind (arith, tests, h)

timer_number : (id : ℤ) (number : ℕ) (s : Stage) (t : Timer) → timer_with id number s ≡ Some t → t.number ≡ number
timer_number id number (Queued timeout) t e = absurd cc
timer_number id number (Sent deadline) t e = cc
timer_number id number (Waiting until) t e = cc

module _ (r : Row) (rs : List Row) (t : Timer) (has : timer_of r ≡ Some t) (order : AreInOrder (r ∷ rs)) where
  is_own : t.number ≡ r.1.number
  is_own = timer_number r.0 r.1.number r.1.stage t has

  own_after : AllAbove t.number rs
  own_after = subst (λ (n : ℕ). AllAbove n rs) (sym is_own) order.1

  nearer-both : (first : Option Timer) → AllAfter first (r ∷ rs) → Some (nearer first t) ≡ first_both is_earlier first (Some t)
  nearer-both None after = refl
  nearer-both (Some f) after = ap Some (go (nat_lt t.time f.time) refl)
    where
      go : (b : Bool) → nat_lt t.time f.time ≡ b → cond b t f ≡ front is_earlier f (Some t)
      go true e = rw (found_after f t e) refl
      go false e =
          let below : f.number < r.1.number = after.0 in
          let own = is_own in
          rw (found_before f t (omega (arith, below, own)) e) refl

  AllAfter-nearer : (first : Option Timer) → AllAfter first (r ∷ rs) → AllAfter (Some (nearer first t)) rs
  AllAfter-nearer None after = own_after
  AllAfter-nearer (Some f) after = go (nat_lt t.time f.time)
    where
      go : (b : Bool) → AllAbove (cond b t f).number rs
      go true = own_after
      go false = after.1

first_timer_from-both : (first : Option Timer) (rows : List Row) → AreInOrder rows → AllAfter first rows → first_timer_from first rows ≡ first_both is_earlier first (first_of (timers_at rows))
first_timer_from-both first [] order after = sym (first_both-none is_earlier first)
first_timer_from-both first (r ∷ rs) order after = go (timer_of r) refl (λ o a. first_timer_from-both o rs order.2 a)
  where
    rest : (first : Option Timer) → AllAfter first (r ∷ rs) → AllAfter first rs
    rest None after = tt
    rest (Some f) after = after.1

    go : (o : Option Timer) → timer_of r ≡ o
        → ((o : Option Timer) → AllAfter o rs → first_timer_from o rs ≡ first_both is_earlier o (first_of (timers_at rs)))
        → first_timer_from (nearer_any first o) rs ≡ first_both is_earlier first (first_of (in_order_by is_earlier (cons_option o (filter_map timer_of rs))))
    go None has more = more first (rest first after)
    go (Some t) has more =
        more (Some (nearer first t)) (AllAfter-nearer r rs t has order first after)
        ∙ ap (λ (o : Option Timer). first_both is_earlier o (first_of (timers_at rs))) (nearer-both r rs t has order first after)
        ∙ both_both is_earlier earlier_earlier not_earlier first (Some t) (first_of (timers_at rs))
        ∙ ap (first_both is_earlier first) (sym (first_of-cons is_earlier (Some t) (filter_map timer_of rs)))

pub first_timer_from-all : (rows : List Row) → AreInOrder rows → first_timer_from None rows ≡ first_of (timers_at rows)
first_timer_from-all rows order = first_timer_from-both None rows order tt

timer-named : (r : Row) (t : Timer) → timer_of r ≡ Some t → t.id ≡ r.0
timer-named r t = go r.0 r.1.number r.1.stage
  where
    go : (id : ℤ) (number : ℕ) (s : Stage) → timer_with id number s ≡ Some t → t.id ≡ id
    go id number (Queued timeout) e = absurd cc
    go id number (Sent deadline) e = cc
    go id number (Waiting until) e = cc

-- ---- its place

-- the first timer of the rows before a place
abbrev pub first_timer_below : ℕ → List Row → Option Timer → Option Timer
first_timer_below zero rows first = first
first_timer_below (suc i) [] first = first
first_timer_below (suc i) (r ∷ rs) first = first_timer_below i rs (nearer_any first (timer_of r))

below-next : (i : ℕ) (rows : List Row) (first : Option Timer) (r : Row) → slice_get rows i ≡ Some r → first_timer_below (suc i) rows first ≡ nearer_any (first_timer_below i rows first) (timer_of r)
below-next i [] first r e = absurd cc
below-next zero (x ∷ xs) first r e = let same : x ≡ r = cc in ap (λ (x : Row). nearer_any first (timer_of x)) same
below-next (suc i) (x ∷ xs) first r e = below-next i xs (nearer_any first (timer_of x)) r e

below-all : (i : ℕ) (rows : List Row) (first : Option Timer) → length rows ≤ i → first_timer_below i rows first ≡ first_timer_from first rows
below-all zero [] first h = refl
below-all (suc i) [] first h = refl
below-all zero (r ∷ rs) first h = absurd (omega (arith, h))
below-all (suc i) (r ∷ rs) first h = below-all i rs (nearer_any first (timer_of r)) (omega (arith, h))

module _ (rows : List Row) where
  nearer-at : (first : Option First) (o : Option Timer) → IsFirst rows first o → (f : First) (t : Timer) → IsAt rows f t → IsFirst rows (nearer_of first f) (Some (nearer o t))
  nearer-at None None h f t a = a
  nearer-at None (Some u) h f t a = absurd h
  nearer-at (Some g) None h f t a = absurd h
  nearer-at (Some g) (Some u) h f t a = go (nat_lt f.time g.time) (nat_lt t.time u.time) (ap (nat_lt f.time) h.time ∙ ap (λ n. nat_lt n u.time) a.time)
    where
      go : (b c : Bool) → b ≡ c → IsAt rows (cond b f g) (cond c t u)
      go true true e = a
      go true false e = absurd cc
      go false true e = absurd cc
      go false false e = h

  pub first-step : (i : ℕ) (first : Option First) (r : Row) → IsFirst rows first (first_timer_below i rows None) → slice_get rows i ≡ Some r → IsFirst rows (nearer_at first i r.1.stage) (first_timer_below (suc i) rows None)
  first-step i first r h at = subst (IsFirst rows (nearer_at first i r.1.stage)) (sym (below-next i rows None r at)) (go r.1.stage refl)
    where
      go : (s : Stage) → r.1.stage ≡ s → IsFirst rows (nearer_at first i s) (nearer_any (first_timer_below i rows None) (timer_of r))
      go (Queued timeout) e = subst (λ (o : Option Timer). IsFirst rows first (nearer_any (first_timer_below i rows None) o)) (sym (ap (timer_with r.0 r.1.number) e)) h
      go (Sent deadline) e =
          let own : timer_of r ≡ Some (record { time = deadline; number = r.1.number; id = r.0; lapses = true }) = ap (timer_with r.0 r.1.number) e in
          subst (λ (o : Option Timer). IsFirst rows (nearer_at first i (Sent deadline)) (nearer_any (first_timer_below i rows None) o)) (sym own)
          (nearer-at first (first_timer_below i rows None) h (record { time = deadline; place = i }) (record { time = deadline; number = r.1.number; id = r.0; lapses = true })
          (record { row = r; at = at; own = own; time = refl }))
      go (Waiting until) e =
          let own : timer_of r ≡ Some (record { time = until; number = r.1.number; id = r.0; lapses = false }) = ap (timer_with r.0 r.1.number) e in
          subst (λ (o : Option Timer). IsFirst rows (nearer_at first i (Waiting until)) (nearer_any (first_timer_below i rows None) o)) (sym own)
          (nearer-at first (first_timer_below i rows None) h (record { time = until; place = i }) (record { time = until; number = r.1.number; id = r.0; lapses = false })
          (record { row = r; at = at; own = own; time = refl }))

  pub first-all : (i : ℕ) (first : Option First) → AreInOrder rows → length rows ≤ i → IsFirst rows first (first_timer_below i rows None) → IsFirst rows first (first_of (timers_at rows))
  first-all i first order long h = subst (IsFirst rows first) (below-all i rows None long ∙ first_timer_from-all rows order) h

  pub first-some : (f : First) (o : Option Timer) → IsFirst rows (Some f) o → (t : Timer) × (o ≡ Some t) × IsAt rows f t
  first-some f None h = absurd h
  first-some f (Some t) h = (t, refl, h)

  pub first-none : (o : Option Timer) → IsFirst rows None o → o ≡ None
  first-none None h = refl
  first-none (Some t) h = absurd h

-- what the row at a place says of its timer
pub at-lapse : (rows : List Row) (f : First) (t : Timer) (h : IsAt rows f t) → (t.number ≡ h.row.1.number) × (t.id ≡ h.row.0)
at-lapse rows f t h = (timer_number h.row.0 h.row.1.number h.row.1.stage t h.own, timer-named h.row t h.own)

-- the row at a place is the one of its identifier
pub remove-at : (rows : List Row) (i : ℕ) (r : Row) → IsDistinct int_eq (keys_of rows) → slice_get rows i ≡ Some r → (i < length rows) × (remove rows i ≡ without rows r.0)
remove-at [] i r d e = absurd cc
remove-at (x ∷ xs) zero r d e =
    let same : x ≡ r = cc in
    let here : int_eq r.0 x.0 ≡ true = ap (λ (y : Row). int_eq y.0 x.0) (sym same) ∙ int_eq_equiv.refl x.0 in
    (omega arith, sym (ap (λ b. cond b xs (x ∷ without xs r.0)) here))
remove-at (x ∷ xs) (suc i) r d e =
    let rest = remove-at xs i r (IsDistinct-tail int_eq x.0 (keys_of xs) d) e in
    let other : int_eq r.0 x.0 ≡ false = int_eq_equiv.symm r.0 x.0 ∙ apart xs i r (IsDistinct-head int_eq x.0 (keys_of xs) d) e in
    let low = rest.0 in (omega (arith, low), ap (λ (l : List Row). x ∷ l) rest.1 ∙ sym (ap (λ b. cond b xs (x ∷ without xs r.0)) other))
  where
    apart : (ys : List Row) (j : ℕ) (r : Row) → AllByRecursion (λ k. int_eq x.0 k ≡ false) (keys_of ys) → slice_get ys j ≡ Some r → int_eq x.0 r.0 ≡ false
    apart [] j r a e = absurd cc
    apart (y ∷ ys) zero r a e = let same : y ≡ r = cc in subst (λ (y : Row). int_eq x.0 y.0 ≡ false) same a.0
    apart (y ∷ ys) (suc j) r a e = apart ys j r a.1 e

-- the last is taken out as well by cutting the rows off there
pub remove-last : (i : ℕ) (rows : List Row) → i + 1 ≡ length rows → take i rows ≡ remove rows i
remove-last zero [] e = refl
remove-last (suc i) [] e = refl
remove-last zero (x ∷ []) e = refl
remove-last zero (x ∷ y ∷ ys) e = absurd (omega (arith, e))
remove-last (suc i) (x ∷ xs) e = ap (λ (l : List Row). x ∷ l) (remove-last i xs (omega (arith, e)))

pub some-same : (a b : Row) → Some a ≡ Some b → a ≡ b
some-same a b e = cc

pub lapse-same : (a b : Lapse) → a.deadline ≡ b.deadline → a.number ≡ b.number → a.id ≡ b.id → a ≡ b
lapse-same a b d n i =
    ap (λ x. record { deadline = x; number = a.number; id = a.id }) d
    ∙ ap (λ x. record { deadline = b.deadline; number = x; id = a.id }) n
    ∙ ap (λ x. record { deadline = b.deadline; number = b.number; id = x }) i

-- ---- the invocation that has it

pub first-has : (rows : List Row) (t : Timer) → IsDistinct int_eq (keys_of rows) → first_of (timers_at rows) ≡ Some t → HasTimer rows t
first-has rows t distinct first =
    let own = told-own timer_of (λ (t : Timer). t.id) timer-named rows distinct in
    let all = all_in_order is_earlier (λ (t : Timer). told_of timer_of (λ (t : Timer). t.id) timer-named t.id (lookup (int_eq t.id) rows) ≡ Some t) (filter_map timer_of rows) own in
    go (entry_at rows t.id) refl (head (timers_at rows) first all)
  where
    head : (ts : List Timer) → first_of ts ≡ Some t → AllByRecursion (λ (t : Timer). told_of timer_of (λ (t : Timer). t.id) timer-named t.id (lookup (int_eq t.id) rows) ≡ Some t) ts
        → told_of timer_of (λ (t : Timer). t.id) timer-named t.id (entry_at rows t.id) ≡ Some t
    head [] e a = absurd cc
    head (u ∷ us) e a = let same : u ≡ t = cc in subst (λ (t : Timer). told_of timer_of (λ (t : Timer). t.id) timer-named t.id (lookup (int_eq t.id) rows) ≡ Some t) same a.0

    go : (o : Option Invocation) → entry_at rows t.id ≡ o → told_of timer_of (λ (t : Timer). t.id) timer-named t.id o ≡ Some t → HasTimer rows t
    go None found e = absurd cc
    go (Some entry) found e = record { entry = entry; found = found; own = e }
