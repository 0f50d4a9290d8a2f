-- The next timer of one dialogue: none of its timers is before it, and what runs out there.
use Rattle.std.proofs.Common.{◌≡◌, ◌⊎◌, inl, inr, ℕ, ◌≤◌, Bool, true, false, cond, nat_lt, nat_le, List, [], ◌∷◌, filter, Option, Some, None, refl, ap, sym, subst, ◌∙◌, arith, tests}
use Rattle.std.proofs.lemmas.Bool.{cases_Bool}
use Rattle.std.specs.Prelude.{IfSome}
use Rattle.std.specs.List.{cons_option}
use Rattle.tcap_invocation.specs.declared.invocations.lapse.Lapse.{Lapse}
use Rattle.tcap_invocation.specs.declared.stage.Stage.{Stage}
use Rattle.tcap_invocation.specs.declared.stage.Stage.TheVariants.{Queued, Sent, Waiting}
use Rattle.tcap_invocation.specs.Invocations.{Row}
use Rattle.tcap_invocation.specs.Lapses.{due_at, due_deadline, first_due_at, is_before, lapse_with, stays}
use Rattle.tcap_invocation.specs.Order.{in_order_by, first_of}
use Rattle.tcap_invocation.specs.Timers.{time_of, times_of, next_timer_at}
use Rattle.tcap_invocation.proofs.CallerLemmas.{front, first_of-put}
use Rattle.timed_table.specs.Row.{is_due}

-- ---- the least of some numbers

abbrev pub least : List ℕ → Option ℕ
least xs = first_of (in_order_by nat_lt xs)

least-cons : (x : ℕ) (xs : List ℕ) → least (x ∷ xs) ≡ Some (front nat_lt x (least xs))
least-cons x xs = first_of-put nat_lt x (in_order_by nat_lt xs)

-- Each number is this one or above it.
abbrev pub AllFrom : ℕ → List ℕ → Type 0
AllFrom low [] = Unit {0}
AllFrom low (x ∷ xs) = (low ≤ x) × AllFrom low xs

-- One of the numbers is this one.
abbrev pub IsIn : ℕ → List ℕ → Type 0
IsIn t [] = ⊥
IsIn t (x ∷ xs) = (x ≡ t) ⊎ IsIn t xs

all-lower : (low high : ℕ) (xs : List ℕ) → low ≤ high → AllFrom high xs → AllFrom low xs
all-lower low high [] le h = tt
all-lower low high (x ∷ xs) le h = let here = h.0 in (omega (arith, le, here), all-lower low high xs le h.1)

pub none-least : (low : ℕ) (xs : List ℕ) → least xs ≡ None → AllFrom low xs
none-least low [] e = tt
none-least low (x ∷ xs) e = let some = least-cons x xs in absurd cc

-- There are none where there is no least.
pub no-times : (xs : List ℕ) → least xs ≡ None → xs ≡ []
no-times [] e = refl
no-times (x ∷ xs) e = let some = least-cons x xs in absurd cc

pub least-from : (t : ℕ) (xs : List ℕ) → least xs ≡ Some t → AllFrom t xs
least-from t [] e = tt
least-from t (x ∷ xs) e = go (least xs) refl (λ s. least-from s xs) (sym (least-cons x xs) ∙ e)
  where
    pick : (b : Bool) (z : ℕ) → nat_lt z x ≡ b → AllFrom z xs → cond b z x ≡ t → AllFrom t (x ∷ xs)
    pick true z d h e = let below : z ≤ x = grind (arith, tests, d) in (omega (arith, below, e), all-lower t z xs (omega (arith, e)) h)
    pick false z d h e = let above : x ≤ z = grind (arith, tests, d) in (omega (arith, e), all-lower t z xs (omega (arith, above, e)) h)

    go : (o : Option ℕ) → least xs ≡ o → ((s : ℕ) → least xs ≡ Some s → AllFrom s xs) → Some (front nat_lt x o) ≡ Some t → AllFrom t (x ∷ xs)
    go None d ih e = let same : x ≡ t = cc in (omega (arith, same), none-least t xs d)
    go (Some z) d ih e = let same : cond (nat_lt z x) z x ≡ t = cc in pick (nat_lt z x) z refl (ih z d) same

pub least-in : (t : ℕ) (xs : List ℕ) → least xs ≡ Some t → IsIn t xs
least-in t [] e = absurd cc
least-in t (x ∷ xs) e = go (least xs) refl (least-in t xs) (sym (least-cons x xs) ∙ e)
  where
    pick : (b : Bool) (z : ℕ) → least xs ≡ Some z → (least xs ≡ Some t → IsIn t xs) → cond b z x ≡ t → IsIn t (x ∷ xs)
    pick true z d ih e = inr (ih (d ∙ ap Some e))
    pick false z d ih e = inl e

    go : (o : Option ℕ) → least xs ≡ o → (least xs ≡ Some t → IsIn t xs) → Some (front nat_lt x o) ≡ Some t → IsIn t (x ∷ xs)
    go None d ih e = let same : x ≡ t = cc in inl same
    go (Some z) d ih e = let same : cond (nat_lt z x) z x ≡ t = cc in pick (nat_lt z x) z d ih same

-- ---- a moment before the next timer

-- A moment that hasn't reached the first of two has reached neither.
late-both : (now x : ℕ) (o : Option ℕ) → is_due now (Some (front nat_lt x o)) ≡ false → (nat_le x now ≡ false) × (is_due now o ≡ false)
late-both now x None h = (h, refl)
late-both now x (Some z) h = go (cases_Bool (nat_lt z x))
  where
    go : (nat_lt z x ≡ true) ⊎ (nat_lt z x ≡ false) → (nat_le x now ≡ false) × (nat_le z now ≡ false)
    go (inl e) = let late : nat_le z now ≡ false = ap (λ b. nat_le (cond b z x) now) (sym e) ∙ h in (grind (arith, tests, e, late), late)
    go (inr e) = let late : nat_le x now ≡ false = ap (λ b. nat_le (cond b z x) now) (sym e) ∙ h in (late, grind (arith, tests, e, late))

-- Nothing is due then, and each row stays.
pub quiet-rows : (now : ℕ) (rows : List Row) → is_due now (next_timer_at rows) ≡ false → (due_at now rows ≡ []) × (filter (λ r. stays now r.1.stage) rows ≡ rows)
quiet-rows now [] h = (refl, refl)
quiet-rows now (r ∷ rs) h = go r.1.stage h (quiet-rows now rs)
  where
    kept : List Row
    kept = filter (λ r. stays now r.1.stage) rs

    go : (s : Stage) → is_due now (least (cons_option (time_of s) (times_of rs))) ≡ false → (is_due now (next_timer_at rs) ≡ false → (due_at now rs ≡ []) × (kept ≡ rs))
        → (cons_option (lapse_with r.0 r.1.number (due_deadline now s)) (due_at now rs) ≡ []) × (cond (stays now s) (r ∷ kept) kept ≡ r ∷ rs)
    go (Queued timeout) h ih = let q = ih h in (q.0, ap (λ (l : List Row). r ∷ l) q.1)
    go (Sent deadline) h ih =
        let late = late-both now deadline (next_timer_at rs) (ap (is_due now) (sym (least-cons deadline (times_of rs))) ∙ h) in
        let q = ih late.1 in
        let early = late.0 in
        let on : nat_lt now deadline ≡ true = grind (arith, tests, early) in
        (rw early q.0, rw on (ap (λ (l : List Row). r ∷ l) q.1))
    go (Waiting until) h ih =
        let late = late-both now until (next_timer_at rs) (ap (is_due now) (sym (least-cons until (times_of rs))) ∙ h) in
        let q = ih late.1 in
        let early = late.0 in
        let on : nat_lt now until ≡ true = grind (arith, tests, early) in
        (q.0, rw on (ap (λ (l : List Row). r ∷ l) q.1))

-- ---- what is due first

-- Where each timer runs out from some moment on, so does what is due first.
pub first-from : (now low : ℕ) (rows : List Row) → AllFrom low (times_of rows) → IfSome (first_due_at now rows) (λ l. low ≤ l.deadline)
first-from now low [] h = tt
first-from now low (r ∷ rs) h = go r.1.stage h (first-from now low rs)
  where
    Late : Option Lapse → Type 0
    Late o = IfSome o (λ l. low ≤ l.deadline)

    earlier : (l : Lapse) (o : Option Lapse) → low ≤ l.deadline → Late o → low ≤ (front is_before l o).deadline
    earlier l None le h = le
    earlier l (Some z) le h = elim (is_before z l) as (λ b. low ≤ (cond b z l).deadline) [ true ↦ h | false ↦ le ]

    put : (l : Lapse) → low ≤ l.deadline → Late (first_due_at now rs) → Late (first_of (in_order_by is_before (l ∷ due_at now rs)))
    put l le h = subst Late (sym (first_of-put is_before l (in_order_by is_before (due_at now rs)))) (earlier l (first_due_at now rs) le h)

    sent : (deadline : ℕ) (b : Bool) → nat_le deadline now ≡ b → low ≤ deadline → Late (first_due_at now rs)
        → Late (first_of (in_order_by is_before (cons_option (lapse_with r.0 r.1.number (cond b (Some deadline) None)) (due_at now rs))))
    sent deadline true e le h = put (record { deadline = deadline; number = r.1.number; id = r.0 }) le h
    sent deadline false e le h = h

    go : (s : Stage) → AllFrom low (cons_option (time_of s) (times_of rs)) → (AllFrom low (times_of rs) → Late (first_due_at now rs))
        → Late (first_of (in_order_by is_before (cons_option (lapse_with r.0 r.1.number (due_deadline now s)) (due_at now rs))))
    go (Queued timeout) h ih = ih h
    go (Sent deadline) h ih = sent deadline (nat_le deadline now) refl h.0 (ih h.1)
    go (Waiting until) h ih = ih h.1
