-- Rows that are taken into a map and a list of timers one after the other.
use Rattle.std.proofs.Common.{◌≡◌, ℕ, ℤ, Bool, true, false, cond, ◌+◌, ◌<◌, List, [], ◌∷◌, ◌++◌, length, take, drop, get_or, Some, None, refl, ap, sym, subst, ◌∙◌, append_assoc, arith}
use Rattle.std.specs.Ordering.{int_eq}
use Rattle.std.specs.Cmp.{int_eq_equiv}
use Rattle.std.specs.List.{AllByRecursion, IsDistinct}
use Rattle.std.specs.Map.{keys_of, lookup, remove_entry}
use Rattle.std.proofs.lemmas.Map.Keys.{IsDistinct-head, IsDistinct-tail}
use Rattle.tcap_invocation.specs.declared.invocations.Invocation.{Invocation}
use Rattle.tcap_invocation.specs.Invocations.{Row, AllAbove, AreInOrder}
use Rattle.tcap_invocation.specs.TimerList.{timer_of, timers_at, put_timer}
use Rattle.std.proofs.lemmas.List.{take_more, length-take, take-append-drop}
use Rattle.std.proofs.Math.Nat.{min-le_left}
use Rattle.tcap_invocation.specs.Rows.{AreSorted}
use Rattle.tcap_invocation.proofs.TimedLemmas.{timers_at-without}
use Rattle.tcap_invocation.proofs.TimelyLemmas.{length-timers_at}

-- what stands in front is in order too
AllAbove-front : (number : ℕ) (xs ys : List Row) → AllAbove number (xs ++ ys) → AllAbove number xs
AllAbove-front number [] ys h = tt
AllAbove-front number (x ∷ xs) ys h = (h.0, AllAbove-front number xs ys h.1)

pub AreInOrder-front : (xs ys : List Row) → AreInOrder (xs ++ ys) → AreInOrder xs
AreInOrder-front [] ys h = tt
AreInOrder-front (x ∷ xs) ys h = (h.0, AllAbove-front x.1.number xs ys h.1, AreInOrder-front xs ys h.2)

-- the identifier of a row is none of those in front of it
apart-at : (id : ℤ) (xs : List Row) (r : Row) (ys : List Row) → AllByRecursion (λ y. int_eq id y ≡ false) (keys_of (xs ++ r ∷ ys)) → int_eq id r.0 ≡ false
apart-at id [] r ys a = a.0
apart-at id (x ∷ xs) r ys a = apart-at id xs r ys a.1

pub absent-front : (xs : List Row) (r : Row) (ys : List Row) → IsDistinct int_eq (keys_of (xs ++ r ∷ ys)) → lookup (int_eq r.0) xs ≡ None
absent-front [] r ys d = refl
absent-front (x ∷ xs) r ys d =
    let apart = int_eq_equiv.symm r.0 x.0 ∙ apart-at x.0 xs r ys (IsDistinct-head int_eq x.0 (keys_of (xs ++ r ∷ ys)) d) in
    let rest = absent-front xs r ys (IsDistinct-tail int_eq x.0 (keys_of (xs ++ r ∷ ys)) d) in
    rw apart rest

-- a row behind all others is found by its identifier, and taken out again leaves the others
found-push : (id : ℤ) (e : Invocation) (rows : List Row) → lookup (int_eq id) rows ≡ None → lookup (int_eq id) (rows ++ (id, e) ∷ []) ≡ Some e
found-push id e [] none = rw (int_eq_equiv.refl id) refl
found-push id e (r ∷ rs) none = go (int_eq id r.0) none (found-push id e rs)
  where
    go : (b : Bool) → cond b (Some r.1) (lookup (int_eq id) rs) ≡ None → (lookup (int_eq id) rs ≡ None → lookup (int_eq id) (rs ++ (id, e) ∷ []) ≡ Some e)
        → cond b (Some r.1) (lookup (int_eq id) (rs ++ (id, e) ∷ [])) ≡ Some e
    go true h rest = absurd cc
    go false h rest = rest h

without-push : (id : ℤ) (e : Invocation) (rows : List Row) → lookup (int_eq id) rows ≡ None → remove_entry (int_eq id) (rows ++ (id, e) ∷ []) ≡ rows
without-push id e [] none = rw (int_eq_equiv.refl id) refl
without-push id e (r ∷ rs) none = go (int_eq id r.0) none (without-push id e rs)
  where
    go : (b : Bool) → cond b (Some r.1) (lookup (int_eq id) rs) ≡ None → (lookup (int_eq id) rs ≡ None → remove_entry (int_eq id) (rs ++ (id, e) ∷ []) ≡ rs)
        → cond b (rs ++ (id, e) ∷ []) (r ∷ remove_entry (int_eq id) (rs ++ (id, e) ∷ [])) ≡ r ∷ rs
    go true h rest = absurd cc
    go false h rest = ap (λ (l : List Row). r ∷ l) (rest h)

-- its timer is put among theirs
pub timers_at-behind : (id : ℤ) (e : Invocation) (rows : List Row) → lookup (int_eq id) rows ≡ None → AreInOrder (rows ++ (id, e) ∷ [])
    → timers_at (rows ++ (id, e) ∷ []) ≡ put_timer (timer_of (id, e)) (timers_at rows)
timers_at-behind id e rows none o =
    timers_at-without id e (rows ++ (id, e) ∷ []) (found-push id e rows none) o
    ∙ ap (λ (l : List Row). put_timer (timer_of (id, e)) (timers_at l)) (without-push id e rows none)

-- ---- one row after the other

-- the row at a place stands behind those before it, in front of the others
whole-at : (rows : List Row) (i : ℕ) (d : Row) → i < length rows → (take i rows ++ get_or rows i d ∷ []) ++ drop (i + 1) rows ≡ rows
whole-at rows i d within = ap (λ (l : List Row). l ++ drop (i + 1) rows) (sym (take_more rows i d within)) ∙ take-append-drop (i + 1) rows

module _ (rows : List Row) (i : ℕ) (d : Row) (within : i < length rows) (s : AreSorted rows) where
  pub absent-at : lookup (int_eq (get_or rows i d).0) (take i rows) ≡ None
  absent-at =
      let whole = append_assoc (take i rows) (get_or rows i d ∷ []) (drop (i + 1) rows) in
      absent-front (take i rows) (get_or rows i d) (drop (i + 1) rows) (subst (λ (l : List Row). IsDistinct int_eq (keys_of l)) (sym (sym whole ∙ whole-at rows i d within)) s.distinct)

  pub timers-at : timers_at (take i rows ++ get_or rows i d ∷ []) ≡ put_timer (timer_of (get_or rows i d)) (timers_at (take i rows))
  timers-at =
      timers_at-behind (get_or rows i d).0 (get_or rows i d).1 (take i rows) absent-at
      (AreInOrder-front (take i rows ++ get_or rows i d ∷ []) (drop (i + 1) rows) (subst AreInOrder (sym (whole-at rows i d within)) s.in_order))

  -- there is room for the timer of each row
  pub room-at : length (timers_at (take i rows)) < length rows
  room-at =
      let few = length-timers_at (take i rows) in
      let long = length-take i rows in
      let least = min-le_left i (length rows) in
      omega (arith, few, long, least, within)
