-- The order of timers, and what is due of timers in order.
use Rattle.std.proofs.Common.{◌≡◌, ℕ, zero, suc, ◌<◌, ◌≤◌, Bool, true, false, cond, List, [], ◌∷◌, ◌++◌, ◌-◌, length, slice_index_or, remove, take, filter, Option, Some, None, refl, ap, sym, ◌∙◌, subst, arith, tests, nat_lt, nat_le, ◌&&◌}
use Rattle.std.specs.Prelude.{filter_map}
use Rattle.std.specs.List.{cons_option}
use Rattle.std.specs.List.Sorted.{IsPartitionedBy}
use Rattle.std.specs.List.{AllWithin}
use Rattle.tcap_invocation.specs.declared.invocations.lapse.Lapse.{Lapse}
use Rattle.tcap_invocation.specs.declared.invocations.timers.Timer.{Timer}
use Rattle.tcap_invocation.specs.Order.{put_by}
use Rattle.tcap_invocation.specs.TimerList.{is_earlier, IsInOrder, told_of_timer}
pub use Rattle.tcap_invocation.specs.TimerList.{lapse_at_time}
use Rattle.tcap_invocation.proofs.InsertionLemmas.{Ahead, Ordered, ordered_put, ordered_in_order}
use Rattle.tcap_invocation.proofs.SortLemmas.{in_order-fixed, IsPartitionedBy-before, ordered_filter, ordered_remove, put_put}

pub earlier_once : (a b : Timer) → is_earlier a b ≡ true → is_earlier b a ≡ false
earlier_once a b h = grind (arith, tests, h)

pub not_earlier : (a b c : Timer) → is_earlier b a ≡ false → is_earlier c b ≡ false → is_earlier c a ≡ false
not_earlier a b c h k = grind (arith, tests, h, k)

pub earlier_never : (a : Timer) → is_earlier a a ≡ false
earlier_never a = grind (arith, tests)

-- two timers of different numbers are put in either order
pub put-swapped : (a b : Timer) (ts : List Timer) → a.number < b.number → put_by is_earlier a (put_by is_earlier b ts) ≡ put_by is_earlier b (put_by is_earlier a ts)
put-swapped a b ts less = go (is_earlier a b) refl
  where
    go : (c : Bool) → is_earlier a b ≡ c → put_by is_earlier a (put_by is_earlier b ts) ≡ put_by is_earlier b (put_by is_earlier a ts)
    go true e = put_put is_earlier earlier_once not_earlier a b ts e
    go false e = let other : is_earlier b a ≡ true = grind (arith, tests, less, e) in sym (put_put is_earlier earlier_once not_earlier b a ts other)

-- ---- in order

pub ordered : (ts : List Timer) → IsInOrder ts → Ordered is_earlier ts
ordered ts o = subst (Ordered is_earlier) o (ordered_in_order is_earlier earlier_once not_earlier ts)

pub IsInOrder-put : (t : Timer) (ts : List Timer) → IsInOrder ts → IsInOrder (put_by is_earlier t ts)
IsInOrder-put t ts o = in_order-fixed is_earlier (put_by is_earlier t ts) (ordered_put is_earlier earlier_once not_earlier t ts (ordered ts o))

pub IsInOrder-filter : (p : Timer → Bool) (ts : List Timer) → IsInOrder ts → IsInOrder (filter p ts)
IsInOrder-filter p ts o = in_order-fixed is_earlier (filter p ts) (ordered_filter is_earlier p ts (ordered ts o))

pub IsInOrder-remove : (ts : List Timer) (i : ℕ) → IsInOrder ts → IsInOrder (remove ts i)
IsInOrder-remove ts i o = in_order-fixed is_earlier (remove ts i) (ordered_remove is_earlier ts i (ordered ts o))

pub IsInOrder-tail : (t : Timer) (ts : List Timer) → IsInOrder (t ∷ ts) → IsInOrder ts
IsInOrder-tail t ts o = in_order-fixed is_earlier ts (ordered (t ∷ ts) o).1

pub IsPartitionedBy-timer : (ts : List Timer) (t : Timer) → IsInOrder ts → IsPartitionedBy (λ y. is_earlier y t) ts
IsPartitionedBy-timer ts t o = IsPartitionedBy-before is_earlier earlier_once not_earlier ts t (ordered ts o)

-- Where the first isn't earlier, none is.
pub none-earlier : (ts : List Timer) (t first : Timer) → IsInOrder ts → first ≡ slice_index_or ts 0 first → is_earlier first t ≡ false
    → (k : ℕ) (d : Timer) → k < length ts → is_earlier (slice_index_or ts k d) t ≡ false
none-earlier [] t first o is late k d high = absurd (omega (arith, high))
none-earlier (x ∷ xs) t first o is late k d high = go (is_earlier (slice_index_or (x ∷ xs) k d) t) refl
  where
    go : (b : Bool) → is_earlier (slice_index_or (x ∷ xs) k d) t ≡ b → is_earlier (slice_index_or (x ∷ xs) k d) t ≡ false
    go false e = e
    go true e =
        let head : is_earlier x t ≡ true = IsPartitionedBy-timer (x ∷ xs) t o 0 k d (omega arith) high e in
        let none : is_earlier x t ≡ false = subst (λ (y : Timer). is_earlier y t ≡ false) is late in
        let both : false ≡ true = sym none ∙ head in absurd cc

-- ---- what is due

untold : (clock : ℕ) (t : Timer) → nat_le t.time clock ≡ false → told_of_timer clock t ≡ None
untold clock t late = go t.lapses (nat_le t.time clock) late
  where
    go : (b c : Bool) → c ≡ false → cond (b && c) (Some (lapse_at_time t)) None ≡ None
    go true true e = absurd cc
    go true false e = refl
    go false c e = refl

-- what stands behind those whose time has come isn't told
pub told-front : (clock : ℕ) (ts : List Timer) (i : ℕ) → AllWithin (λ t. nat_le t.time clock ≡ false) ts i (length ts) → filter_map (told_of_timer clock) (take i ts) ≡ filter_map (told_of_timer clock) ts
told-front clock [] zero a = refl
told-front clock [] (suc i) a = refl
told-front clock (t ∷ ts) zero a =
    let first = untold clock t (a 0 t (omega arith) (omega arith)) in
    let rest = told-front clock ts zero (λ k d low high. a (suc k) d (omega arith) (omega (arith, high))) in
    rw first rest
told-front clock (t ∷ ts) (suc i) a = ap (cons_option (told_of_timer clock t)) (told-front clock ts i (λ k d low high. a (suc k) d (omega (arith, low)) (omega (arith, high))))

pub length-told : (clock : ℕ) (ts : List Timer) → length (filter_map (told_of_timer clock) ts) ≤ length ts
length-told clock [] = omega arith
length-told clock (t ∷ ts) = go (told_of_timer clock t) (length-told clock ts)
  where
    go : (o : Option Lapse) → length (filter_map (told_of_timer clock) ts) ≤ length ts → length (cons_option o (filter_map (told_of_timer clock) ts)) ≤ suc (length ts)
    go None h = omega (arith, h)
    go (Some l) h = omega (arith, h)

-- ---- where the time of the first hasn't come, that of none has

untold-ahead : (clock : ℕ) (t : Timer) (ts : List Timer) → nat_lt clock t.time ≡ true → Ahead is_earlier t ts → filter_map (told_of_timer clock) ts ≡ []
untold-ahead clock t [] later a = refl
untold-ahead clock t (u ∷ us) later a =
    let after = a.0 in
    let late : nat_le u.time clock ≡ false = grind (arith, tests, later, after) in
    rw (untold clock u late) (untold-ahead clock t us later a.1)

pub untold-later : (clock : ℕ) (t : Timer) (ts : List Timer) → IsInOrder (t ∷ ts) → nat_lt clock t.time ≡ true → filter_map (told_of_timer clock) (t ∷ ts) ≡ []
untold-later clock t ts o later =
    let late : nat_le t.time clock ≡ false = grind (arith, tests, later) in
    rw (untold clock t late) (untold-ahead clock t ts later (ordered (t ∷ ts) o).0)

-- what isn't told, or is, of the first
pub told-dropped : (clock : ℕ) (t : Timer) (ts : List Timer) → told_of_timer clock t ≡ None → filter_map (told_of_timer clock) (t ∷ ts) ≡ filter_map (told_of_timer clock) ts
told-dropped clock t ts e = rw e refl

pub told-kept : (clock : ℕ) (t : Timer) (l : Lapse) (ts : List Timer) → told_of_timer clock t ≡ Some l → filter_map (told_of_timer clock) (t ∷ ts) ≡ l ∷ filter_map (told_of_timer clock) ts
told-kept clock t l ts e = rw e refl

-- ---- what comes after all is put at the end

put-behind-all : (t d : Timer) (ts : List Timer) → ((i : ℕ) → i < length ts → is_earlier (slice_index_or ts i d) t ≡ true) → put_by is_earlier t ts ≡ ts ++ t ∷ []
put-behind-all t d [] all = refl
put-behind-all t d (y ∷ ys) all =
    let first : is_earlier y t ≡ true = all 0 (omega arith) in
    rw first (ap (λ (l : List Timer). y ∷ l) (put-behind-all t d ys (λ i high. all (suc i) (omega (arith, high)))))

pub put-last : (t last : Timer) (ts : List Timer) → IsInOrder ts → last ≡ slice_index_or ts (length ts - 1) last → is_earlier last t ≡ true → put_by is_earlier t ts ≡ ts ++ t ∷ []
put-last t last ts o is early =
    let end : is_earlier (slice_index_or ts (length ts - 1) last) t ≡ true = subst (λ (x : Timer). is_earlier x t ≡ true) is early in
    put-behind-all t last ts (λ i high. IsPartitionedBy-timer ts t o i (length ts - 1) last (omega (arith, high)) (omega (arith, high)) end)
