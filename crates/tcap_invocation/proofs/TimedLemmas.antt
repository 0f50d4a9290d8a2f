-- The timers of the rows through each change of the rows.
use Rattle.std.proofs.Common.{◌≡◌, ℕ, zero, suc, ℤ, ◌<◌, ◌≤◌, Bool, true, false, cond, List, [], ◌∷◌, ◌++◌, length, filter, Option, Some, None, refl, ap, sym, subst, ◌∙◌, arith, unwrap_or}
use Rattle.std.specs.Prelude.{filter_map, slice_get}
use Rattle.std.specs.List.{cons_option}
use Rattle.std.specs.Map.{lookup, set_value}
use Rattle.indexmap.specs.IndexMap.{IndexMap, with_entries, with_value_at}
use Rattle.std.specs.Ordering.{int_eq}
use Rattle.std.proofs.lemmas.Bool.Decides.{Decides-int_eq}
use Rattle.std.proofs.lemmas.Map.Steps.{set_value_same}
use Rattle.tcap_invocation.specs.declared.invocations.Invocation.{Invocation}
use Rattle.tcap_invocation.specs.declared.invocations.timers.Timer.{Timer}
use Rattle.tcap_invocation.specs.declared.stage.Stage.{Stage}
use Rattle.tcap_invocation.specs.declared.stage.Stage.TheVariants.{Queued, Sent, Waiting}
use Rattle.tcap_invocation.specs.Order.{in_order_by}
use Rattle.tcap_invocation.specs.Stage.{moment_limit, IsTimely, sent_stage}
use Rattle.tcap_invocation.specs.Invocations.{Row, AllAbove, AreInOrder, without, sent_entry, sent_rows}
use Rattle.tcap_invocation.specs.TimerList.{is_earlier, timer_with, timer_of, timers_at, put_timer, sent_place, sent_below}
use Rattle.tcap_invocation.proofs.OrderLemmas.{IsTimely-sent_stage}
use Rattle.tcap_invocation.proofs.SortLemmas.{filter_in_order}
use Rattle.tcap_invocation.proofs.TimerLemmas.{earlier_once, not_earlier, put-swapped}

timer-number : (id : ℤ) (number : ℕ) (s : Stage) (t : Timer) → timer_with id number s ≡ Some t → t.number ≡ number
timer-number id number (Queued timeout) t e = absurd cc
timer-number id number (Sent deadline) t e = grind (arith, e)
timer-number id number (Waiting until) t e = grind (arith, e)

timers_at-cons : (r : Row) (rs : List Row) → timers_at (r ∷ rs) ≡ put_timer (timer_of r) (timers_at rs)
timers_at-cons r rs = go (timer_of r)
  where
    go : (o : Option Timer) → in_order_by is_earlier (cons_option o (filter_map timer_of rs)) ≡ put_timer o (timers_at rs)
    go None = refl
    go (Some t) = refl

-- the timers of two invocations of different numbers are put in either order
swapped : (r s : Row) (ts : List Timer) → r.1.number < s.1.number → put_timer (timer_of r) (put_timer (timer_of s) ts) ≡ put_timer (timer_of s) (put_timer (timer_of r) ts)
swapped r s ts less = go (timer_of r) (timer_of s) refl refl
  where
    go : (o p : Option Timer) → timer_of r ≡ o → timer_of s ≡ p → put_timer o (put_timer p ts) ≡ put_timer p (put_timer o ts)
    go None p d e = refl
    go (Some a) None d e = refl
    go (Some a) (Some b) d e =
        let first : a.number ≡ r.1.number = timer-number r.0 r.1.number r.1.stage a d in
        let second : b.number ≡ s.1.number = timer-number s.0 s.1.number s.1.stage b e in
        put-swapped a b ts (omega (arith, first, second, less))

AllAbove-lookup : (number : ℕ) (test : ℤ → Bool) (rows : List Row) (e : Invocation) → lookup test rows ≡ Some e → AllAbove number rows → number < e.number
AllAbove-lookup number test [] e found h = absurd cc
AllAbove-lookup number test (r ∷ rs) e found h = go (test r.0) found (λ q. AllAbove-lookup number test rs e q h.1)
  where
    go : (b : Bool) → cond b (Some r.1) (lookup test rs) ≡ Some e → (lookup test rs ≡ Some e → number < e.number) → number < e.number
    go true q rest = let same : r.1.number ≡ e.number = ap (λ o. (unwrap_or o e).number) q in let first : number < r.1.number = h.0 in omega (arith, first, same)
    go false q rest = rest q

-- ---- one row is written or taken out

module _ (id : ℤ) (e w : Invocation) (same : w.number ≡ e.number) where
  pub timers_at-set : (rows : List Row) → lookup (int_eq id) rows ≡ Some e → AreInOrder rows → timers_at (set_value (int_eq id) rows w) ≡ put_timer (timer_of (id, w)) (timers_at (without rows id))
  timers_at-set [] found o = absurd cc
  timers_at-set (r ∷ rs) found o = go (int_eq id r.0) refl found (timers_at-set rs)
    where
      go : (b : Bool) → int_eq id r.0 ≡ b → cond b (Some r.1) (lookup (int_eq id) rs) ≡ Some e
          → (lookup (int_eq id) rs ≡ Some e → AreInOrder rs → timers_at (set_value (int_eq id) rs w) ≡ put_timer (timer_of (id, w)) (timers_at (without rs id)))
          → timers_at (cond b ((r.0, w) ∷ rs) (r ∷ set_value (int_eq id) rs w)) ≡ put_timer (timer_of (id, w)) (timers_at (cond b rs (r ∷ without rs id)))
      go true b q rest = timers_at-cons (r.0, w) rs ∙ ap (λ i. put_timer (timer_of (i, w)) (timers_at rs)) (sym ((Decides-int_eq id r.0).0 b))
      go false b q rest =
          let above : r.1.number < e.number = AllAbove-lookup r.1.number (int_eq id) rs e q o.1 in
          timers_at-cons r (set_value (int_eq id) rs w) ∙ ap (put_timer (timer_of r)) (rest q o.2)
          ∙ swapped r (id, w) (timers_at (without rs id)) (omega (arith, above, same))
          ∙ ap (put_timer (timer_of (id, w))) (sym (timers_at-cons r (without rs id)))

pub timers_at-without : (id : ℤ) (e : Invocation) (rows : List Row) → lookup (int_eq id) rows ≡ Some e → AreInOrder rows → timers_at rows ≡ put_timer (timer_of (id, e)) (timers_at (without rows id))
timers_at-without id e rows found o = ap timers_at (sym (set_value_same (int_eq id) rows e found)) ∙ timers_at-set id e e refl rows found o

-- ---- rows are added or taken out by a test

pub timers_at-push : (rows : List Row) (r : Row) → timer_of r ≡ None → timers_at (rows ++ r ∷ []) ≡ timers_at rows
timers_at-push rows r none = ap (in_order_by is_earlier) (more rows)
  where
    more : (rows : List Row) → filter_map timer_of (rows ++ r ∷ []) ≡ filter_map timer_of rows
    more [] = rw none refl
    more (x ∷ xs) = ap (cons_option (timer_of x)) (more xs)

module _ (p : Row → Bool) (q : Timer → Bool) (same : (r : Row) (t : Timer) → timer_of r ≡ Some t → p r ≡ q t) where
  filter_timers : (rows : List Row) → filter_map timer_of (filter p rows) ≡ filter q (filter_map timer_of rows)
  filter_timers [] = refl
  filter_timers (r ∷ rs) = go (timer_of r) refl (p r) refl (filter_timers rs)
    where
      go : (o : Option Timer) → timer_of r ≡ o → (b : Bool) → p r ≡ b → filter_map timer_of (filter p rs) ≡ filter q (filter_map timer_of rs)
          → filter_map timer_of (cond b (r ∷ filter p rs) (filter p rs)) ≡ filter q (cons_option o (filter_map timer_of rs))
      go None d true e rest = rw d rest
      go None d false e rest = rest
      go (Some t) d true e rest = rw (d, sym (same r t d) ∙ e) (ap (λ ts. t ∷ ts) rest)
      go (Some t) d false e rest = rw (sym (same r t d) ∙ e) rest

  pub timers_at-filter : (rows : List Row) → timers_at (filter p rows) ≡ filter q (timers_at rows)
  timers_at-filter rows = ap (in_order_by is_earlier) (filter_timers rows) ∙ sym (filter_in_order is_earlier earlier_once not_earlier q (filter_map timer_of rows))

-- ---- the rows are sent one by one

-- a write by index is that of the sent entry
pub sent_place-written : {S : Type 0} (m : IndexMap ℤ Invocation S) (clock place : ℕ) (rows : List Row) (r : Row) → slice_get rows place ≡ Some r
    → (with_value_at (with_entries m rows) place (sent_entry clock r.1)).entries ≡ sent_place clock place rows
sent_place-written m clock place [] r found = absurd cc
sent_place-written m clock zero (x ∷ xs) r found = let same : r ≡ x = cc in λ i. (x.0, sent_entry clock (same i).1) ∷ xs
sent_place-written m clock (suc place) (x ∷ xs) r found = ap (λ rs. x ∷ rs) (sent_place-written m clock place xs r found)

-- one that isn't Queued stays as it is
pub sent_place-same : (clock place : ℕ) (rows : List Row) (r : Row) → slice_get rows place ≡ Some r → sent_entry clock r.1 ≡ r.1 → sent_place clock place rows ≡ rows
sent_place-same clock place [] r found same = absurd cc
sent_place-same clock zero (x ∷ xs) r found same = let is : r ≡ x = cc in let kept : sent_entry clock x.1 ≡ x.1 = subst (λ (r : Row). sent_entry clock r.1 ≡ r.1) is same in ap (λ e. (x.0, e) ∷ xs) kept
sent_place-same clock (suc place) (x ∷ xs) r found same = ap (λ rs. x ∷ rs) (sent_place-same clock place xs r found same)

AllAbove-get : (number place : ℕ) (rows : List Row) (r : Row) → slice_get rows place ≡ Some r → AllAbove number rows → number < r.1.number
AllAbove-get number place [] r found h = absurd cc
AllAbove-get number zero (x ∷ xs) r found h = let same : x ≡ r = cc in subst (λ (r : Row). number < r.1.number) same h.0
AllAbove-get number (suc place) (x ∷ xs) r found h = AllAbove-get number place xs r found h.1

-- one that is Queued gets its timer
pub timers_at-sent_place : (clock place : ℕ) (rows : List Row) (r : Row) → slice_get rows place ≡ Some r → timer_of r ≡ None → AreInOrder rows
    → timers_at (sent_place clock place rows) ≡ put_timer (timer_of (r.0, sent_entry clock r.1)) (timers_at rows)
timers_at-sent_place clock place [] r found none o = absurd cc
timers_at-sent_place clock zero (x ∷ xs) r found none o =
    let same : x ≡ r = cc in
    let out : timers_at (x ∷ xs) ≡ timers_at xs = timers_at-cons x xs ∙ ap (λ (o : Option Timer). put_timer o (timers_at xs)) (ap timer_of same ∙ none) in
    timers_at-cons (x.0, sent_entry clock x.1) xs
    ∙ ap (λ (r : Row). put_timer (timer_of (r.0, sent_entry clock r.1)) (timers_at xs)) same
    ∙ ap (put_timer (timer_of (r.0, sent_entry clock r.1))) (sym out)
timers_at-sent_place clock (suc place) (x ∷ xs) r found none o =
    timers_at-cons x (sent_place clock place xs) ∙ ap (put_timer (timer_of x)) (timers_at-sent_place clock place xs r found none o.2)
    ∙ swapped x (r.0, sent_entry clock r.1) (timers_at xs) (AllAbove-get x.1.number place xs r found o.1)
    ∙ ap (put_timer (timer_of (r.0, sent_entry clock r.1))) (sym (timers_at-cons x xs))

AllAbove-sent_place : (clock place number : ℕ) (rows : List Row) → AllAbove number rows → AllAbove number (sent_place clock place rows)
AllAbove-sent_place clock place number [] h = tt
AllAbove-sent_place clock zero number (x ∷ xs) h = h
AllAbove-sent_place clock (suc place) number (x ∷ xs) h = (h.0, AllAbove-sent_place clock place number xs h.1)

pub AreInOrder-sent_place : (clock place : ℕ) (rows : List Row) → clock ≤ moment_limit → AreInOrder rows → AreInOrder (sent_place clock place rows)
AreInOrder-sent_place clock place [] late o = tt
AreInOrder-sent_place clock zero (x ∷ xs) late o = (IsTimely-sent_stage clock x.1.stage late o.0, o.1, o.2)
AreInOrder-sent_place clock (suc place) (x ∷ xs) late o = (o.0, AllAbove-sent_place clock place x.1.number xs o.1, AreInOrder-sent_place clock place xs late o.2)

pub IsTimely-get : (place : ℕ) (rows : List Row) (r : Row) → slice_get rows place ≡ Some r → AreInOrder rows → IsTimely r.1.stage
IsTimely-get place [] r found o = absurd cc
IsTimely-get zero (x ∷ xs) r found o = let same : x ≡ r = cc in subst (λ (r : Row). IsTimely r.1.stage) same o.0
IsTimely-get (suc place) (x ∷ xs) r found o = IsTimely-get place xs r found o.2

-- all of them are sent so
pub sent_below-cons : (clock place : ℕ) (r : Row) (rs : List Row) → sent_below clock (suc place) (r ∷ rs) ≡ (r.0, sent_entry clock r.1) ∷ sent_below clock place rs
sent_below-cons clock zero r rs = refl
sent_below-cons clock (suc place) r rs = ap (sent_place clock (suc place)) (sent_below-cons clock place r rs)

sent_below-none : (clock place : ℕ) → sent_below clock place [] ≡ []
sent_below-none clock zero = refl
sent_below-none clock (suc place) = ap (sent_place clock place) (sent_below-none clock place)

pub sent_below-all : (clock place : ℕ) (rows : List Row) → length rows ≤ place → sent_below clock place rows ≡ sent_rows clock rows
sent_below-all clock place [] all = sent_below-none clock place
sent_below-all clock zero (r ∷ rs) all = absurd (omega (arith, all))
sent_below-all clock (suc place) (r ∷ rs) all = sent_below-cons clock place r rs ∙ ap (λ (l : List Row). (r.0, sent_entry clock r.1) ∷ l) (sent_below-all clock place rs (omega (arith, all)))

pub length-sent_place : (clock place : ℕ) (rows : List Row) → length (sent_place clock place rows) ≡ length rows
length-sent_place clock place [] = refl
length-sent_place clock zero (x ∷ xs) = refl
length-sent_place clock (suc place) (x ∷ xs) = ap suc (length-sent_place clock place xs)

-- what no place has stays
pub sent_place-past : (clock place : ℕ) (rows : List Row) → slice_get rows place ≡ None → sent_place clock place rows ≡ rows
sent_place-past clock place [] none = refl
sent_place-past clock zero (x ∷ xs) none = absurd cc
sent_place-past clock (suc place) (x ∷ xs) none = ap (λ rs. x ∷ rs) (sent_place-past clock place xs none)

pub sent_entry-same : (clock : ℕ) (e : Invocation) → ((timeout : ℕ) → e.stage ≡ Queued timeout → ⊥) → sent_entry clock e ≡ e
sent_entry-same clock e other = ap (λ (s : Stage). record e { stage = s }) (same e.stage other)
  where
    same : (s : Stage) → ((timeout : ℕ) → s ≡ Queued timeout → ⊥) → sent_stage clock s ≡ s
    same (Queued timeout) other = absurd (other timeout refl)
    same (Sent deadline) other = refl
    same (Waiting until) other = refl
