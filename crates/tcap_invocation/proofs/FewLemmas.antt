-- What a walk over few rows finds: the place of an identifier, the first of some moments or lapses, and all
-- that is due, sorted.
use Rattle.std.proofs.Common.{◌≡◌, ℕ, zero, suc, ℤ, ◌+◌, ◌<◌, Bool, true, false, cond, List, [], ◌∷◌, length, remove, slice_index_or, slice_set, Option, Some, None, refl, ap, sym, subst, ◌∙◌, arith, tests, nat_lt, nat_le, ◌==◌, ◌||◌, ◌&&◌, sum_by, get_or, if◌then◌else◌}
use Rattle.std.specs.Prelude.{filter_map}
use Rattle.std.specs.List.{AllPass, AllByRecursion, cons_option, position_from}
use Rattle.std.specs.List.Sorted.{IsSorted, IsPermutation}
use Rattle.std.specs.declared.cmp.Ordering.{Ordering}
use Rattle.std.specs.declared.cmp.Ordering.TheVariants.{Less, Equal, Greater}
use Rattle.std.specs.Ordering.{is_lt, ordering_then, then_cmp, on, nat_cmp, int_cmp}
use Rattle.std.specs.Map.{lookup, remove_entry, set_value}
use Rattle.std.proofs.lemmas.List.Elements.{recursion_from_All, All-from_recursion}
use Rattle.std.proofs.lemmas.List.Sorted.{All-permutation, sum_by-IsPermutation}
use Rattle.std.proofs.lemmas.List.Sums.{sum_by-cons}
use Rattle.tcap_invocation.specs.declared.invocations.Invocation.{Invocation}
use Rattle.tcap_invocation.specs.declared.invocations.lapse.Lapse.{Lapse}
use Rattle.tcap_invocation.specs.declared.stage.Stage.{Stage}
use Rattle.tcap_invocation.specs.declared.stage.Stage.TheVariants.{Queued, Sent}
use Rattle.tcap_invocation.specs.Stage.{sent_stage}
use Rattle.tcap_invocation.specs.Order.{in_order_by, first_of}
use Rattle.tcap_invocation.specs.Invocations.{Row, AllAbove, AllBelow, AreInOrder}
use Rattle.tcap_invocation.specs.Lapses.{due_deadline, lapse_with, lapse_of, due_at, is_before, in_order, told_at, first_due_at}
use Rattle.tcap_invocation.specs.TimerList.{sent_place, sent_below}
use Rattle.tcap_invocation.specs.Timers.{time_of, next_timer_at}
use Rattle.tcap_invocation.proofs.InsertionLemmas.{Ordered, total, total_in_order, length-in_order, all_in_order, ahead_later, front, first_of-put}
use Rattle.tcap_invocation.proofs.LapseLemmas.{in_order-ordered, IsNumbered, numbered_due, one_told}
use Rattle.tcap_invocation.proofs.TimedLemmas.{length-sent_place}

-- ---- the first place whose identifier passes a test

pub record IsPlaced (test : ℤ → Bool) (rows : List Row) (place : ℕ) : Type 0 where
  pub within : place < length rows
  pub entry : (d : Row) → lookup test rows ≡ Some (slice_index_or rows place d).1
  pub left : remove rows place ≡ remove_entry test rows
  pub written : (d : Row) (w : Invocation) → slice_set rows place ((slice_index_or rows place d).0, w) ≡ set_value test rows w

module _ (test : ℤ → Bool) where
  placed_from : (i : ℕ) (rows : List Row) (p : ℕ) → position_from (λ (r : Row). test r.0) i rows ≡ Some p → (k : ℕ) × (p ≡ k + i) × IsPlaced test rows k
  placed_from i [] p e = absurd cc
  placed_from i (r ∷ rs) p e = go (test r.0) refl e (placed_from (i + 1) rs p)
    where
      go : (b : Bool) → test r.0 ≡ b → cond b (Some i) (position_from (λ (r : Row). test r.0) (i + 1) rs) ≡ Some p
          → (position_from (λ (r : Row). test r.0) (i + 1) rs ≡ Some p → (k : ℕ) × (p ≡ k + (i + 1)) × IsPlaced test rs k) → (k : ℕ) × (p ≡ k + i) × IsPlaced test (r ∷ rs) k
      go true t e rest = (0, (let same : i ≡ p = cc in omega (arith, same)), record { within = omega arith; entry = λ d. rw t refl; left = rw t refl; written = λ d w. rw t refl })
      go false t e rest =
          let q = rest e in
          let far = q.1 in
          let low = q.2.within in (
            suc q.0,
            omega (arith, far),
            record {
              within = omega (arith, low);
              entry = λ d. rw t (q.2.entry d);
              left = rw t (ap (λ (l : List Row). r ∷ l) q.2.left);
              written = λ d w. rw t (ap (λ (l : List Row). r ∷ l) (q.2.written d w));
            },
          )

  pub placed : (rows : List Row) (p : ℕ) → position_from (λ (r : Row). test r.0) 0 rows ≡ Some p → IsPlaced test rows p
  placed rows p e =
      let q = placed_from 0 rows p e in
      let far = q.1 in
      let same : q.0 ≡ p = omega (arith, far) in
      subst (IsPlaced test rows) same q.2

  unplaced_from : (i : ℕ) (rows : List Row) → position_from (λ (r : Row). test r.0) i rows ≡ None → (lookup test rows ≡ None) × (remove_entry test rows ≡ rows)
  unplaced_from i [] e = (refl, refl)
  unplaced_from i (r ∷ rs) e = go (test r.0) refl e (unplaced_from (i + 1) rs)
    where
      go : (b : Bool) → test r.0 ≡ b → cond b (Some i) (position_from (λ (r : Row). test r.0) (i + 1) rs) ≡ None
          → (position_from (λ (r : Row). test r.0) (i + 1) rs ≡ None → (lookup test rs ≡ None) × (remove_entry test rs ≡ rs)) → (lookup test (r ∷ rs) ≡ None) × (remove_entry test (r ∷ rs) ≡ r ∷ rs)
      go true t e rest = absurd cc
      go false t e rest = let q = rest e in (rw t q.0, rw t (ap (λ (l : List Row). r ∷ l) q.1))

  pub unplaced : (rows : List Row) → position_from (λ (r : Row). test r.0) 0 rows ≡ None → (lookup test rows ≡ None) × (remove_entry test rows ≡ rows)
  unplaced rows e = unplaced_from 0 rows e

-- ---- a write by place is that of the sent entry

pub sent_place-set : (clock place timeout : ℕ) (rows : List Row) (r m : Row) → r ≡ slice_index_or rows place r → m ≡ slice_index_or rows place m → place < length rows → r.1.stage ≡ Queued timeout
    → slice_set rows place (m.0, record m.1 { stage = Sent (clock + timeout) }) ≡ sent_place clock place rows
sent_place-set clock place timeout [] r m read write within is = absurd (omega (arith, within))
sent_place-set clock zero timeout (x ∷ xs) r m read write within is =
    let queued : x.1.stage ≡ Queued timeout = subst (λ (y : Row). y.1.stage ≡ Queued timeout) read is in
    ap (λ (y : Row). (y.0, record y.1 { stage = Sent (clock + timeout) }) ∷ xs) write
    ∙ ap (λ (s : Stage). (x.0, record x.1 { stage = s }) ∷ xs) (sym (ap (sent_stage clock) queued))
sent_place-set clock (suc place) timeout (x ∷ xs) r m read write within is = ap (λ (rs : List Row). x ∷ rs) (sent_place-set clock place timeout xs r m read write (omega (arith, within)) is)

pub length-sent_below : (clock place : ℕ) (rows : List Row) → length (sent_below clock place rows) ≡ length rows
length-sent_below clock zero rows = refl
length-sent_below clock (suc place) rows = length-sent_place clock place (sent_below clock place rows) ∙ length-sent_below clock place rows

-- ---- the numbers of the rows are below one

pub AllBelow-rows : (number : ℕ) (rows : List Row) → AllPass (λ (r : Row). nat_lt r.1.number number) rows → AllBelow number rows
AllBelow-rows number rows h = below rows (recursion_from_All (λ (r : Row). nat_lt r.1.number number ≡ true) rows h)
  where
    below : (rows : List Row) → AllByRecursion (λ (r : Row). nat_lt r.1.number number ≡ true) rows → AllBelow number rows
    below [] h = tt
    below (r ∷ rs) h = (let first = h.0 in grind (arith, tests, first), below rs h.1)

pub AllBelow-rows_again : (number : ℕ) (rows : List Row) → AllBelow number rows → AllPass (λ (r : Row). nat_lt r.1.number number) rows
AllBelow-rows_again number rows h = All-from_recursion (λ (r : Row). nat_lt r.1.number number ≡ true) rows (pass rows h)
  where
    pass : (rows : List Row) → AllBelow number rows → AllByRecursion (λ (r : Row). nat_lt r.1.number number ≡ true) rows
    pass [] h = tt
    pass (r ∷ rs) h = (let first = h.0 in grind (arith, tests, first), pass rs h.1)

-- ---- the first of what was found and of what is told of the rest

module _ {A : Type 0} (before : A → A → Bool) where
  abbrev pub first_both : Option A → Option A → Option A
  first_both None o = o
  first_both (Some a) o = Some (front before a o)

  pub first_both-none : (o : Option A) → first_both o None ≡ o
  first_both-none None = refl
  first_both-none (Some a) = refl

  pub first_of-cons : (o : Option A) (xs : List A) → first_of (in_order_by before (cons_option o xs)) ≡ first_both o (first_of (in_order_by before xs))
  first_of-cons None xs = refl
  first_of-cons (Some x) xs = first_of-put before x (in_order_by before xs)

  module _ (trans : (a b c : A) → before a b ≡ true → before b c ≡ true → before a c ≡ true) (behind : (a b c : A) → before b a ≡ false → before c b ≡ false → before c a ≡ false) where
    pub both_both : (a b c : Option A) → first_both (first_both a b) c ≡ first_both a (first_both b c)
    both_both None b c = refl
    both_both (Some x) None c = refl
    both_both (Some x) (Some y) None = refl
    both_both (Some x) (Some y) (Some z) = ap Some (go (before y x) (before z y) refl refl)
      where
        go : (p q : Bool) → before y x ≡ p → before z y ≡ q → front before (cond p y x) (Some z) ≡ front before x (Some (cond q z y))
        go true true d e = rw (e, trans z y x e d) refl
        go true false d e = rw (e, d) refl
        go false true d e = refl
        go false false d e = rw (behind x y z d e, d) refl

-- the least moment

abbrev pub least_from : Option ℕ → List Row → Option ℕ
least_from least [] = least
least_from least (r ∷ rs) = least_from (first_both nat_lt least (time_of r.1.stage)) rs

lt_lt : (a b c : ℕ) → nat_lt a b ≡ true → nat_lt b c ≡ true → nat_lt a c ≡ true
lt_lt a b c h k = grind (arith, tests, h, k)

not_lt : (a b c : ℕ) → nat_lt b a ≡ false → nat_lt c b ≡ false → nat_lt c a ≡ false
not_lt a b c h k = grind (arith, tests, h, k)

least_from-both : (least : Option ℕ) (rows : List Row) → least_from least rows ≡ first_both nat_lt least (next_timer_at rows)
least_from-both least [] = sym (first_both-none nat_lt least)
least_from-both least (r ∷ rs) =
    least_from-both (first_both nat_lt least (time_of r.1.stage)) rs
    ∙ both_both nat_lt lt_lt not_lt least (time_of r.1.stage) (next_timer_at rs)
    ∙ ap (first_both nat_lt least) (sym (first_of-cons nat_lt (time_of r.1.stage) (filter_map (λ r. time_of r.1.stage) rs)))

pub least_from-all : (rows : List Row) → least_from None rows ≡ next_timer_at rows
least_from-all rows = least_from-both None rows

-- the lapse that is told first: of two of one deadline the one that was found before, since the numbers rise

abbrev pub earlier : Option Lapse → Lapse → Lapse
earlier None l = l
earlier (Some f) l = if nat_le f.deadline l.deadline then f else l

abbrev pub sooner : Option Lapse → Option Lapse → Option Lapse
sooner first None = first
sooner first (Some l) = Some (earlier first l)

abbrev pub first_due_from : ℕ → Option Lapse → List Row → Option Lapse
first_due_from clock first [] = first
first_due_from clock first (r ∷ rs) = first_due_from clock (sooner first (lapse_of clock r)) rs

abbrev AllAfter : Option Lapse → List Row → Type 0
AllAfter None rows = Unit {0}
AllAfter (Some l) rows = AllAbove l.number rows

before_before : (a b c : Lapse) → is_before a b ≡ true → is_before b c ≡ true → is_before a c ≡ true
before_before a b c h k = grind (arith, tests, h, k)

before_once : (a b : Lapse) → is_before a b ≡ true → is_before b a ≡ false
before_once a b h = grind (arith, tests, h)

not_before : (a b c : Lapse) → is_before b a ≡ false → is_before c b ≡ false → is_before c a ≡ false
not_before a b c h k = grind (arith, tests, h, k)

found_before : (f l : Lapse) → f.number < l.number → nat_le f.deadline l.deadline ≡ true → is_before l f ≡ false
found_before f l above h = grind (arith, tests, above, h)

found_after : (f l : Lapse) → nat_le f.deadline l.deadline ≡ false → is_before l f ≡ true
found_after f l h = grind (arith, tests, h)

lapse_number : (id : ℤ) (number : ℕ) (o : Option ℕ) (l : Lapse) → lapse_with id number o ≡ Some l → l.number ≡ number
lapse_number id number None l e = cc
lapse_number id number (Some deadline) l e = grind (arith, e)

module _ (clock : ℕ) (r : Row) (rs : List Row) (l : Lapse) (told : lapse_of clock r ≡ Some l) (order : AreInOrder (r ∷ rs)) where
  is_own : l.number ≡ r.1.number
  is_own = lapse_number r.0 r.1.number (due_deadline clock r.1.stage) l told

  own_after : AllAbove l.number rs
  own_after = subst (λ (n : ℕ). AllAbove n rs) (sym is_own) order.1

  earlier-both : (first : Option Lapse) → AllAfter first (r ∷ rs) → Some (earlier first l) ≡ first_both is_before first (Some l)
  earlier-both None after = refl
  earlier-both (Some f) after = ap Some (go (nat_le f.deadline l.deadline) refl)
    where
      go : (b : Bool) → nat_le f.deadline l.deadline ≡ b → cond b f l ≡ front is_before f (Some l)
      go true e =
          let below : f.number < r.1.number = after.0 in
          let own = is_own in
          rw (found_before f l (omega (arith, below, own)) e) refl
      go false e = rw (found_after f l e) refl

  AllAfter-earlier : (first : Option Lapse) → AllAfter first (r ∷ rs) → AllAfter (Some (earlier first l)) rs
  AllAfter-earlier None after = own_after
  AllAfter-earlier (Some f) after = go (nat_le f.deadline l.deadline)
    where
      go : (b : Bool) → AllAbove (cond b f l).number rs
      go true = after.1
      go false = own_after

first_due_from-both : (clock : ℕ) (first : Option Lapse) (rows : List Row) → AreInOrder rows → AllAfter first rows → first_due_from clock first rows ≡ first_both is_before first (first_due_at clock rows)
first_due_from-both clock first [] order after = sym (first_both-none is_before first)
first_due_from-both clock first (r ∷ rs) order after = go (lapse_of clock r) refl (λ o a. first_due_from-both clock o rs order.2 a)
  where
    rest : (first : Option Lapse) → AllAfter first (r ∷ rs) → AllAfter first rs
    rest None after = tt
    rest (Some f) after = after.1

    go : (o : Option Lapse) → lapse_of clock r ≡ o
        → ((o : Option Lapse) → AllAfter o rs → first_due_from clock o rs ≡ first_both is_before o (first_due_at clock rs))
        → first_due_from clock (sooner first o) rs ≡ first_both is_before first (first_of (in_order_by is_before (cons_option o (due_at clock rs))))
    go None told more = more first (rest first after)
    go (Some l) told more =
        more (Some (earlier first l)) (AllAfter-earlier clock r rs l told order first after)
        ∙ ap (λ (o : Option Lapse). first_both is_before o (first_due_at clock rs)) (earlier-both clock r rs l told order first after)
        ∙ both_both is_before before_before not_before first (Some l) (first_due_at clock rs)
        ∙ ap (first_both is_before first) (sym (first_of-cons is_before (Some l) (due_at clock rs)))

pub first_due_from-all : (clock : ℕ) (rows : List Row) → AreInOrder rows → first_due_from clock None rows ≡ first_due_at clock rows
first_due_from-all clock rows order = first_due_from-both clock None rows order tt

-- ---- what is due, sorted, is what is told

-- the order that the code sorts by: deadline, number, identifier
abbrev pub derived_cmp : Lapse → Lapse → Ordering
derived_cmp = then_cmp (on (λ l. l.deadline) nat_cmp) (then_cmp (on (λ l. l.number) nat_cmp) (on (λ l. l.id) int_cmp))

before_derived : (a b : Lapse) → is_lt (derived_cmp a b) ≡ false → is_before a b ≡ false
before_derived a b = go (nat_lt a.deadline b.deadline) (a.deadline == b.deadline) (nat_lt a.number b.number) (a.number == b.number) (int_cmp a.id b.id)
  where
    go : (p q r s : Bool) (t : Ordering) → is_lt (ordering_then (cond p Less (cond q Equal Greater)) (ordering_then (cond r Less (cond s Equal Greater)) t)) ≡ false → p || (q && r) ≡ false
    go true q r s t h = h
    go false false r s t h = refl
    go false true true s t h = h
    go false true false s t h = refl

ordered_sorted : (xs : List Lapse) → IsSorted derived_cmp xs → Ordered is_before xs
ordered_sorted [] s = tt
ordered_sorted (x ∷ []) s = (tt, tt)
ordered_sorted (x ∷ y ∷ ys) s =
    let head : is_before y x ≡ false = before_derived y x (s 0 x (omega arith) (omega arith)) in
    let rest : IsSorted derived_cmp (y ∷ ys) =
    λ k d low high. let e : suc (k + 1) ≡ suc k + 1 = omega arith in
    ap (λ n. is_lt (derived_cmp (get_or (x ∷ y ∷ ys) n d) (get_or (y ∷ ys) k d))) e ∙ s (suc k) d (omega arith) (omega (arith, high)) in
    let o = ordered_sorted (y ∷ ys) rest in
    ((head, ahead_later is_before before_once not_before x y ys head o.0), o)

total-sum_by : (f : Lapse → ℕ) (xs : List Lapse) → sum_by f xs ≡ total f xs
total-sum_by f [] = refl
total-sum_by f (x ∷ xs) = sum_by-cons f x xs ∙ ap (λ n. f x + n) (total-sum_by f xs)

pub told_at-sorted : (clock : ℕ) (rows : List Row) (v : List Lapse) → AreInOrder rows → IsPermutation (due_at clock rows) v → IsSorted derived_cmp v → v ≡ told_at clock rows
told_at-sorted clock rows v o moved s =
    let due : List Lapse = due_at clock rows in
    let known : AllByRecursion (IsNumbered clock rows) due = numbered_due clock rows o in
    let known_v : AllByRecursion (IsNumbered clock rows) v = recursion_from_All (IsNumbered clock rows) v (All-permutation (IsNumbered clock rows) due v moved (All-from_recursion (IsNumbered clock rows) due known)) in
    one_told clock rows v (in_order due) known_v (all_in_order is_before (IsNumbered clock rows) due known) (ordered_sorted v s) (in_order-ordered due)
    (λ f. sym (total-sum_by f v) ∙ sum_by-IsPermutation f due v moved ∙ total-sum_by f due ∙ sym (total_in_order is_before f due))

-- as much is told as is due
pub told_at-due : (clock : ℕ) (rows : List Row) → told_at clock rows ≡ [] → due_at clock rows ≡ []
told_at-due clock rows none = let k = length-in_order is_before (due_at clock rows) in let e = ap length none in all (due_at clock rows) (omega (arith, k, e))
  where
    all : (ls : List Lapse) → length ls ≡ 0 → ls ≡ []
    all [] e = refl
    all (l ∷ ls) e = absurd (omega (arith, e))
