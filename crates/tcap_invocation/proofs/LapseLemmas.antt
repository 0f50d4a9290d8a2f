-- Lapses in their order: two lists in order of the same lapses are one.
use Rattle.std.proofs.Common.{◌≡◌, ℕ, ℤ, ◌<◌, true, false, List, [], ◌∷◌, Option, Some, None, refl, ap, sym, ◌∙◌, arith, tests, ◌==◌, unwrap_or, if◌then◌else◌}
use Rattle.std.specs.List.{AllByRecursion, cons_option}
use Rattle.tcap_invocation.specs.declared.invocations.lapse.Lapse.{Lapse}
use Rattle.tcap_invocation.specs.Invocations.{Row, AllAbove, AreInOrder}
use Rattle.tcap_invocation.specs.Lapses.{lapse_with, lapse_of, due_deadline, due_at, is_before, in_order}
use Rattle.tcap_invocation.proofs.InsertionLemmas.{Ordered, total, ordered_in_order, one_order}

-- ---- the order

before_once : (a b : Lapse) → is_before a b ≡ true → is_before b a ≡ false
before_once a b h = grind (arith, tests, h)

not_before : (a b c : Lapse) → is_before b a ≡ false → is_before c b ≡ false → is_before c a ≡ false
not_before a b c h k = grind (arith, tests, h, k)

same_number : (a b : Lapse) → is_before a b ≡ false → is_before b a ≡ false → a.number ≡ b.number
same_number a b h k = grind (arith, tests, h, k)

never : (a : Lapse) → is_before a a ≡ false
never a = grind (arith, tests)

-- what is told is in order
pub in_order-ordered : (ls : List Lapse) → Ordered is_before (in_order ls)
in_order-ordered ls = ordered_in_order is_before before_once not_before ls

-- ---- a number has one lapse at most: the one of the row with the number

abbrev numbered : ℕ → List Row → ℕ → Option Lapse
numbered clock [] number = None
numbered clock (r ∷ rs) number = if r.1.number == number then lapse_of clock r else numbered clock rs number

lapse_number : (id : ℤ) (number : ℕ) (o : Option ℕ) (l : Lapse) → lapse_with id number o ≡ Some l → l.number ≡ number
lapse_number id number None l e = cc
lapse_number id number (Some deadline) l e = grind (arith, e)

above_due : (clock number : ℕ) (rows : List Row) → AllAbove number rows → AllByRecursion (λ l. number < l.number) (due_at clock rows)
above_due clock number [] a = tt
above_due clock number (r ∷ rs) a = go (lapse_of clock r) refl (above_due clock number rs a.1)
  where
    go : (o : Option Lapse) → lapse_of clock r ≡ o → AllByRecursion (λ l. number < l.number) (due_at clock rs) → AllByRecursion (λ l. number < l.number) (cons_option o (due_at clock rs))
    go None e rest = rest
    go (Some l) e rest =
        let is : l.number ≡ r.1.number = lapse_number r.0 r.1.number (due_deadline clock r.1.stage) l e in
        let above : number < r.1.number = a.0 in
        (omega (arith, above, is), rest)

-- a lapse is the one of the row with its number
abbrev pub IsNumbered : ℕ → List Row → Lapse → Type 0
IsNumbered clock rows l = numbered clock rows l.number ≡ Some l

numbered_more : (clock : ℕ) (r : Row) (rs : List Row) (ls : List Lapse) → AllByRecursion (λ l. r.1.number < l.number) ls → AllByRecursion (IsNumbered clock rs) ls → AllByRecursion (IsNumbered clock (r ∷ rs)) ls
numbered_more clock r rs [] above a = tt
numbered_more clock r rs (l ∷ ls) above a =
    let after : r.1.number < l.number = above.0 in
    let other : (r.1.number == l.number) ≡ false = grind (arith, tests, after) in
    (rw other a.0, numbered_more clock r rs ls above.1 a.1)

pub numbered_due : (clock : ℕ) (rows : List Row) → AreInOrder rows → AllByRecursion (IsNumbered clock rows) (due_at clock rows)
numbered_due clock [] o = tt
numbered_due clock (r ∷ rs) o = go (lapse_of clock r) refl (numbered_more clock r rs (due_at clock rs) (above_due clock r.1.number rs o.1) (numbered_due clock rs o.2))
  where
    go : (l : Option Lapse) → lapse_of clock r ≡ l → AllByRecursion (IsNumbered clock (r ∷ rs)) (due_at clock rs) → AllByRecursion (IsNumbered clock (r ∷ rs)) (cons_option l (due_at clock rs))
    go None e rest = rest
    go (Some l) e rest =
        let is : l.number ≡ r.1.number = lapse_number r.0 r.1.number (due_deadline clock r.1.stage) l e in
        let own : (r.1.number == l.number) ≡ true = grind (arith, tests, is) in
        (rw own e, rest)

-- lists of such lapses that are in order and have the same elements are one
pub one_told : (clock : ℕ) (rows : List Row) (xs ys : List Lapse) → AllByRecursion (IsNumbered clock rows) xs → AllByRecursion (IsNumbered clock rows) ys → Ordered is_before xs → Ordered is_before ys
    → ((f : Lapse → ℕ) → total f xs ≡ total f ys) → xs ≡ ys
one_told clock rows =
    one_order is_before never (IsNumbered clock rows)
    (λ a b i j p q. ap (λ o. unwrap_or o a) (sym i ∙ ap (numbered clock rows) (same_number a b p q) ∙ j))
