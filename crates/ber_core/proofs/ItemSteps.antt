-- The items of a list of elements.
use Rattle.std.proofs.Common.{◌≡◌, ℕ, zero, suc, ◌<◌, ◌≤◌, List, [], ◌∷◌, ◌++◌, length, Ok, Err, Result, refl, sym, ap, ◌∙◌, arith, eqb, inl, inr}
use Rattle.std.specs.Prelude.{Bool, true, false, is_ok, map, option_map, MatchOption, Option, Some, None}
use Rattle.std.specs.Iterator.{YieldsFirstBy, MakesProgress, item_count}
use Rattle.std.proofs.lemmas.Bool.{eqb-true, eqb-false}
use Rattle.ber_core.proofs.ResultSteps.{chosen_by}
use Rattle.ber_core.proofs.OptionSteps.{some_is}
use Rattle.std.specs.List.{AllByRecursion, list_all}
use Rattle.ber_core.specs.declared.fault.BerFault.{BerFault}
use Rattle.ber_core.specs.Element.{Parts, IsElement, joined}
use Rattle.ber_core.specs.ElementReading.{element_at}
use Rattle.ber_core.specs.ListReading.{items_by, items_of, items_from, item_of, no_item, item_at}
use Rattle.ber_core.proofs.ElementGrammar.{element_takes, element_again, IsElement-longer}

pub shorter : (bytes rest : List ℕ) (e : Parts) → element_at 32 bytes ≡ Ok (e, rest) → length rest < length bytes
shorter bytes rest e is = let t = element_takes 32 bytes (e, rest) is in IsElement-longer 32 e rest bytes t.0 t.1

abbrev from_is : (others : List ℕ → List (Result Parts BerFault)) (more : List ℕ → List (Result Parts BerFault)) (bytes : List ℕ) → ((rest : List ℕ) → length rest < length bytes → others rest ≡ more rest) → (r : Result (Parts × List ℕ) BerFault) → element_at 32 bytes ≡ r → items_from others r ≡ items_from more r
from_is others more bytes same (Ok r) e = ap (λ (w : List (Result Parts BerFault)). Ok r.0 ∷ w) (same r.1 (shorter bytes r.1 r.0 e))
from_is others more bytes same (Err f) e = refl

-- more fuel changes nothing
pub items_by-enough : (n m : ℕ) (bytes : List ℕ) → length bytes ≤ n → length bytes ≤ m → items_by n bytes ≡ items_by m bytes
unfolding items_by
items_by-enough n m [] p q = refl
items_by-enough zero m (b ∷ bytes) p q = absurd (omega arith)
items_by-enough (suc n) zero (b ∷ bytes) p q = absurd (omega arith)
items_by-enough (suc n) (suc m) (b ∷ bytes) p q =
    from_is (items_by n) (items_by m) (b ∷ bytes) (λ rest lt. items_by-enough n m rest (omega arith) (omega arith)) (element_at 32 (b ∷ bytes)) refl

pub items_of-empty : items_of [] ≡ []
unfolding items_by
items_of-empty = refl

pub items_of-next : (bytes rest : List ℕ) (e : Parts) → element_at 32 bytes ≡ Ok (e, rest) → items_of bytes ≡ Ok e ∷ items_of rest
unfolding items_by
items_of-next [] rest e is = let lt : length rest < 0 = shorter [] rest e is in absurd (omega arith)
items_of-next (b ∷ bytes) rest e is =
    let lt : length rest < length (b ∷ bytes) = shorter (b ∷ bytes) rest e is in
    rw is (ap (λ (w : List (Result Parts BerFault)). Ok e ∷ w) (items_by-enough (length bytes) (length rest) rest (omega arith) (omega arith)))

pub items_of-fault : (bytes : List ℕ) (f : BerFault) → 0 < length bytes → element_at 32 bytes ≡ Err f → items_of bytes ≡ Err f ∷ []
unfolding items_by
items_of-fault [] f lt is = absurd (omega arith)
items_of-fault (b ∷ bytes) f lt is = rw is refl

pub items_of-none : (bytes : List ℕ) → length bytes ≡ 0 → items_of bytes ≡ []
unfolding items_by
items_of-none [] e = refl
items_of-none (b ∷ bytes) e = absurd (omega arith)

module _ {X : Type 0} (view : X → Result Parts BerFault) where
  abbrev pub ItemSteps : List ℕ → Option X → List ℕ → Type 0
  ItemSteps bytes o rest = MatchOption o ((items_of bytes ≡ []) × (items_of rest ≡ [])) (λ x. items_of bytes ≡ view x ∷ items_of rest)

  abbrev seen : Option X → List ℕ → Option (Result Parts BerFault) × List ℕ
  seen o rest = (option_map view o, rest)

  empty_steps : (bytes : List ℕ) (o : Option X) (rest : List ℕ) → length bytes ≡ 0 → seen o rest ≡ no_item → ItemSteps bytes o rest
  empty_steps bytes None rest e is = (items_of-none bytes e, ap items_of (ap (λ p. p.1) is) ∙ items_of-empty)
  empty_steps bytes (Some x) rest e is = let first = ap (λ p. p.0) is in absurd cc

  filled_steps : (bytes : List ℕ) (o : Option X) (rest : List ℕ) (r : Result (Parts × List ℕ) BerFault) → 0 < length bytes → element_at 32 bytes ≡ r → seen o rest ≡ item_of r → ItemSteps bytes o rest
  filled_steps bytes None rest (Ok p) lt e is = let first = ap (λ p. p.0) is in absurd cc
  filled_steps bytes None rest (Err f) lt e is = let first = ap (λ p. p.0) is in absurd cc
  filled_steps bytes (Some x) rest (Ok p) lt e is =
      let same : view x ≡ Ok p.0 = some_is (view x) (Ok p.0) (ap (λ q. q.0) is) in
      rw (items_of-next bytes p.1 p.0 e, same, ap (λ q. q.1) is) refl
  filled_steps bytes (Some x) rest (Err f) lt e is =
      let same : view x ≡ Err f = some_is (view x) (Err f) (ap (λ q. q.0) is) in
      rw (items_of-fault bytes f lt e, same, ap (λ q. q.1) is) (rw items_of-empty refl)

  -- the first item, and the items behind it
  pub item_steps : (bytes : List ℕ) (o : Option X) (rest : List ℕ) → seen o rest ≡ item_at bytes → ItemSteps bytes o rest
  unfolding item_at
  item_steps bytes o rest is = elim (chosen_by (eqb (length bytes) 0) no_item (item_of (element_at 32 bytes)) (seen o rest) (sym is)) [
    | inl e ↦ empty_steps bytes o rest (eqb-true (length bytes) 0 e.0) (sym e.1)
    | inr e ↦ let filled = eqb-false (length bytes) 0 e.0 in filled_steps bytes o rest (element_at 32 bytes) (omega (arith, filled)) refl (sym e.1)
  ]

-- each item leaves fewer
pub item_progress : {S X : Type 0} (view : X → Result Parts BerFault) (left : S → List (Result Parts BerFault)) (s t : S) (o : Option X) → YieldsFirstBy view left s o t → MakesProgress (λ _. Unit {0}) (item_count left) s o t
item_progress view left s t None h = record { on = λ _. tt; keeps = tt; rests = λ _. tt }
item_progress view left s t (Some x) h = record { on = λ _. (tt, tt, omega (arith, ap length h)); keeps = tt; rests = λ _. tt }

-- a list of elements is read whole
pub items_of-list : (es : List Parts) → AllByRecursion (IsElement 32) es → items_of (joined es) ≡ map (λ (e : Parts). Ok e) es
items_of-list [] h = items_of-empty
items_of-list (e ∷ es) h = items_of-next (e.whole ++ joined es) (joined es) e (element_again 32 e (joined es) h.0) ∙ ap (λ (w : List (Result Parts BerFault)). Ok e ∷ w) (items_of-list es h.1)

-- ---- whether all items are elements

abbrev all : List ℕ → Bool
all bytes = list_all is_ok (items_of bytes)

pub all_next : (bytes rest : List ℕ) (e : Parts) → element_at 32 bytes ≡ Ok (e, rest) → all bytes ≡ all rest
all_next bytes rest e is = rw (items_of-next bytes rest e is) refl

pub all_fault : (bytes : List ℕ) (f : BerFault) → 0 < length bytes → element_at 32 bytes ≡ Err f → all bytes ≡ false
all_fault bytes f lt is = rw (items_of-fault bytes f lt is) refl

pub all_none : (bytes : List ℕ) → length bytes ≡ 0 → all bytes ≡ true
all_none bytes e = rw (items_of-none bytes e) refl
