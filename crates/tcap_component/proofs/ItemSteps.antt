-- The items of a component portion: one step of the iterator.
use Rattle.std.proofs.Common.{◌≡◌, ℕ, ◌<◌, List, [], ◌∷◌, length, Ok, Err, Result, refl, ap, sym, ◌∙◌, arith, eqb, inl, inr}
use Rattle.std.specs.Prelude.{option_map, MatchOption, Option, Some, None}
use Rattle.std.specs.Iterator.{YieldsFirstBy, MakesProgress, item_count}
use Rattle.std.proofs.lemmas.Bool.{eqb-true, eqb-false}
use Rattle.ber_core.proofs.CallerLemmas.{some_is, chosen_by}
use Rattle.tcap_component.specs.Component.{ComponentParts}
use Rattle.tcap_component.specs.ComponentFault.{FaultParts}
use Rattle.tcap_component.specs.ComponentReading.{component_at, components_of, item_of, no_item, item_at}
use Rattle.tcap_component.proofs.ListGrammar.{components_of-empty, components_of-none, components_of-next, components_of-fault}

module _ {X : Type 0} (view : X → Result ComponentParts FaultParts) where
  abbrev pub ItemSteps : List ℕ → Option X → List ℕ → Type 0
  ItemSteps bytes o rest = MatchOption o ((components_of bytes ≡ []) × (components_of rest ≡ [])) (λ x. components_of bytes ≡ view x ∷ components_of rest)

  abbrev seen : Option X → List ℕ → Option (Result ComponentParts FaultParts) × List ℕ
  seen o rest = (option_map view o, rest)

  empty_steps : (bytes : List ℕ) (o : Option X) (rest : List ℕ) → length bytes ≡ 0 → seen o rest ≡ no_item → ItemSteps bytes o rest
  empty_steps bytes None rest e is = (components_of-none bytes e, ap components_of (ap (λ p. p.1) is) ∙ components_of-empty)
  empty_steps bytes (Some x) rest e is = let first = ap (λ p. p.0) is in absurd cc

  filled_steps : (bytes : List ℕ) (o : Option X) (rest : List ℕ) (r : Result (ComponentParts × List ℕ) FaultParts) → 0 < length bytes → component_at bytes ≡ r → seen o rest ≡ item_of r → ItemSteps bytes o rest
  filled_steps bytes None rest (Ok p) lt e is = let first = ap (λ p. p.0) is in absurd cc
  filled_steps bytes None rest (Err f) lt e is = let first = ap (λ p. p.0) is in absurd cc
  filled_steps bytes (Some x) rest (Ok p) lt e is =
      let same : view x ≡ Ok p.0 = some_is (view x) (Ok p.0) (ap (λ q. q.0) is) in
      rw (components_of-next bytes p.1 p.0 e, same, ap (λ q. q.1) is) refl
  filled_steps bytes (Some x) rest (Err f) lt e is =
      let same : view x ≡ Err f = some_is (view x) (Err f) (ap (λ q. q.0) is) in
      rw (components_of-fault bytes f lt e, same, ap (λ q. q.1) is) (rw components_of-empty refl)

  -- the first item, and the items behind it
  pub item_steps : (bytes : List ℕ) (o : Option X) (rest : List ℕ) → seen o rest ≡ item_at bytes → ItemSteps bytes o rest
  unfolding item_at
  item_steps bytes o rest is = elim (chosen_by (eqb (length bytes) 0) no_item (item_of (component_at bytes)) (seen o rest) (sym is)) [
    | inl e ↦ empty_steps bytes o rest (eqb-true (length bytes) 0 e.0) (sym e.1)
    | inr e ↦ let filled = eqb-false (length bytes) 0 e.0 in filled_steps bytes o rest (component_at bytes) (omega (arith, filled)) refl (sym e.1)
  ]

-- each item leaves fewer
pub item_progress : {S X : Type 0} (view : X → Result ComponentParts FaultParts) (left : S → List (Result ComponentParts FaultParts)) (s t : S) (o : Option X) → YieldsFirstBy view left s o t → MakesProgress (λ _. Unit {0}) (item_count left) s o t
item_progress view left s t None h = record { on = λ _. tt; keeps = tt; rests = λ _. tt }
item_progress view left s t (Some x) h = record { on = λ _. (tt, tt, omega (arith, ap length h)); keeps = tt; rests = λ _. tt }
