-- A list of elements.
use Rattle.std.specs.Prelude.{◌≡◌, ◌≢◌, ℕ, ◌⊎◌, List, [], ◌∷◌, ◌++◌, map, Result, Ok, Err}
use Rattle.std.specs.List.{AllByRecursion}
use Rattle.ber_core.specs.declared.fault.BerFault.{BerFault}
use Rattle.ber_core.specs.Fault.{ElementFault}
use Rattle.ber_core.specs.Element.{Parts, IsElement, joined, depth_limit}

-- The bytes are these elements' wholes, one after the other (X.690, Contents octets).
pub record IsList (elements : List Parts) (bytes : List ℕ) : Type 0 where
  pub each : AllByRecursion (IsElement depth_limit) elements
  pub is_joined : bytes ≡ joined elements

-- The bytes begin with these elements, and what follows them is not empty and has this fault
-- (X.690, Contents octets).
pub record BreaksOff (elements : List Parts) (fault : BerFault) (bytes : List ℕ) : Type 0 where
  pub rest : List ℕ
  pub each : AllByRecursion (IsElement depth_limit) elements
  pub is_joined : bytes ≡ joined elements ++ rest
  pub filled : rest ≢ []
  pub is_fault : ElementFault depth_limit rest fault

-- These elements, one item each (own).
abbrev pub items : List Parts → List (Result Parts BerFault)
items elements = map (λ (e : Parts). Ok e) elements

-- These elements, one item each, and the fault behind them (own).
abbrev pub items_and : List Parts → BerFault → List (Result Parts BerFault)
items_and elements fault = items elements ++ (Err fault ∷ [])

-- The items are the elements that the bytes are, or the elements before the first fault and that
-- fault (X.690, Contents octets).
abbrev pub AreItems : List (Result Parts BerFault) → List ℕ → Type 0
AreItems all bytes = ((elements : List Parts) × (all ≡ items elements) × IsList elements bytes)
    ⊎ ((elements : List Parts) × (fault : BerFault) × (all ≡ items_and elements fault) × BreaksOff elements fault bytes)
