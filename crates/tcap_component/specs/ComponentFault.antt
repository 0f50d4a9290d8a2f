-- Why a component can't be read: the four cases, in their order.
use Rattle.std.specs.Prelude.{◌≡◌, ℕ, ℤ, true, false, Bool, List, [], ◌∷◌, ◌++◌, Option, Some, None, ◌⊎◌, ◌==◌}
use Rattle.ber_core.specs.Tag.{is_constructor}
use Rattle.ber_core.specs.Element.{Parts, IsElement, depth_limit}
use Rattle.ber_core.specs.ElementList.{IsList}
use Rattle.ber_core.specs.Sequence.{Holds}
use Rattle.tcap_component.specs.Problem.{ProblemParts, general_problem}
use Rattle.tcap_component.specs.Component.{ComponentParts, component_tag, identifier, IsIdentifier, IsComponent}

-- Whether the first octet is the tag of a Reject (own).
abbrev pub is_reject : List ℕ → Bool
is_reject [] = false
is_reject (b ∷ bytes) = b == 0xa4

-- A fault's problem, its identifier if it is known, and whether the octets begin as a Reject (own).
pub record FaultParts : Type 0 where
  pub problem : ProblemParts
  pub id : Option ℤ
  pub was_reject : Bool

-- A fault: a general problem, the identifier if it is known, and whether the octets begin as a
-- Reject (own).
abbrev pub fault : ℕ → Option ℤ → List ℕ → FaultParts
fault code id bytes = record { problem = general_problem code; id = id; was_reject = is_reject bytes }

-- The element is constructed, and the first element in it is whole and is 02 with this identifier
-- (own).
pub record BeginsWithIdentifier (e : Parts) (id : ℤ) : Type 0 where
  pub first : Parts
  pub more : List ℕ
  pub constructs : is_constructor e.tag ≡ true
  pub is_element : IsElement depth_limit first
  pub is_content : e.content ≡ first.whole ++ more
  pub holds : Holds 0x02 (identifier id) first
  pub is_identifier : IsIdentifier id

-- The identifier that a fault tells: the one that the element begins with, or none (own).
abbrev pub TellsIdentifier : Parts → Option ℤ → Type 0
TellsIdentifier e (Some id) = BeginsWithIdentifier e id
TellsIdentifier e None = (id : ℤ) → BeginsWithIdentifier e id → ⊥

-- The tag is one of the five (Q.773, Component Type Tag).
abbrev pub HasComponentTag : Parts → Type 0
HasComponentTag e = (c : ComponentParts) × (e.tag ≡ component_tag c ∷ [])

-- The tag is that of a Return Result (Q.773, Component Type Tag).
abbrev pub IsResultTag : List ℕ → Type 0
IsResultTag tag = (tag ≡ 0xa2 ∷ []) ⊎ (tag ≡ 0xa7 ∷ [])

-- The bytes are a list of elements (X.690, Contents octets).
abbrev pub IsListed : List ℕ → Type 0
IsListed bytes = (es : List Parts) × IsList es bytes

-- A 30 that stands second, whatever stands first and behind it, holds a list of elements (own).
abbrev pub SecondIsListed : List Parts → Type 0
SecondIsListed [] = Unit {0}
SecondIsListed (first ∷ []) = Unit {0}
SecondIsListed (first ∷ second ∷ more) = second.tag ≡ 0x30 ∷ [] → IsListed second.content

-- The contents are a list of elements, and so are those of a 30 that stands second in a result
-- (own).
pub record IsStructured (e : Parts) : Type 0 where
  pub elements : List Parts
  pub is_list : IsList elements e.content
  pub second : IsResultTag e.tag → SecondIsListed elements

-- The fault of what stands first in the bytes; an earlier case goes first
-- (Q.774, Component related abnormal conditions; the cases are own).
pub data IsComponentFault : List ℕ → FaultParts → Type 0 where
  -- 1. Its element can't be read: badly structured component.
  unreadable : (bytes : List ℕ) → ((e : Parts) (rest : List ℕ) → IsElement depth_limit e → bytes ≡ e.whole ++ rest → ⊥) → IsComponentFault bytes (fault 2 None bytes)
  -- 2. Its tag isn't one of the five: unrecognized component.
  unrecognized : (e : Parts) (rest : List ℕ) (id : Option ℤ) → IsElement depth_limit e → (HasComponentTag e → ⊥) → TellsIdentifier e id → IsComponentFault (e.whole ++ rest) (fault 0 id (e.whole ++ rest))
  -- 3. Its contents, or those of a 30 that stands second in a result, aren't a list of elements:
  -- badly structured component.
  unstructured : (e : Parts) (rest : List ℕ) (id : Option ℤ) → IsElement depth_limit e → HasComponentTag e → (IsStructured e → ⊥) → TellsIdentifier e id → IsComponentFault (e.whole ++ rest) (fault 2 id (e.whole ++ rest))
  -- 4. Its contents aren't the listed sequence: mistyped component.
  mistyped : (e : Parts) (rest : List ℕ) (id : Option ℤ) → IsElement depth_limit e → HasComponentTag e → IsStructured e → ((c : ComponentParts) → IsComponent c e → ⊥) → TellsIdentifier e id → IsComponentFault (e.whole ++ rest) (fault 1 id (e.whole ++ rest))
