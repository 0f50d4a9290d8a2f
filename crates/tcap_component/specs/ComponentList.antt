-- The contents of a component portion: components up to the first fault.
use Rattle.std.specs.Prelude.{◌≡◌, ◌≢◌, ℕ, ◌≤◌, List, [], ◌∷◌, ◌++◌, length, Option, Some, None, Result, Ok, Err}
use Rattle.tcap_component.specs.Component.{ComponentParts, SpellsComponent}
use Rattle.tcap_component.specs.ComponentFault.{FaultParts, IsComponentFault}

-- The bytes are elements, one after the other, each spelling the next of these components
-- (Q.773, Component portion).
abbrev pub SpellsComponents : List ComponentParts → List ℕ → Type 0
SpellsComponents [] bytes = bytes ≡ []
SpellsComponents (c ∷ cs) bytes = (whole : List ℕ) × (more : List ℕ) × SpellsComponent c whole × (bytes ≡ whole ++ more) × SpellsComponents cs more

-- What follows the components: nothing, or what has this fault (own).
abbrev pub EndsIn : Option FaultParts → List ℕ → Type 0
EndsIn None rest = rest ≡ []
EndsIn (Some f) rest = (rest ≢ []) × IsComponentFault rest f

-- The longest front of the content that is components is these; what follows it is nothing, or has
-- this fault (own).
pub record FirstFault (components : List ComponentParts) (fault : Option FaultParts) (content : List ℕ) : Type 0 where
  pub front : List ℕ
  pub rest : List ℕ
  pub is_content : content ≡ front ++ rest
  pub spelled : SpellsComponents components front
  pub longest : (cs : List ComponentParts) (bytes more : List ℕ) → SpellsComponents cs bytes → content ≡ bytes ++ more → length bytes ≤ length front
  pub ends : EndsIn fault rest

-- The components, and then the fault, if there is one (own).
abbrev pub items : List ComponentParts → Option FaultParts → List (Result ComponentParts FaultParts)
items [] None = []
items [] (Some f) = Err f ∷ []
items (c ∷ cs) f = Ok c ∷ items cs f
