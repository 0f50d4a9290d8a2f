-- What a component comes to, as a contract sees it.
use Rattle.std.specs.Prelude.{◌≡◌, ℕ, ◌+◌, ◌≤◌, ◌++◌, [], ◌∷◌, Option}
use Rattle.std.specs.Option.{option_map}
use Rattle.ber_core.specs.Place.{Slice}
use Rattle.tcap_component.specs.Component.{ComponentParts}
use Rattle.tcap_component.specs.Component.ComponentParts.{reject_back}
use Rattle.tcap_component.specs.Views.{problem_parts}
use Rattle.tcap_model.specs.Procedures.ComponentHandling.{Handled}
use Rattle.tcap_dialogue.specs.declared.component_handling.Reject.{Reject}
use Rattle.tcap_primitives.specs.SinkViews.{Filled}
use Rattle.tcap_primitives.specs.Slices.{LieIn, LieInPlace, Slices}

-- A Reject component (Q.773, Reject component).
abbrev pub reject_parts : Reject → ComponentParts
reject_parts r = reject_back r.id (problem_parts r.problem)

-- There are no slices (own).
abbrev pub AreNone : Slices → Type 0
AreNone slices = slices ≡ Slices.none

-- What a component comes to: one output more tells it, with such slices, and such a Reject answers it; it takes
-- one place, and room for so many octets at most (own).
pub record IsHandled (old new : Filled) (reject : Option Reject) (AreParts : Slices → Type 0) (octets : ℕ) (h : Handled) : Type 0 where
  pub slices : Slices
  pub is_told : new.outputs ≡ old.outputs ++ h.told ∷ []
  pub are_parts : AreParts slices
  pub is_in_place : (portion : Option Slice) (components : Slice) → LieIn portion components slices
      → LieInPlace portion components old.slices → LieInPlace portion components new.slices
  pub is_answered : option_map reject_parts reject ≡ h.reject
  pub keeps_places : old.places ≤ new.places + 1
  pub keeps_octets : old.octets ≤ new.octets + octets
