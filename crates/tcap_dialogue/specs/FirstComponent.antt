-- The first component of a component portion that is left.
use Rattle.std.specs.Prelude.{◌≡◌, ℕ, ◌+◌, ◌≤◌, ◌++◌, [], ◌∷◌, Option, Some, None, Result, length}
use Rattle.ber_core.specs.Place.{Slice, AtEnd}
use Rattle.tcap_component.specs.declared.component.Component.{Component}
use Rattle.tcap_component.specs.declared.fault.ComponentFault.{ComponentFault}
use Rattle.tcap_component.specs.ComponentReading.{components_of}
use Rattle.tcap_component.specs.Place.{ItemInPlace}
use Rattle.tcap_component.specs.Views.{item_view}
use Rattle.tcap_dialogue.specs.HandledViews.{IsHandled}
use Rattle.tcap_dialogue.specs.declared.component_handling.Reject.{Reject}
use Rattle.tcap_invocation.specs.Invocations.{InvocationList}
use Rattle.tcap_model.specs.Procedures.ComponentHandling.{handled, subject_of}
use Rattle.tcap_model.specs.Table.Dialogue.{sent_by_rows}
use Rattle.tcap_model.specs.Table.TableMove.{after_item}
use Rattle.tcap_primitives.specs.IndicationViews.{item_octets}
use Rattle.tcap_primitives.specs.SinkViews.{Filled}
use Rattle.tcap_primitives.specs.Slices.{AreOfItem, LieIn, LieInPlace, Slices}

-- The first component of the bytes, or the fault at which they end, is handled, and the rest is what follows it
-- (Q.774, Component handling).
pub record IsFirstTaken (dialogue clock : ℕ) (bytes rest : Slice) (old new : Filled)
    (before after : InvocationList) (reject : Option Reject) : Type 0 where
  pub item : Result Component ComponentFault
  pub is_first : components_of bytes.now ≡ item_view item ∷ components_of rest.now
  pub is_in_place : ItemInPlace item bytes
  pub ends : AtEnd rest bytes
  pub is_handled : IsHandled old new reject (AreOfItem item) (item_octets item)
      (handled (Some dialogue) (sent_by_rows dialogue before (subject_of (item_view item))) (item_view item))
  pub is_after : after ≡ after_item clock before (item_view item)
  pub within : item_octets item + length rest.now ≤ length bytes.now

-- The first component of the bytes, or the fault at which they end, is told as one of a Unidirectional, and the rest
-- is what follows it (Q.774, Unstructured dialogue).
pub record IsFirstTold (bytes rest : Slice) (old new : Filled) : Type 0 where
  pub item : Result Component ComponentFault
  pub slices : Slices
  pub is_first : components_of bytes.now ≡ item_view item ∷ components_of rest.now
  pub lies_in_place : ItemInPlace item bytes
  pub ends : AtEnd rest bytes
  pub is_told : new.outputs ≡ old.outputs ++ (handled None None (item_view item)).told ∷ []
  pub are_parts : AreOfItem item slices
  pub is_in_place : (portion : Option Slice) (components : Slice) → LieIn portion components slices
      → LieInPlace portion components old.slices → LieInPlace portion components new.slices
  pub keeps_places : old.places ≤ new.places + 1
  pub keeps_octets : old.octets ≤ new.octets + item_octets item
  pub within : item_octets item + length rest.now ≤ length bytes.now
