-- Where the slices of an output lie in the message that was received.
use Rattle.std.specs.Prelude.{◌≡◌, ℕ, ℤ, Bool, true, false, List, [], ◌∷◌, ◌++◌, Option, Some, None, Result, Ok, Err}
use Rattle.std.specs.List.{AllByRecursion}
use Rattle.ber_core.specs.Place.{Slice, AtEnd}
use Rattle.tcap_component.specs.declared.component.Body.{Body}
use Rattle.tcap_component.specs.declared.component.Component.{Component}
use Rattle.tcap_component.specs.declared.component.Component.TheVariants as component
use Rattle.tcap_component.specs.declared.fault.ComponentFault.{ComponentFault}
use Rattle.tcap_component.specs.ComponentReading.{components_of}
use Rattle.tcap_component.specs.Place.{ComponentInPlace}
use Rattle.tcap_model.specs.Procedures.ComponentHandling.{Item}
use Rattle.tcap_pdu.specs.declared.dialogue_pdu.DialoguePdu.{DialoguePdu}
use Rattle.tcap_pdu.specs.DialoguePlace.{HeldOnWay, PduInPlace}
use Rattle.tcap_primitives.specs.declared.output.Output.{Output}
use Rattle.tcap_primitives.specs.declared.output.Output.TheVariants as output

-- The bytes are what is left of a component portion behind some of its components: they end where it
-- ends, and hold the components that follow (own).
pub record IsLeftOf (bytes portion : Slice) : Type 0 where
  pub ends : AtEnd bytes portion
  pub before : List Item
  pub follows : components_of portion.now ≡ before ++ components_of bytes.now

-- A component whose slices lie in place at the beginning of what is left of the component portion (own).
pub record ComponentLiesIn (c : Component) (portion : Slice) : Type 0 where
  pub bytes : Slice
  pub is_left : IsLeftOf bytes portion
  pub in_place : ComponentInPlace c bytes

-- The context and the information of a dialogue PDU with this tag lie in place in the contents of the
-- dialogue portion; without context there is no information (Q.773, Dialogue portion).
abbrev pub PartsLieIn : ℕ → Option Slice → Slice → Option Slice → Type 0
PartsLieIn tag None info portion = info.now ≡ []
PartsLieIn tag (Some context) info None = ⊥
PartsLieIn tag (Some context) info (Some portion) = HeldOnWay (0x28 ∷ 0xa0 ∷ tag ∷ []) context info portion

-- The dialogue PDU of an Abort lies in place in the contents of the dialogue portion
-- (Q.773, Dialogue portion).
abbrev pub PduIn : Option DialoguePdu → Option Slice → Type 0
PduIn None portion = Unit {0}
PduIn (Some pdu) None = ⊥
PduIn (Some pdu) (Some portion) = PduInPlace pdu portion

-- A Return Result, Last or not (Q.773, Return Result component).
abbrev pub result_of : Bool → ℤ → Option Body → Component
result_of true id body = component.ResultLast id body
result_of false id body = component.ResultMore id body

-- The slices of an output: none; the context and the information of a dialogue PDU with this tag; a
-- dialogue PDU of an Abort; those of a component (own).
pub data Slices : Type 0 where
  none : Slices
  held : (tag : ℕ) (context : Option Slice) (info : Slice) → Slices
  of_pdu : Option DialoguePdu → Slices
  of_component : Component → Slices

module _ {A : Type 0} where
  -- The slices of an output: a Unidirectional and a Begin tell an AUDT or an AARQ, 60, a Continue and
  -- an End an AARE, 61 (Q.773, Dialogue portion; Q.773, Component portion).
  abbrev pub slices_of : Output A → Slices
  slices_of (output.Send to bytes) = Slices.none
  slices_of (output.Uni context info) = Slices.held 0x60 context info
  slices_of (output.Begin d context info) = Slices.held 0x60 context info
  slices_of (output.Continue d context info) = Slices.held 0x61 context info
  slices_of (output.End d context info) = Slices.held 0x61 context info
  slices_of (output.UAbort d pdu) = Slices.of_pdu pdu
  slices_of (output.PAbort d why) = Slices.none
  slices_of (output.Invoked d id linked code parameter) = Slices.of_component (component.Invoke id linked code parameter)
  slices_of (output.ResultMore d number id body) = Slices.of_component (component.ResultMore id body)
  slices_of (output.LocalReject d id problem) = Slices.none
  slices_of (output.RemoteReject d id problem by) = Slices.none
  slices_of (output.ResultLast d number id body) = Slices.of_component (component.ResultLast id body)
  slices_of (output.ErrorBack d number id code parameter) = Slices.of_component (component.ErrorBack id code parameter)
  slices_of (output.Rejected d number id problem by) = Slices.none
  slices_of (output.Lapsed d number id) = Slices.none
  slices_of (output.Ended d number id) = Slices.none
  slices_of (output.Dropped why) = Slices.none

-- Where there are slices, they are those of the component (own).
abbrev pub AreOf : Component → Slices → Type 0
AreOf c Slices.none = Unit {0}
AreOf c (Slices.held tag context info) = ⊥
AreOf c (Slices.of_pdu pdu) = ⊥
AreOf c (Slices.of_component told) = told ≡ c

-- These are the slices of an item; a fault has none (own).
abbrev pub AreOfItem : Result Component ComponentFault → Slices → Type 0
AreOfItem (Ok c) slices = AreOf c slices
AreOfItem (Err f) slices = slices ≡ Slices.none

-- The slices lie in place in the contents of the dialogue portion and of the component portion (own).
abbrev pub LieIn : Option Slice → Slice → Slices → Type 0
LieIn dialogue components Slices.none = Unit {0}
LieIn dialogue components (Slices.held tag context info) = PartsLieIn tag context info dialogue
LieIn dialogue components (Slices.of_pdu pdu) = PduIn pdu dialogue
LieIn dialogue components (Slices.of_component c) = ComponentLiesIn c components

-- The slices of each output are the parts of the dialogue portion and of the component portion that it
-- tells, and no equal octets elsewhere (own).
abbrev pub AllInPlace : {A : Type 0} → Option Slice → Slice → List (Output A) → Type 0
AllInPlace dialogue components outputs = AllByRecursion (λ o. LieIn dialogue components (slices_of o)) outputs

-- The same of slices, one after the other (own).
abbrev pub LieInPlace : Option Slice → Slice → List Slices → Type 0
LieInPlace dialogue components slices = AllByRecursion (LieIn dialogue components) slices
