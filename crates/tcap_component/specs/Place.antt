-- Where the slices of a component lie in the bytes that it was read from.
use Rattle.std.specs.Prelude.{◌≡◌, ℕ, ◌+◌, List, [], ◌∷◌, ◌++◌, length, Option, Some, None, Result, Ok, Err, IfSome}
use Rattle.std.specs.Iterator.{YieldsFirstBy}
use Rattle.ber_core.specs.Place.{Slice, AtEnd}
use Rattle.ber_core.specs.Way.{inside, way_to, IsOnWay}
use Rattle.tcap_component.specs.declared.component.Code.{Code}
use Rattle.tcap_component.specs.declared.component.Code.TheVariants as code
use Rattle.tcap_component.specs.declared.component.Body.{Body}
use Rattle.tcap_component.specs.declared.component.Component.{Component}
use Rattle.tcap_component.specs.declared.component.Component.TheVariants as component
use Rattle.tcap_component.specs.declared.components.Components.{Components}
use Rattle.tcap_component.specs.declared.fault.ComponentFault.{ComponentFault}
use Rattle.tcap_component.specs.Component.{component_tag}
use Rattle.tcap_component.specs.Views.{component_parts, item_view, components_left}

-- The content to which the tags lead: that of the first element with the first tag, in it that of the
-- first with the second, and so on (own).
unfoldable pub content_on : List ℕ → List ℕ → List ℕ
content_on [] bytes = bytes
content_on (tag ∷ tags) bytes = content_on tags (inside tag bytes).1

-- The slice lies in the bytes, and ends where the content ends to which the tags lead (own).
abbrev pub EndsOnWay : List ℕ → Slice → Slice → Type 0
EndsOnWay tags part bytes = (part.ref_ptr.0 ≡ bytes.ref_ptr.0)
    × (part.ref_ptr.1 + length part.now ≡ bytes.ref_ptr.1 + (way_to tags bytes.now + length (content_on tags bytes.now)))

-- The octets of a global code are the content of the 06 to which the tags lead
-- (Q.773, Operation Code; Q.773, Error Code).
abbrev pub CodeOnWay : List ℕ → Code → Slice → Type 0
CodeOnWay tags (code.Local number) bytes = Unit {0}
CodeOnWay tags (code.Global octets) bytes = IsOnWay (tags ++ 0x06 ∷ []) octets bytes

-- A code, and a parameter that is the last part of the content to which the tags lead
-- (Q.773, Parameter).
abbrev pub CodedOnWay : List ℕ → Code → Option Slice → Slice → Type 0
CodedOnWay tags c parameter bytes = CodeOnWay tags c bytes × IfSome parameter (λ octets. EndsOnWay tags octets bytes)

-- The code and the parameter of a result's body lie where the tags lead, if it is there (Q.773, Return
-- Result component).
abbrev pub BodyOnWay : List ℕ → Option Body → Slice → Type 0
BodyOnWay tags None bytes = Unit {0}
BodyOnWay tags (Some body) bytes = CodedOnWay tags body.code body.parameter bytes

-- The slices of a component lie in the content to which the tags lead, those of a result's body in
-- the 30 there (Q.773, Component portion).
abbrev pub FieldsOnWay : List ℕ → Component → Slice → Type 0
FieldsOnWay tags (component.Invoke id linked c parameter) bytes = CodedOnWay tags c parameter bytes
FieldsOnWay tags (component.ResultLast id body) bytes = BodyOnWay (tags ++ 0x30 ∷ []) body bytes
FieldsOnWay tags (component.ResultMore id body) bytes = BodyOnWay (tags ++ 0x30 ∷ []) body bytes
FieldsOnWay tags (component.ErrorBack id c parameter) bytes = CodedOnWay tags c parameter bytes
FieldsOnWay tags (component.RejectBack id problem) bytes = Unit {0}

-- The slices of a component are parts of the bytes at whose front it stands
-- (Q.773, Component portion).
abbrev pub ComponentInPlace : Component → Slice → Type 0
ComponentInPlace c bytes = FieldsOnWay (component_tag (component_parts c) ∷ []) c bytes

-- The slices of an item are parts of the bytes at whose front it stands; a fault has none (own).
abbrev pub ItemInPlace : Result Component ComponentFault → Slice → Type 0
ItemInPlace (Ok c) bytes = ComponentInPlace c bytes
ItemInPlace (Err f) bytes = Unit {0}

-- The bytes that are still to be read (own).
abbrev pub bytes_left : Components → Slice
bytes_left s = s.rest

-- The next item's slices are parts of the bytes that were left, and what is left now ends where they
-- end (own).
abbrev pub StepsInPlace : Components → Option (Result Component ComponentFault) → Components → Type 0
StepsInPlace old item new = IfSome item (λ i. ItemInPlace i (bytes_left old)) × AtEnd (bytes_left new) (bytes_left old)

-- One step of the iterator: the first item that is left, in its place (own).
abbrev pub components_steps : Components → Option (Result Component ComponentFault) → Components → Type 0
components_steps old item new = YieldsFirstBy item_view components_left old item new × StepsInPlace old item new
