-- A component that was read can be written, but for its length.
use Rattle.std.proofs.Common.{◌≡◌, ℕ, List, [], ◌∷◌, Option, Some, None, Result, Ok, Err, IfOk, sym, subst, inl, inr}
use Rattle.std.specs.Option.{option_map}
use Rattle.std.specs.List.{AllByRecursion}
use Rattle.ber_core.specs.Element.{Parts, IsElement, depth_limit}
use Rattle.ber_core.specs.Sequence.{Field, InOrder}
use Rattle.ber_core.specs.Sequence.Field.{must, may, any}
use Rattle.tcap_component.specs.Component.{CodeParts, BodyParts, ComponentParts, identifier, code_field, HoldsBody, IsCode, IsBody, InRange, SpellsComponent}
use Rattle.tcap_component.specs.Component.CodeParts.{local, global}
use Rattle.tcap_component.specs.Component.ComponentParts.{invoke, result_last, error_back, reject_back, result_more}
use Rattle.tcap_component.specs.ComponentFault.{FaultParts}
use Rattle.tcap_component.specs.ComponentList.{SpellsComponents, items}
use Rattle.tcap_component.specs.declared.fault.ComponentFault.{ComponentFault}
use Rattle.tcap_component.specs.Views.{Reads}
use Rattle.tcap_component.specs.ComponentReading.{component_at, components_of}
use Rattle.tcap_component.specs.Written.{coded_part, CanCode, CanHold, HasCode, HasParameter, HasParts}
use Rattle.tcap_component.proofs.ComponentGrammar.{component_takes}
use Rattle.tcap_component.proofs.ListGrammar.{first_fault_is}

-- ---- the code

code-can : (c : CodeParts) → IsCode c → CanCode c
code-can (local n) h = tt
code-can (global o) h = h

body-can : (b : Option BodyParts) → IsBody b → HasCode b
body-can None h = tt
body-can (Some b) h = code-can b.code h

range-code : (c : ComponentParts) → InRange c → HasCode (coded_part c)
range-code (invoke id linked code parameter) h = code-can code h.2
range-code (result_last id body) h = body-can body h.1
range-code (error_back id code parameter) h = code-can code h.1
range-code (reject_back id problem) h = tt
range-code (result_more id body) h = body-can body h.1

pub spelled_code : (c : ComponentParts) (bytes : List ℕ) → SpellsComponent c bytes → HasCode (coded_part c)
spelled_code c bytes s = range-code c s.is_component.in_range

-- ---- the parameter, which stands last

abbrev Elements : List Field → Type 0
Elements fs = (es : List Parts) × InOrder fs es × AllByRecursion (IsElement depth_limit) es

later : (f : Field) (fs : List Field) (es : List Parts) → InOrder (f ∷ fs) es → AllByRecursion (IsElement depth_limit) es → Elements fs
unfolding InOrder
later f fs [] o h = ([], o.1, h)
later f fs (e ∷ es) (inl o) h = (es, o.1, h.1)
later f fs (e ∷ es) (inr o) h = (e ∷ es, o.1, h)

not_none : (w : List ℕ) → Some w ≡ None → ⊥
not_none w e = absurd cc

last-holds : (o : Option (List ℕ)) (es : List Parts) → InOrder (any o ∷ []) es → AllByRecursion (IsElement depth_limit) es → CanHold o
unfolding InOrder
last-holds None es o h = tt
last-holds (Some w) [] o h = absurd (not_none w o.0)
last-holds (Some w) (e ∷ es) (inl o) h = (e, h.0, sym o.0)
last-holds (Some w) (e ∷ es) (inr o) h = absurd (not_none w o.0)

coded-holds : (c : CodeParts) (o : Option (List ℕ)) → Elements (code_field c ∷ any o ∷ []) → CanHold o
coded-holds c o t =
    let u = later (code_field c) (any o ∷ []) t.0 t.1 t.2 in
    last-holds o u.0 u.1 u.2

held-holds : (b : Option BodyParts) (inner : Option (List ℕ)) → HoldsBody b inner → HasParameter b
held-holds None inner h = tt
held-holds (Some b) None h = absurd h
held-holds (Some b) (Some w) h = coded-holds b.code b.parameter (h.elements, h.in_order, h.is_list.each)

pub spelled_parameter : (c : ComponentParts) (bytes : List ℕ) → SpellsComponent c bytes → HasParameter (coded_part c)
spelled_parameter (invoke id linked code parameter) bytes s =
    let q = s.is_component.in_sequence in
    let t = later (must 0x02 (identifier id)) (may 0x80 (option_map identifier linked) ∷ code_field code ∷ any parameter ∷ []) q.elements q.in_order q.is_list.each in
    coded-holds code parameter (later (may 0x80 (option_map identifier linked)) (code_field code ∷ any parameter ∷ []) t.0 t.1 t.2)
spelled_parameter (result_last id body) bytes s = held-holds body s.is_component.inner s.is_component.holds_body
spelled_parameter (error_back id code parameter) bytes s =
    let q = s.is_component.in_sequence in
    coded-holds code parameter (later (must 0x02 (identifier id)) (code_field code ∷ any parameter ∷ []) q.elements q.in_order q.is_list.each)
spelled_parameter (reject_back id problem) bytes s = tt
spelled_parameter (result_more id body) bytes s = held-holds body s.is_component.inner s.is_component.holds_body

-- ---- what was read

pub spelled_parts : (c : ComponentParts) (bytes : List ℕ) → SpellsComponent c bytes → HasParts c
spelled_parts c bytes s = (spelled_code c bytes s, spelled_parameter c bytes s)

abbrev IsWritable : Result ComponentParts FaultParts → Type 0
IsWritable item = IfOk item HasParts

items-writable : (cs : List ComponentParts) (f : Option FaultParts) (front : List ℕ) → SpellsComponents cs front → AllByRecursion IsWritable (items cs f)
items-writable [] None front s = tt
items-writable [] (Some f) front s = (tt, tt)
items-writable (c ∷ cs) f front s = (spelled_parts c s.0 s.2, items-writable cs f s.1 s.4)

pub all_writable : (content : List ℕ) → AllByRecursion IsWritable (components_of content)
all_writable content =
    let t = first_fault_is content in
    subst (AllByRecursion IsWritable) (sym t.3) (items-writable t.0 t.1 t.2.front t.2.spelled)

module _ {X : Type 0} (view : X → ComponentParts × List ℕ) (bytes : List ℕ) where
  pub writable : (r : Result X ComponentFault) → Reads view r (component_at bytes) → IfOk r (λ x. HasParts (view x).0 × InRange (view x).0)
  writable (Ok x) e =
      let t = component_takes bytes (view x) e in
      (spelled_parts (view x).0 t.0 t.1, t.1.is_component.in_range)
  writable (Err f) e = tt
