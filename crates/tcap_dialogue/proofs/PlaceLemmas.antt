-- The slices of what the components tell lie in place.
use Rattle.std.proofs.Common.{◌≡◌, List, [], ◌∷◌, ◌++◌, Option, Result, Ok, Err, refl, sym, ap, subst, map, ◌∙◌, append_assoc}
use Rattle.ber_core.specs.Place.{Slice, AtEnd}
use Rattle.tcap_component.specs.declared.component.Component.{Component}
use Rattle.tcap_component.specs.declared.fault.ComponentFault.{ComponentFault}
use Rattle.tcap_component.specs.ComponentReading.{components_of}
use Rattle.tcap_component.specs.Place.{ItemInPlace}
use Rattle.tcap_component.specs.Views.{item_view}
use Rattle.tcap_model.specs.Procedures.ComponentHandling.{Item}
use Rattle.tcap_primitives.specs.declared.output.Output.{Output}
use Rattle.tcap_primitives.specs.Slices.{Slices, IsLeftOf, ComponentLiesIn, AreOfItem, LieIn, LieInPlace, AllInPlace, slices_of}

-- All is left of a component portion of which nothing was read.
pub left_self : (portion : Slice) → IsLeftOf portion portion
left_self portion = record { ends = (refl, refl); before = []; follows = refl }

-- What follows the first component of what is left.
pub left_behind : (portion bytes rest : Slice) (item : Result Component ComponentFault) → IsLeftOf bytes portion →
    components_of bytes.now ≡ item_view item ∷ components_of rest.now → AtEnd rest bytes → IsLeftOf rest portion
left_behind portion bytes rest item left first ends = record {
  ends = (ends.0 ∙ left.ends.0, ends.1 ∙ left.ends.1);
  before = left.before ++ item_view item ∷ [];
  follows = left.follows ∙ ap (λ (is : List Item). left.before ++ is) first ∙ sym (append_assoc left.before (item_view item ∷ []) (components_of rest.now));
}

-- The slices of the component that is read lie in place.
pub component-lies : (portion : Slice) (dialogue : Option Slice) (bytes : Slice) (item : Result Component ComponentFault) (slices : Slices) →
    IsLeftOf bytes portion → ItemInPlace item bytes → AreOfItem item slices → LieIn dialogue portion slices
component-lies portion dialogue bytes (Ok c) Slices.none left place are = tt
component-lies portion dialogue bytes (Ok c) (Slices.held tag context info) left place are = absurd are
component-lies portion dialogue bytes (Ok c) (Slices.of_pdu pdu) left place are = absurd are
component-lies portion dialogue bytes (Ok c) (Slices.of_component told) left place are =
    subst (λ x. ComponentLiesIn x portion) (sym are) (record { bytes = bytes; is_left = left; in_place = place })
component-lies portion dialogue bytes (Err f) slices left place are = subst (LieIn dialogue portion) (sym are) tt

-- The slices of the outputs of a vector lie in place.
module _ {A : Type 0} where
  each-in-place : (dialogue : Option Slice) (portion : Slice) (outputs : List (Output A)) → LieInPlace dialogue portion (map slices_of outputs) → AllInPlace dialogue portion outputs
  each-in-place dialogue portion [] all = tt
  each-in-place dialogue portion (o ∷ os) all = (all.0, each-in-place dialogue portion os all.1)

  pub vector-in-place : (dialogue : Option Slice) (portion : Slice) (outputs : List (Output A)) (slices : List Slices) →
      map slices_of outputs ≡ slices → LieInPlace dialogue portion slices → AllInPlace dialogue portion outputs
  vector-in-place dialogue portion outputs slices are all = each-in-place dialogue portion outputs (subst (LieInPlace dialogue portion) (sym are) all)
