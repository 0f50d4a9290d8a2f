-- The components in the object of a message that are still to be added.
use Rattle.std.proofs.Common.{◌≡◌, ◌++◌, ◌∷◌, ℕ, Bool, true, false, List, [], append_assoc, codes, refl, sym}
use Rattle.std.specs.List.{flat_map}
use Rattle.tcap_component.specs.Component.{ComponentParts}
use Rattle.tcap_judging.specs.JsonNames.{json_components, json_item, json_next}
use Rattle.tcap_judging.specs.JsonSteps.{json_closing, json_opening, json_step}
use Rattle.tcap_judging.specs.MessageItems.{Item, item_of}
use Rattle.tcap_judging.specs.Names.{NameParts}

-- by whether an object stands before it
abbrev pub json_left : List NameParts → (is_behind : Bool) → List Item → List ℕ
json_left names true items = flat_map (json_next names) items ++ codes "]"
json_left names false items = json_components names items

pub json_left-next : (names : List NameParts) (is_behind : Bool) (c : ComponentParts) (items : List Item) → json_left names is_behind (item_of c ∷ items) ≡ json_step names is_behind c ++ json_left names true items
json_left-next names true c items = append_assoc (json_next names (item_of c)) (flat_map (json_next names) items) (codes "]")
json_left-next names false c items = sym (append_assoc (json_opening false) (json_item names (item_of c)) (flat_map (json_next names) items ++ codes "]"))

pub json_left-end : (names : List NameParts) (is_behind : Bool) → json_left names is_behind [] ≡ json_closing is_behind
json_left-end names true = refl
json_left-end names false = refl
