-- What one component adds to the components in the object of a message.
use Rattle.std.specs.Prelude.{ℕ, Bool, true, false, List, [], ◌++◌, codes}
use Rattle.tcap_component.specs.Component.{ComponentParts}
use Rattle.tcap_judging.specs.JsonNames.{json_item}
use Rattle.tcap_judging.specs.MessageItems.{item_of}
use Rattle.tcap_judging.specs.Names.{NameParts}

-- What stands before the object of a component, by whether one stands before it (own).
abbrev pub json_opening : (is_behind : Bool) → List ℕ
json_opening true = codes ","
json_opening false = codes ",\"components\":["

-- What stands behind the objects of all components, by whether there is one (own).
abbrev pub json_closing : (is_behind : Bool) → List ℕ
json_closing true = codes "]"
json_closing false = []

-- What is added for a component (own).
abbrev pub json_step : List NameParts → (is_behind : Bool) → ComponentParts → List ℕ
json_step names is_behind component = json_opening is_behind ++ json_item names (item_of component)
