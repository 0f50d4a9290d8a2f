-- The components that a message names, one by one.
use Rattle.std.proofs.Common.{◌≡◌, ◌∷◌, ℕ, List, [], Option, None, Ok, ap, arith}
use Rattle.std.specs.List.{flat_map}
use Rattle.std.specs.Result.{result_ok}
use Rattle.tcap_component.proofs.CallerLemmas.{components_of-empty, components_of-fault, components_of-next, untaken-faulty}
use Rattle.tcap_component.specs.Component.{ComponentParts}
use Rattle.tcap_component.specs.ComponentReading.{component_at}
use Rattle.tcap_judging.specs.MessageItems.{item_of, items_at, items_in}

pub items-next : (bytes rest : List ℕ) (c : ComponentParts) → component_at bytes ≡ Ok (c, rest) → items_in bytes ≡ item_of c ∷ items_in rest
items-next bytes rest c is = ap (flat_map items_at) (components_of-next bytes rest c is)

abbrev none : Option (ComponentParts × List ℕ)
none = None

pub items-end : (bytes : List ℕ) → none ≡ result_ok (component_at bytes) → items_in bytes ≡ []
items-end [] is = ap (flat_map items_at) components_of-empty
items-end (b ∷ bytes) is =
    let f = untaken-faulty (b ∷ bytes) is in
    ap (flat_map items_at) (components_of-fault (b ∷ bytes) f.0 (omega arith) f.1)
