-- What an iterator over components yields.
use Rattle.std.proofs.Common.{length, ap}
use Rattle.std.proofs.lemmas.Iterator.{YieldsList}
use Rattle.std.proofs.lemmas.Iterator.Consumers.{YieldsList-from_shown}
use Rattle.tcap_component.specs.declared.components.Components.{Components}
use Rattle.tcap_component.specs.Place.{components_steps}
use Rattle.tcap_component.specs.Views.{item_view, components_left}

-- the items that are left, one by one
pub components-yield : (s : Components) → YieldsList components_steps item_view s (components_left s)
components-yield s = YieldsList-from_shown components_steps item_view components_left
    (λ old new h. ap length h.0.0)
    (λ old item new h. h.0)
    s
