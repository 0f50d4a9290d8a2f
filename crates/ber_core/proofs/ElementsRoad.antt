-- What an iterator over elements yields.
use Rattle.std.proofs.Common.{length, ap}
use Rattle.std.proofs.lemmas.Iterator.{YieldsList}
use Rattle.std.proofs.lemmas.Iterator.Consumers.{YieldsList-from_shown}
use Rattle.ber_core.specs.declared.elements.Elements.{Elements}
use Rattle.ber_core.specs.Views.{item_view, items_left, elements_steps}

-- the items that are left, one by one
pub elements-yield : (s : Elements) → YieldsList elements_steps item_view s (items_left s)
elements-yield s = YieldsList-from_shown elements_steps item_view items_left
    (λ old new h. ap length h.0.0)
    (λ old item new h. h.0)
    s
