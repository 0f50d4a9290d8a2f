use Rattle.std.proofs.Common.{◌≡◌, ◌++◌}
use Rattle.std.specs.List.{flat_map, AllByRecursion}
use Rattle.tcap_component.specs.Views.{components_left}
use Rattle.tcap_words.specs.Canonical.{canonical_item, canonical_components, IsWritableItem}
use Rattle.tcap_words.proofs.rewrite.rewrite_components.Given as goal

abbrev pub invariant-loop-item : goal.invariant-loop-item
invariant-loop-item g l =
    (goal.iterator-loop-item g).can_next l.item-iterator
    × (goal.iterator-loop-item g).is_finite l.item-iterator
    × (l.octets.items ++ flat_map canonical_item (components_left l.item-iterator) ≡ canonical_components l.components)
    × AllByRecursion IsWritableItem (components_left l.item-iterator)
