use Rattle.std.proofs.Common.{◌≡◌, ◌++◌}
use Rattle.std.specs.List.{flat_map}
use Rattle.tcap_component.specs.Views.{components_left}
use Rattle.tcap_bench.specs.Rewritten.{rewritten_item, rewritten_components}
use Rattle.tcap_bench.proofs.rewritten.rewrite_components.Given as goal

abbrev pub invariant-loop-item : goal.invariant-loop-item
invariant-loop-item l =
    (goal.iterator-loop-item).can_next l.item-iterator
    × (goal.iterator-loop-item).is_finite l.item-iterator
    × (l.octets.items ++ flat_map rewritten_item (components_left l.item-iterator) ≡ rewritten_components l.content)
