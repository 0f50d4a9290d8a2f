use Rattle.std.proofs.Common.{◌≡◌}
use Rattle.std.specs.List.{flat_map}
use Rattle.tcap_component.specs.Views.{components_left}
use Rattle.tcap_bench.specs.Checksum.{checksum, components_numbers, item_numbers}
use Rattle.tcap_bench.proofs.component_sum.add_components.Given as goal

abbrev pub invariant-loop-item : goal.invariant-loop-item
invariant-loop-item l =
    (goal.iterator-loop-item).can_next l.item-iterator
    × (goal.iterator-loop-item).is_finite l.item-iterator
    × (checksum l.sum (flat_map item_numbers (components_left l.item-iterator)) ≡ checksum l.total (components_numbers l.content))
