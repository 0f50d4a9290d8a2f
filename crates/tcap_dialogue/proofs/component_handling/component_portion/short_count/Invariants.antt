use Rattle.std.proofs.Common.{◌≡◌, ◌+◌, ◌≤◌, length}
use Rattle.ber_core.specs.ListReading.{items_of}
use Rattle.tcap_dialogue.proofs.component_handling.component_portion.short_count.Given as goal

abbrev pub invariant-loop-rest : goal.invariant-loop-rest
invariant-loop-rest l = (l.count + length (items_of l.rest) ≡ length (items_of l.components)) × (l.count ≤ 8)

abbrev pub decreases-loop-rest : goal.decreases-loop-rest
decreases-loop-rest l = length l.rest
