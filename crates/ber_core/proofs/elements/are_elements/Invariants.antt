use Rattle.std.proofs.Common.{◌≡◌, length}
use Rattle.std.specs.Prelude.{is_ok}
use Rattle.std.specs.List.{list_all}
use Rattle.ber_core.specs.ListReading.{items_of}
use Rattle.ber_core.proofs.elements.are_elements.Given as goal

abbrev pub invariant-loop-rest : goal.invariant-loop-rest
invariant-loop-rest l = list_all is_ok (items_of l.rest) ≡ list_all is_ok (items_of l.bytes)

abbrev pub decreases-loop-rest : goal.decreases-loop-rest
decreases-loop-rest l = length l.rest
