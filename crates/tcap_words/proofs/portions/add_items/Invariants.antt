use Rattle.std.proofs.Common.{◌≡◌, ◌++◌}
use Rattle.std.specs.Prelude.{string_bytes}
use Rattle.tcap_component.specs.ComponentReading.{components_of}
use Rattle.tcap_component.specs.Views.{components_left}
use Rattle.tcap_words.specs.Text.{BeginsWith}
use Rattle.tcap_words.specs.Show.{item_lines}
use Rattle.tcap_words.specs.Verdict.{components_verdict, is_good}
use Rattle.tcap_words.proofs.GoodItems.{good_after}
use Rattle.tcap_words.proofs.portions.add_items.Given as goal

abbrev pub invariant-loop-item : goal.invariant-loop-item
invariant-loop-item g l =
    (goal.iterator-loop-item g).can_next l.item-iterator
    × (goal.iterator-loop-item g).is_finite l.item-iterator
    × (good_after l.good (components_left l.item-iterator) ≡ is_good (components_verdict l.components))
    × (string_bytes l.text ++ item_lines (components_left l.item-iterator) ≡ string_bytes l.fn.text ++ item_lines (components_of l.components))
    × BeginsWith (string_bytes l.fn.text) (string_bytes l.text)
