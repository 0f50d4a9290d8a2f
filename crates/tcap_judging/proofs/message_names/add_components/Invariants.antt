use Rattle.std.proofs.Common.{◌≡◌, ◌++◌, length, map}
use Rattle.std.specs.Prelude.{string_bytes}
use Rattle.tcap_judging.specs.MessageItems.{items_in}
use Rattle.tcap_judging.specs.MessageNames.{components_words}
use Rattle.tcap_judging.specs.NameViews.{named_view}
use Rattle.tcap_judging.proofs.message_names.add_components.Given as goal

-- what was added so far, with what is left, is all
abbrev pub invariant-loop-component : goal.invariant-loop-component
invariant-loop-component g l =
    let words = components_words (map named_view l.names) in
    string_bytes l.text ++ words (items_in l.rest) ≡ string_bytes l.fn.text ++ words (items_in l.content)

abbrev pub decreases-loop-component : goal.decreases-loop-component
decreases-loop-component g l = length l.rest
