use Rattle.std.proofs.Common.{◌≡◌, ◌++◌, length, map}
use Rattle.std.specs.Prelude.{string_bytes}
use Rattle.tcap_judging.proofs.JsonLists.{json_left}
use Rattle.tcap_judging.specs.JsonNames.{json_components}
use Rattle.tcap_judging.specs.MessageItems.{items_in}
use Rattle.tcap_judging.specs.NameViews.{named_view}
use Rattle.tcap_judging.proofs.json_names.add_components.Given as goal

-- what was added so far, with what is left, is all
abbrev pub invariant-loop-component : goal.invariant-loop-component
invariant-loop-component g l =
    let names = map named_view l.names in
    string_bytes l.text ++ json_left names l.is_behind (items_in l.rest) ≡ string_bytes l.fn.text ++ json_components names (items_in l.content)

abbrev pub decreases-loop-component : goal.decreases-loop-component
decreases-loop-component g l = length l.rest
