use Rattle.std.proofs.Common.{◌≤◌, ap, ◌∙◌, inl, length, arith}
use Rattle.std.proofs.lemmas.Iterator.Consumers.{count_from_yields_List}
use Rattle.tcap_component.specs.Views.{components_left}
use Rattle.tcap_component.proofs.CallerLemmas.{components-yield}
use Rattle.tcap_dialogue.proofs.ItemLemmas.{components-length}
use Rattle.tcap_dialogue.proofs.component_handling.component_portion.count_items.Goals as goal

pub count-requires-clause-fits : goal.count-requires-clause-fits
count-requires-clause-fits c =
    let n : length (components_left c.new.result) ≤ length c.args.components.now = rw (c.new.ensures.exact) (components-length c.args.components.now) in
    inl (omega (arith, n))

pub returns : goal.returns
returns c = count_from_yields_List c.new.result c.count.result c.count.ensures.ran (components-yield c.new.result) ∙ ap length c.new.ensures.exact
