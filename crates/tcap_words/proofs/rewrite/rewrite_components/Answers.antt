use Rattle.std.proofs.Common.{◌∙◌, ap}
use Rattle.tcap_component.specs.Views.{components_left}
use Rattle.tcap_words.proofs.CanonicalComponents.{started}
use Rattle.tcap_words.proofs.rewrite.rewrite_components.Goals as goal

pub loop-item-init : goal.loop-item-init
loop-item-init g c =
    let left = ap components_left c.into_iter-item-iterator.ensures.into_iter_gives ∙ c.new-item-items.ensures.exact in
    let s = started c.new-octets.result.items c.args.components.now _ c.new-octets.ensures.items left in
    (tt, tt, s.0, s.1)
