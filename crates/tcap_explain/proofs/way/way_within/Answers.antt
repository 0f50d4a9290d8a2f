use Rattle.std.proofs.Common.{arith, []}
use Rattle.ber_core.specs.Views.{parts}
use Rattle.tcap_explain.proofs.MessageRead.{element-alone, way-sum}
use Rattle.tcap_explain.proofs.WalkLemmas.{content_within}
use Rattle.tcap_explain.proofs.way.way_within.Goals as goal

pub returns-clause-value : goal.returns-clause-value
returns-clause-value c =
    way-sum c.args.message c.args.portion _ _ (parts c.args.element.now) c.requires.element c.requires.tag c.head_len.ensures.value c.place_of-before.ensures.value

pub returns-clause-within : goal.returns-clause-within
returns-clause-within c =
    let w = content_within c.args.element.now.whole.now [] (parts c.args.element.now) (element-alone (parts c.args.element.now) c.requires.element) in
    omega (arith, w.0, c.head_len.ensures.value, c.place_of-before.ensures.within)
