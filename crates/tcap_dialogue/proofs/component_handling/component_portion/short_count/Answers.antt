use Rattle.std.proofs.Common.{◌≤◌, ◌+◌, ap, arith, tests, length}
use Rattle.ber_core.proofs.CallerLemmas.{items_of-none}
use Rattle.tcap_dialogue.proofs.ItemLemmas.{one-taken}
use Rattle.tcap_dialogue.proofs.component_handling.component_portion.short_count.Goals as goal

pub loop-rest-smaller : goal.loop-rest-smaller
loop-rest-smaller c = (one-taken _ c.loop-rest.rest.now _ c.in_ok-behind.ensures.value).1

pub loop-rest-preserved : goal.loop-rest-preserved
loop-rest-preserved c =
    let next = (one-taken _ c.loop-rest.rest.now _ c.in_ok-behind.ensures.value).0 in
    let few = c.loop-rest.invariant.1 in
    let not_all = c.if-count-eq-FEW.false in
    let one_more : c.loop-rest.count + 1 ≤ 8 = grind (arith, tests, few, not_all) in
    (omega (arith, next, c.loop-rest.invariant.0), one_more)

pub returns : goal.returns
returns c =
    let none = ap length (items_of-none c.loop-rest.rest.now (omega (arith, c.in_default.len_below))) in
    omega (arith, none, c.loop-rest.invariant.0)
