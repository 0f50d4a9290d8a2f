use Rattle.std.proofs.Common.{◌≡◌, length, sym, ◌∙◌, arith, rules}
use Rattle.tcap_explain.proofs.WayLemmas.{component-shorter, left-none, left-next, left-fault}
use Rattle.tcap_explain.proofs.by_verdict.skip_components.Goals as goal

pub returns-in_default-clause-value : goal.returns-in_default-clause-value
returns-in_default-clause-value c = sym (left-fault c.loop-rest.rest.now _ c.in_default.ensures.exact) ∙ c.loop-rest.invariant.1

pub loop-rest-smaller : goal.loop-rest-smaller
loop-rest-smaller c = component-shorter c.loop-rest.rest.now (_, c.in-Ok.after.now) c.in-Ok.ensures.exact

pub loop-rest-preserved : goal.loop-rest-preserved
loop-rest-preserved c =
    let lt = component-shorter c.loop-rest.rest.now (_, c.in-Ok.after.now) c.in-Ok.ensures.exact in
    (omega (arith, lt, c.loop-rest.invariant.0), sym (left-next c.loop-rest.rest.now c.in-Ok.after.now _ c.in-Ok.ensures.exact) ∙ c.loop-rest.invariant.1)

pub returns-clause-value : goal.returns-clause-value
returns-clause-value c =
    let empty : length c.loop-rest.rest.now ≡ 0 = search rules in
    sym (left-none c.loop-rest.rest.now empty) ∙ c.loop-rest.invariant.1
