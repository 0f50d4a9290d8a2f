use Rattle.std.proofs.Common.{◌≤◌, sym, refl, ◌∙◌, arith, rules}
use Rattle.tcap_explain.proofs.MessageRead.{numbered, next-numbered, reached}
use Rattle.tcap_explain.proofs.WayLemmas.{component-shorter, left-next, left-fault}
use Rattle.tcap_explain.proofs.by_message.skip_to.Goals as goal

pub loop-at-init : goal.loop-at-init
loop-at-init c = (omega arith, refl, numbered c.args.content.now c.args.number c.requires)

pub returns-in_default-clause-value : goal.returns-in_default-clause-value
returns-in_default-clause-value c = sym (left-fault c.loop-at.rest.now _ c.in_default.ensures.exact) ∙ c.loop-at.invariant.1

pub loop-at-preserved : goal.loop-at-preserved
loop-at-preserved c =
    let rest = c.loop-at.rest.now in
    let lt = component-shorter rest (_, c.in-Ok.after.now) c.in-Ok.ensures.exact in (
      omega (arith, lt, c.loop-at.invariant.0),
      sym (left-next rest c.in-Ok.after.now _ c.in-Ok.ensures.exact) ∙ c.loop-at.invariant.1,
      next-numbered c.loop-at.at c.args.number rest c.in-Ok.after.now _ c.in-Ok.ensures.exact c.loop-at.invariant.2,
    )

pub returns-clause-value : goal.returns-clause-value
returns-clause-value c =
    let most : c.args.number ≤ c.loop-at.at = search (rules, arith) in
    sym (reached c.loop-at.at c.args.number c.loop-at.rest.now c.loop-at.invariant.2 most) ∙ c.loop-at.invariant.1
