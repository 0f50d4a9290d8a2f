use Rattle.std.proofs.Common.{arith}
use Rattle.tcap_judging.proofs.LineCuts.{all-taken, none-so-far, one-more}
use Rattle.tcap_judging.proofs.cut.take_piece.Goals as goal

pub loop-line-init : goal.loop-line-init
loop-line-init g c = (omega arith, λ before under_way. none-so-far _ _ before _ _ _ _ _ under_way)

pub loop-line-preserved : goal.loop-line-preserved
loop-line-preserved g c =
    let cut = c.in-Some.ensures.cut in
    let next = c.in_ok-good.ensures.next in (
      omega (arith, c.loop-line.invariant.0, next.2, c.in-Some.ensures.shorter),
      λ before under_way.
          let s = c.loop-line.invariant.1 before under_way in
          one-more _ _ _ _ _ _ _ _ _ _ _ _ s c.in-Some.line.now c.in-Some.after.now _ _ _ _ _ cut.0 cut.1 (c.in_ok-good.ensures.text s.left s.under_way) (c.in_ok-good.ensures.good s.left s.under_way) next.0 next.1 next.2,
    )

pub returns-clause-adds : goal.returns-clause-adds
returns-clause-adds g c before under_way =
    let s = c.loop-line.invariant.1 before under_way in
    all-taken _ _ _ _ _ _ _ _ _ _ _ _ s _ _ c.in_default.ensures.cut (c.in_ok-begun.ensures.keeps s.left s.under_way.0)
