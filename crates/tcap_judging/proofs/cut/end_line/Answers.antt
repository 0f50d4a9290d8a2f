use Rattle.std.proofs.Common.{◌++◌, subst, sym}
use Rattle.tcap_judging.specs.LineViews.{AreKept}
use Rattle.tcap_judging.proofs.cut.end_line.Goals as goal

pub returns-clause-text : goal.returns-clause-text
returns-clause-text g c before under_way =
    let whole = before ++ c.args.octets.now in
    let keeps = c.in_ok-is_long.ensures.keeps before under_way.0 in
    c.in_ok-good.ensures.text whole (subst (λ kept. AreKept whole kept c.in_ok-is_long.is_long) (sym c.as_slice.ensures.value) keeps)

pub returns-clause-good : goal.returns-clause-good
returns-clause-good g c before under_way =
    let whole = before ++ c.args.octets.now in
    let keeps = c.in_ok-is_long.ensures.keeps before under_way.0 in
    c.in_ok-good.ensures.good whole (subst (λ kept. AreKept whole kept c.in_ok-is_long.is_long) (sym c.as_slice.ensures.value) keeps)
