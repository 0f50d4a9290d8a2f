use Rattle.std.proofs.Common.{sym, ◌∙◌}
use Rattle.std.proofs.lemmas.Bool.{eqb-true}
use Rattle.tcap_component.proofs.PlaceSteps.{last-ends}
use Rattle.tcap_component.proofs.component.parts.read_body.Goals as goal

pub returns-clause-place : goal.returns-clause-place
returns-clause-place c =
    let none = eqb-true _ 0 (sym c.is_empty.ensures ∙ c.if-not-is_empty.false) in
    (c.in_ok-code.ensures.place.0, last-ends c.take_any.result.0 c.take_any.result.1.now c.in_ok-code.rest c.args.bytes c.take_any.ensures.value c.take_any.ensures.place.0 none c.in_ok-code.ensures.place.1)
