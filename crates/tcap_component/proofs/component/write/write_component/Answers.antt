use Rattle.std.proofs.Common.{refl, inl, inr}
use Rattle.std.proofs.lemmas.Result.{err_from_is_err_and}
use Rattle.tcap_component.specs.Views.{component_parts}
use Rattle.tcap_component.proofs.WrittenGrammar.{not_refused_by, one_due}
use Rattle.tcap_component.proofs.WrittenSpelling.{component_spelled}
use Rattle.tcap_component.proofs.component.write.write_component.Goals as goal

pub returns-in_err-contents-clause-due : goal.returns-in_err-contents-clause-due
returns-in_err-contents-clause-due g c f h =
    let p = err_from_is_err_and c.from_residual.result c.from_residual.ensures.1 in
    let same = one_due (component_parts c.args.component.now) c.in_err-contents.field-0.0 f c.in_err-contents.ensures.err h in
    rw (p.1, p.2, same) refl

pub returns-in_err-contents-clause-only : goal.returns-in_err-contents-clause-only
returns-in_err-contents-clause-only g c =
    let p = err_from_is_err_and c.from_residual.result c.from_residual.ensures.1 in
    rw (p.1, p.2) (inl c.in_err-contents.ensures.err)

pub returns-in_err-write_all-clause-due : goal.returns-in_err-write_all-clause-due
returns-in_err-write_all-clause-due g c f h = absurd (not_refused_by (component_parts c.args.component.now) f c.in_ok-contents.ensures.ok.0 h)

pub returns-in_err-write_all-clause-only : goal.returns-in_err-write_all-clause-only
returns-in_err-write_all-clause-only g c =
    let p = err_from_is_err_and c.from_residual-in_err-write_all.result c.from_residual-in_err-write_all.ensures.1 in
    rw (p.1, p.2) (inr (refl, c.in_ok-contents.ensures.ok.0))

pub returns-clause-due : goal.returns-clause-due
returns-clause-due g c f h = absurd (not_refused_by (component_parts c.args.component.now) f c.in_ok-contents.ensures.ok.0 h)

pub returns-clause-spelled : goal.returns-clause-spelled
returns-clause-spelled g c = rw c.in_ok-write_all.ensures (component_spelled (component_parts c.args.component.now) c.in_range.ensures c.in_ok-contents.ensures.ok.0)
