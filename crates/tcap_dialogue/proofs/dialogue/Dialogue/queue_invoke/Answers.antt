use Rattle.std.proofs.Common.{◌≡◌, ◌∙◌, None, Some, sym, option_copied, rules}
use Rattle.std.proofs.lemmas.Result.{err_from_is_err_and}
use Rattle.tcap_component.specs.Component.{ComponentParts}
use Rattle.tcap_component.specs.Views.{code_parts}
use Rattle.tcap_model.specs.Procedures.Refusals.{due_on}
use Rattle.tcap_model.specs.Table.TableMove.{situation}
use Rattle.tcap_primitives.specs.FaultViews.{fault_view}
use Rattle.tcap_dialogue.specs.ComponentRefusals.{invoke_refusal}
use Rattle.tcap_dialogue.specs.StepViews.{asked}
use Rattle.tcap_dialogue.proofs.InvokeLemmas.{invoking, invoke-due, invoke-wants}
use Rattle.tcap_dialogue.proofs.RefusalLemmas.{due-refused}
use Rattle.tcap_dialogue.proofs.dialogue.Dialogue.queue_invoke.Goals as goal

pub returns-in_err-len-clause-answer : goal.returns-in_err-len-clause-answer
returns-in_err-len-clause-answer g c =
    let d = c.args.self.now in
    let r = invoking c.args.number c.args.self.now c.args.request.now.id c.args.request.now.class (code_parts c.args.request.now.code) (option_copied c.args.request.now.parameter) c.args.request.now.linked c.args.request.now.timeout_ms in
    let p = err_from_is_err_and c.from_residual.result c.from_residual.ensures.1 in
    let fault = c.in_err-len.field-0.0 in
    let refused : invoke_refusal d c.args.request.now.id c.args.request.now.timeout_ms (ComponentParts.invoke c.args.request.now.id c.args.request.now.linked (code_parts c.args.request.now.code) (option_copied c.args.request.now.parameter)) ≡ Some (fault_view fault) = search (rules, c.in_err-len.ensures.err) in
    rw (p.1, p.2) (due-refused (fault_view fault) (asked 0 c.args.number) d r (sym refused ∙ invoke-due c.args.number c.args.self.now c.args.request.now.id c.args.request.now.class (code_parts c.args.request.now.code) (option_copied c.args.request.now.parameter) c.args.request.now.linked c.args.request.now.timeout_ms c.requires.left))

pub returns-in_err-reserve-clause-answer : goal.returns-in_err-reserve-clause-answer
returns-in_err-reserve-clause-answer g c =
    let d = c.args.self.now in
    let r = invoking c.args.number c.args.self.now c.args.request.now.id c.args.request.now.class (code_parts c.args.request.now.code) (option_copied c.args.request.now.parameter) c.args.request.now.linked c.args.request.now.timeout_ms in
    let good : invoke_refusal d c.args.request.now.id c.args.request.now.timeout_ms (ComponentParts.invoke c.args.request.now.id c.args.request.now.linked (code_parts c.args.request.now.code) (option_copied c.args.request.now.parameter)) ≡ None = search (rules, c.in_ok-len.ensures.ok) in
    let due : due_on (situation (asked 0 c.args.number) d r) r ≡ None = sym (invoke-due c.args.number c.args.self.now c.args.request.now.id c.args.request.now.class (code_parts c.args.request.now.code) (option_copied c.args.request.now.parameter) c.args.request.now.linked c.args.request.now.timeout_ms c.requires.left) ∙ good in
    let wants = invoke-wants c.args.number c.args.self.now c.args.request.now.id c.args.request.now.class (code_parts c.args.request.now.code) (option_copied c.args.request.now.parameter) c.args.request.now.linked c.args.request.now.timeout_ms due in
    search (rules, wants)

pub returns-in_err-add_free-clause-answer : goal.returns-in_err-add_free-clause-answer
returns-in_err-add_free-clause-answer g c =
    let d = c.args.self.now in
    let r = invoking c.args.number c.args.self.now c.args.request.now.id c.args.request.now.class (code_parts c.args.request.now.code) (option_copied c.args.request.now.parameter) c.args.request.now.linked c.args.request.now.timeout_ms in
    let good : invoke_refusal d c.args.request.now.id c.args.request.now.timeout_ms (ComponentParts.invoke c.args.request.now.id c.args.request.now.linked (code_parts c.args.request.now.code) (option_copied c.args.request.now.parameter)) ≡ None = search (rules, c.in_ok-len.ensures.ok) in
    let due : due_on (situation (asked 0 c.args.number) d r) r ≡ None = sym (invoke-due c.args.number c.args.self.now c.args.request.now.id c.args.request.now.class (code_parts c.args.request.now.code) (option_copied c.args.request.now.parameter) c.args.request.now.linked c.args.request.now.timeout_ms c.requires.left) ∙ good in
    let wants = invoke-wants c.args.number c.args.self.now c.args.request.now.id c.args.request.now.class (code_parts c.args.request.now.code) (option_copied c.args.request.now.parameter) c.args.request.now.linked c.args.request.now.timeout_ms due in
    search (rules, wants)

pub returns-clause-answer : goal.returns-clause-answer
returns-clause-answer g c =
    let d = c.args.self.now in
    let r = invoking c.args.number c.args.self.now c.args.request.now.id c.args.request.now.class (code_parts c.args.request.now.code) (option_copied c.args.request.now.parameter) c.args.request.now.linked c.args.request.now.timeout_ms in
    let good : invoke_refusal d c.args.request.now.id c.args.request.now.timeout_ms (ComponentParts.invoke c.args.request.now.id c.args.request.now.linked (code_parts c.args.request.now.code) (option_copied c.args.request.now.parameter)) ≡ None = search (rules, c.in_ok-len.ensures.ok) in
    let due : due_on (situation (asked 0 c.args.number) d r) r ≡ None = sym (invoke-due c.args.number c.args.self.now c.args.request.now.id c.args.request.now.class (code_parts c.args.request.now.code) (option_copied c.args.request.now.parameter) c.args.request.now.linked c.args.request.now.timeout_ms c.requires.left) ∙ good in
    search (rules, due)
