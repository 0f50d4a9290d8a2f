use Rattle.std.proofs.Common.{◌≡◌, ◌∙◌, None, Some, ap, option_copied, rules}
use Rattle.tcap_component.specs.Component.{ComponentParts}
use Rattle.tcap_component.specs.Views.{code_parts}
use Rattle.tcap_primitives.specs.FaultViews.{fault_view}
use Rattle.tcap_primitives.specs.declared.fault.Fault.{Fault}
use Rattle.tcap_primitives.specs.declared.fault.Fault.TheVariants as fault
use Rattle.tcap_dialogue.specs.ComponentRefusals.{invoke_refusal}
use Rattle.tcap_dialogue.proofs.InvokeLemmas.{check-fault, check-none, check-room, long-only}
use Rattle.tcap_dialogue.proofs.dialogue.Dialogue.check_invoke.Goals as goal

pub returns-in-Ok : goal.returns-in-Ok
returns-in-Ok g c = λ number class linked.
    let none : invoke_refusal c.args.self.now c.args.id c.args.timeout_ms (ComponentParts.invoke c.args.id None (code_parts c.args.code) (option_copied c.args.parameter)) ≡ None = search (rules, c.in-Ok.ensures.ok) in
    check-none number c.args.self.now c.args.id class (code_parts c.args.code) (option_copied c.args.parameter) None c.args.timeout_ms none

pub returns-then-eq : goal.returns-then-eq
returns-then-eq g c = λ number class linked.
    let long : c.in-Err.fault ≡ fault.TooLong = search (rules, c.if-eq.ensures) in
    let refused : invoke_refusal c.args.self.now c.args.id c.args.timeout_ms (ComponentParts.invoke c.args.id None (code_parts c.args.code) (option_copied c.args.parameter)) ≡ Some (fault_view c.in-Err.fault) = search (rules, c.in-Err.ensures.err) in
    check-room number c.args.self.now c.args.id class (code_parts c.args.code) (option_copied c.args.parameter) None c.args.timeout_ms (refused ∙ ap (λ (f : Fault). Some (fault_view f)) long)

pub returns-else-eq : goal.returns-else-eq
returns-else-eq g c = λ number class linked.
    let short : ¬ (c.in-Err.fault ≡ fault.TooLong) = search (rules, c.if-eq.ensures) in
    let refused : invoke_refusal c.args.self.now c.args.id c.args.timeout_ms (ComponentParts.invoke c.args.id None (code_parts c.args.code) (option_copied c.args.parameter)) ≡ Some (fault_view c.in-Err.fault) = search (rules, c.in-Err.ensures.err) in
    check-fault number c.args.self.now c.args.id class (code_parts c.args.code) (option_copied c.args.parameter) None c.args.timeout_ms (fault_view c.in-Err.fault) (λ q. short (long-only c.in-Err.fault q)) refused
