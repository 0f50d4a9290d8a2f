use Rattle.std.proofs.Common.{◌≡◌, refl, rules, sym, None}
use Rattle.tcap_component.specs.declared.fault.WriteFault.{WriteFault}
use Rattle.tcap_component.specs.Views.{component_parts}
use Rattle.tcap_component.specs.Written.{IsWriteFault, length_if_any, write_fault, written_component}
use Rattle.tcap_component.proofs.WrittenGrammar.{length_rules}
use Rattle.tcap_component.proofs.component.length.component_len.Goals as goal

pub returns-in-Err-clause-exact : goal.returns-in-Err-clause-exact
returns-in-Err-clause-exact c =
    let none : length_if_any (written_component (component_parts c.args.component.now)) (write_fault (component_parts c.args.component.now)) ≡ None = search (rules, length_rules) in
    sym none

pub returns-in-Err-clause-refused : goal.returns-in-Err-clause-refused
returns-in-Err-clause-refused c =
    let fault : (f : WriteFault) × IsWriteFault (component_parts c.args.component.now) f = search (rules, length_rules) in
    (λ e. fault, λ f. refl)

pub returns-in-Err-clause-value : goal.returns-in-Err-clause-value
returns-in-Err-clause-value c = tt
