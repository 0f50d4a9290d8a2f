use Rattle.std.proofs.Common.{rules, ◌≡◌, option_copied, unwrap_or, to_z, of_z}
use Rattle.std.proofs.lemmas.Int.{to_z-of_z}
use Rattle.std.specs.Int.{w8}
use Rattle.tcap_component.specs.Views.{code_parts}
use Rattle.tcap_engine.proofs.SpentLemmas.{spent-refused}
use Rattle.tcap_primitives.specs.declared.fault.Fault.TheVariants as fault
use Rattle.tcap_engine.proofs.engine.component_requests.spent_fault.Goals as goal

pub returns : goal.returns
returns g c clock number none =
    let i = c.args.request.now in
    let answered : c.unwrap_or.result ≡ unwrap_or c.check_invoke-fault.result fault.NumbersSpent = c.unwrap_or.ensures in
    let same : to_z w8 (of_z w8 i.id) ≡ i.id = to_z-of_z w8 i.id (search rules) in
    rw answered (spent-refused clock number c.args.dialogue.now i.id i.class (code_parts i.code) (option_copied i.parameter) i.linked i.timeout_ms c.check_invoke-fault.result none (rw same at (c.check_invoke-fault.ensures number i.class i.linked)))
