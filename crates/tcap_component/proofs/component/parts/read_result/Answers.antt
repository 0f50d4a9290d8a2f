use Rattle.std.proofs.Common.{rules, arith}
use Rattle.tcap_component.proofs.PartGrammar.{bare_result}
use Rattle.tcap_component.proofs.component.parts.read_result.Goals as goal

pub returns-in-Some-default-empty-clause-value : goal.returns-in-Some-default-empty-clause-value
returns-in-Some-default-empty-clause-value c =
    let found = c.in-Some-default-empty in
    let is = bare_result c.args.bytes.now found.field-0-1.now found.octet found.ensures.value (omega (arith, found.len_below)) (search rules) in
    rw is (search rules)
