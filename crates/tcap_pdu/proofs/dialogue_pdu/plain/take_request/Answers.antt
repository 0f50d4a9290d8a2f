use Rattle.std.proofs.Common.{arith}
use Rattle.tcap_pdu.proofs.PlainDialogue.{request-alone}
use Rattle.tcap_pdu.proofs.dialogue_pdu.plain.take_request.Goals as goal

pub returns-in-Some-default-default-empty-clause-value : goal.returns-in-Some-default-default-empty-clause-value
returns-in-Some-default-default-empty-clause-value c =
    let r = c.in-Some-default-default-empty in
    request-alone r.version1 c.args.content.now r.context.now r.field-0-2.now r.ensures.value (omega (arith, r.len_below))
