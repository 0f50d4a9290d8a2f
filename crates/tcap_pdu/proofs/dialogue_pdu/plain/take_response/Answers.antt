use Rattle.std.proofs.Common.{◌≡◌, rules}
use Rattle.tcap_pdu.proofs.PlainDialogue.{accepted_octets, response-alone}
use Rattle.tcap_pdu.proofs.dialogue_pdu.plain.take_response.Goals as goal

pub returns-in-Some-clause-value : goal.returns-in-Some-clause-value
returns-in-Some-clause-value c =
    let same : c.in-Some.rest.now ≡ accepted_octets = search rules in
    response-alone c.in-Some.version1 c.args.content.now c.in-Some.context.now c.in-Some.rest.now c.in-Some.ensures.value same
