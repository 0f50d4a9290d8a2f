use Rattle.std.proofs.Common.{refl, inl, [], ◌∷◌}
use Rattle.ber_core.proofs.CallerLemmas.{way-in}
use Rattle.tcap_pdu.specs.DialoguePartsReading.{opening}
use Rattle.tcap_pdu.proofs.DialoguePlaceSteps.{pdu-in}
use Rattle.tcap_pdu.proofs.PlainDialogue.{structured-request, structured-response}
use Rattle.tcap_pdu.proofs.dialogue_pdu.plain.take_structured.Goals as goal

pub returns-in-Some-clause-value : goal.returns-in-Some-clause-value
returns-in-Some-clause-value c =
    let r = c.in_ok-version1 in
    structured-request c.args.bytes.now c.in-Some.content.now (opening r.version1 r.context.now []) c.in-Some.ensures.value r.ensures.value

pub returns-in-Some-clause-place : goal.returns-in-Some-clause-place
returns-in-Some-clause-place c =
    let r = c.in_ok-version1 in
    (way-in 0x60 (0xa1 ∷ 0x06 ∷ []) r.context c.in-Some.content c.args.bytes c.in-Some.ensures.inside r.ensures.context, inl refl)

pub returns-clause-value : goal.returns-clause-value
returns-clause-value c =
    structured-response c.take_response.result c.args.bytes.now c.in_ok-take_only_short.field-0.now c.in_ok-take_only_short.ensures.value c.take_response.ensures.value

pub returns-clause-place : goal.returns-clause-place
returns-clause-place c =
    pdu-in 0x61 c.take_response.result c.in_ok-take_only_short.field-0 c.args.bytes c.in_ok-take_only_short.ensures.inside c.take_response.ensures.tag c.take_response.ensures.place
