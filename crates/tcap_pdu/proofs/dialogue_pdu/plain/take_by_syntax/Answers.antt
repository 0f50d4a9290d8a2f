use Rattle.tcap_pdu.proofs.DialoguePlaceSteps.{pdu-held}
use Rattle.tcap_pdu.proofs.dialogue_pdu.plain.take_by_syntax.Goals as goal

pub returns-clause-place : goal.returns-clause-place
returns-clause-place c bytes external goes =
    pdu-held c.take_structured.result c.in_ok-take_only_short.field-0 c.args.rest external bytes goes c.in_ok-take_only_short.ensures.inside c.take_structured.ensures.own c.take_structured.ensures.place
