use Rattle.tcap_pdu.proofs.DialoguePlaceSteps.{pdu-held}
use Rattle.tcap_pdu.proofs.dialogue_pdu.read.read_by_syntax.Goals as goal

pub returns-in_ok-take_only-clause-place : goal.returns-in_ok-take_only-clause-place
returns-in_ok-take_only-clause-place c external goes =
    pdu-held c.read_structured.result c.in_ok-take_only.field-0 c.args.rest external c.args.bytes goes c.in_ok-take_only.ensures.inside c.read_structured.ensures.own c.read_structured.ensures.place

pub returns-in_ok-take_only-2-clause-place : goal.returns-in_ok-take_only-2-clause-place
returns-in_ok-take_only-2-clause-place c external goes =
    pdu-held c.read_unstructured.result c.in_ok-take_only-2.field-0 c.args.rest external c.args.bytes goes c.in_ok-take_only-2.ensures.inside c.read_unstructured.ensures.own c.read_unstructured.ensures.place
