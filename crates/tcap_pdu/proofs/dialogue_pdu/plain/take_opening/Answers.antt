use Rattle.tcap_pdu.proofs.DialoguePlaceSteps.{context-way}
use Rattle.tcap_pdu.proofs.dialogue_pdu.plain.take_opening.Goals as goal

pub returns-clause-context : goal.returns-clause-context
returns-clause-context c =
    context-way c.in_ok-context.context c.in_ok-name.name c.in_ok-rest.rest c.args.bytes c.in_ok-rest.ensures.goes_on c.in_ok-name.ensures.inside c.in_ok-context.ensures.inside
