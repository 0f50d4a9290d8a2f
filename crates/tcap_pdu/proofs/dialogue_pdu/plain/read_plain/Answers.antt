use Rattle.std.proofs.Common.{refl}
use Rattle.tcap_pdu.proofs.DialoguePlaceSteps.{pdu-placed}
use Rattle.tcap_pdu.proofs.dialogue_pdu.plain.read_plain.Goals as goal

pub returns-clause-place : goal.returns-clause-place
returns-clause-place c =
    let external = c.in_ok-external.external in
    pdu-placed c.take_by_syntax.result external c.args.bytes c.in_ok-external.ensures.inside (c.take_by_syntax.ensures.place c.args.bytes external (c.in_ok-syntax.ensures.goes_on 0xa0 refl))
