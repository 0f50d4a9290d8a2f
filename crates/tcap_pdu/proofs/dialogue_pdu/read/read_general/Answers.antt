use Rattle.std.proofs.Common.{refl}
use Rattle.tcap_pdu.proofs.DialoguePlaceSteps.{pdu-placed}
use Rattle.tcap_pdu.proofs.dialogue_pdu.read.read_general.Goals as goal

pub returns-clause-place : goal.returns-clause-place
returns-clause-place c =
    pdu-placed c.read_by_syntax.result c.in_ok-external.external c.args.bytes c.in_ok-external.ensures.inside (c.read_by_syntax.ensures.place c.in_ok-external.external (c.in_ok-syntax.ensures.goes_on 0xa0 refl))
