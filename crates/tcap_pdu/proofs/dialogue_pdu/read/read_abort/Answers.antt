use Rattle.std.proofs.Common.{refl}
use Rattle.tcap_pdu.proofs.DialoguePlaceSteps.{info-way}
use Rattle.tcap_pdu.proofs.dialogue_pdu.read.read_abort.Goals as goal

pub returns-clause-place : goal.returns-clause-place
returns-clause-place c = info-way c.in_ok-info.info c.in_ok-source.rest c.args.content (c.in_ok-source.ensures.goes_on 0xbe refl) c.in_ok-info.ensures.inside
