use Rattle.std.proofs.Common.{refl}
use Rattle.tcap_pdu.proofs.DialoguePlaceSteps.{info-way}
use Rattle.tcap_pdu.proofs.dialogue_pdu.read.read_request.Goals as goal

pub returns-clause-info : goal.returns-clause-info
returns-clause-info c = info-way c.in_ok-info.info c.in_ok-version1.rest c.args.content (c.in_ok-version1.ensures.goes_on 0xbe refl refl) c.in_ok-info.ensures.inside
