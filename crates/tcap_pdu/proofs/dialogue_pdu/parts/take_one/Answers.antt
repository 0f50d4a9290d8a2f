use Rattle.std.proofs.Common.{sym}
use Rattle.tcap_pdu.proofs.DialogueParts.{one_octet-is}
use Rattle.tcap_pdu.proofs.dialogue_pdu.parts.take_one.Goals as goal

pub returns-clause-inside : goal.returns-clause-inside
returns-clause-inside c =
    c.in_ok-element.ensures.inside c.in_ok-tag.tag (one_octet-is c.in_ok-element.element.tag.now c.in_ok-tag.tag (sym c.in_ok-tag.ensures))
