use Rattle.std.proofs.Common.{sym}
use Rattle.tcap_pdu.specs.DialogueViews.{pdu_value}
use Rattle.tcap_pdu.specs.DialogueDue.{context_of}
use Rattle.tcap_pdu.proofs.DueSteps.{context_short, context_passed}
use Rattle.tcap_pdu.proofs.dialogue_pdu.len.checked_len.Goals as goal

pub portion_len-len-requires : goal.portion_len-len-requires
portion_len-len-requires c = context_short (context_of (pdu_value c.args.pdu.now)) (context_passed (pdu_value c.args.pdu.now) (sym c.in_default.ensures))
