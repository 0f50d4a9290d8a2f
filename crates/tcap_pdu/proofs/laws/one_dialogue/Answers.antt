use Rattle.tcap_pdu.proofs.DialogueAgreement.{one_dialogue}
use Rattle.tcap_pdu.proofs.laws.one_dialogue.Goals as goal

pub returns : goal.returns
returns c = one_dialogue
