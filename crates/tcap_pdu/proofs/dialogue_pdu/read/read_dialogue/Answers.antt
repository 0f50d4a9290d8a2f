use Rattle.tcap_pdu.specs.DialogueViews.{pdu_value}
use Rattle.tcap_pdu.proofs.DialogueAgreement.{found, only, fault}
use Rattle.tcap_pdu.proofs.dialogue_pdu.read.read_dialogue.Goals as goal

pub returns-clause-found : goal.returns-clause-found
returns-clause-found c = found pdu_value c.args.content.now c.read_portion.result c.read_portion.ensures.value

pub returns-clause-only : goal.returns-clause-only
returns-clause-only c = only pdu_value c.args.content.now c.read_portion.result c.read_portion.ensures.value

pub returns-clause-fault : goal.returns-clause-fault
returns-clause-fault c = fault pdu_value c.args.content.now c.read_portion.result c.read_portion.ensures.value
