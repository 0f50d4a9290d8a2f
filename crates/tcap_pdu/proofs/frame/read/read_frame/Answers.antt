use Rattle.tcap_pdu.specs.FrameViews.{message}
use Rattle.tcap_pdu.proofs.FrameGrammar.{found, only, fault}
use Rattle.tcap_pdu.proofs.frame.read.read_frame.Goals as goal

pub returns-clause-found : goal.returns-clause-found
returns-clause-found c = found message c.args.bytes.now c.split_frame.result c.split_frame.ensures.value

pub returns-clause-only : goal.returns-clause-only
returns-clause-only c = only message c.args.bytes.now c.split_frame.result c.split_frame.ensures.value

pub returns-clause-fault : goal.returns-clause-fault
returns-clause-fault c = fault message c.args.bytes.now c.split_frame.result c.split_frame.ensures.value
