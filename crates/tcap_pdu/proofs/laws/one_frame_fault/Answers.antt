use Rattle.tcap_pdu.proofs.FrameGrammar.{one_fault, no_frame}
use Rattle.tcap_pdu.proofs.laws.one_frame_fault.Goals as goal

pub returns-clause-one : goal.returns-clause-one
returns-clause-one c = one_fault

pub returns-clause-no_frame : goal.returns-clause-no_frame
returns-clause-no_frame c = no_frame
