use Rattle.tcap_pdu.proofs.LengthGrammar.{length-sized}
use Rattle.tcap_pdu.proofs.laws.frame_length.Goals as goal

pub returns : goal.returns
returns c = length-sized
