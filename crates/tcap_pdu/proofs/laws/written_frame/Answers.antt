use Rattle.tcap_pdu.proofs.WrittenFrameGrammar.{written_spelled, written_again}
use Rattle.tcap_pdu.proofs.laws.written_frame.Goals as goal

pub returns-clause-spelled : goal.returns-clause-spelled
returns-clause-spelled c = written_spelled

pub returns-clause-read : goal.returns-clause-read
returns-clause-read c = written_again
