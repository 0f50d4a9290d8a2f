use Rattle.tcap_pdu.proofs.WrittenSpelling.{written_spells, written_read}
use Rattle.tcap_pdu.proofs.laws.written_dialogue.Goals as goal

pub returns-clause-spelled : goal.returns-clause-spelled
returns-clause-spelled c = written_spells

pub returns-clause-read : goal.returns-clause-read
returns-clause-read c = written_read
