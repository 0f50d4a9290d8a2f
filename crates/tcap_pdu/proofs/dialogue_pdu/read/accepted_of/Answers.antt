use Rattle.std.proofs.Common.{rules}
use Rattle.tcap_pdu.proofs.dialogue_pdu.read.accepted_of.Goals as goal

pub returns-in-1 : goal.returns-in-1
returns-in-1 c = search rules
