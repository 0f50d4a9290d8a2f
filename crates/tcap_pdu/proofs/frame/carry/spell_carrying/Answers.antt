use Rattle.std.proofs.Common.{rules}
use Rattle.tcap_pdu.proofs.frame.carry.spell_carrying.Goals as goal

pub append_message-requires-clause-measured : goal.append_message-requires-clause-measured
append_message-requires-clause-measured g c = search rules

pub append_message-requires-clause-room : goal.append_message-requires-clause-room
append_message-requires-clause-room g c = search rules

pub returns : goal.returns
returns g c = search rules
