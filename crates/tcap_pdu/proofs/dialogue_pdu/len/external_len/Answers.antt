use Rattle.std.proofs.Common.{rules}
use Rattle.tcap_pdu.proofs.dialogue_pdu.len.external_len.Goals as goal

pub returns : goal.returns
returns c = search rules
