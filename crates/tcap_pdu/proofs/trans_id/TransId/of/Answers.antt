use Rattle.std.proofs.Common.{rules}
use Rattle.tcap_pdu.proofs.trans_id.TransId.of.Goals as goal

pub returns : goal.returns
returns c = search rules
