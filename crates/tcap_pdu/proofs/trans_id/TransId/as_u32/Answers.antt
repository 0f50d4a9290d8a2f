use Rattle.std.proofs.Common.{rules}
use Rattle.tcap_pdu.proofs.trans_id.TransId.as_u32.Goals as goal

pub returns-clause-value : goal.returns-clause-value
returns-clause-value c = search rules
