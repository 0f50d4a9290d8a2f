use Rattle.std.proofs.Common.{rules}
use Rattle.tcap_pdu.proofs.frame.put.put_closing.Goals as goal

pub returns-in-Uni-clause-items : goal.returns-in-Uni-clause-items
returns-in-Uni-clause-items g c = search rules
