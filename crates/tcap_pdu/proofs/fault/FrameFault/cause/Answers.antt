use Rattle.std.proofs.Common.{rules}
use Rattle.tcap_pdu.proofs.fault.FrameFault.cause.Goals as goal

pub returns-in-Incorrect : goal.returns-in-Incorrect
returns-in-Incorrect c = search rules
