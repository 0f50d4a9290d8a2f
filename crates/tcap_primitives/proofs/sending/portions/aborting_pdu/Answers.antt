use Rattle.std.proofs.Common.{rules}
use Rattle.tcap_primitives.proofs.sending.portions.aborting_pdu.Goals as goal

pub returns-clause-value : goal.returns-clause-value
returns-clause-value c = search rules
