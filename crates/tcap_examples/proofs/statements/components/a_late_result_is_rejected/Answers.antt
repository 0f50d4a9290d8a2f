use Rattle.tcap_examples.proofs.ComponentsSent.{late-sent-from}
use Rattle.tcap_examples.proofs.statements.components.a_late_result_is_rejected.Goals as goal

pub returns : goal.returns
returns c = late-sent-from
