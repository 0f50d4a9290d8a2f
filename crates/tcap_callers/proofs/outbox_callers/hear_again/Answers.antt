use Rattle.tcap_callers.proofs.OutboxCalls.{stands-alone}
use Rattle.tcap_callers.proofs.outbox_callers.hear_again.Goals as goal

pub returns : goal.returns
returns g c h at = stands-alone _ _ _ _ _ _ c.clear.ensures.outputs (c.receive_into.ensures.stands h at)
