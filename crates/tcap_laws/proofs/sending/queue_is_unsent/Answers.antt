use Rattle.tcap_laws.proofs.Submission.SentOnce.{queue-is-unsent}
use Rattle.tcap_laws.proofs.sending.queue_is_unsent.Goals as goal

pub returns : goal.returns
returns c = queue-is-unsent
