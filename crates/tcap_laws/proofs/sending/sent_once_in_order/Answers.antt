use Rattle.tcap_laws.proofs.Submission.SentOnce.{sent-once}
use Rattle.tcap_laws.proofs.sending.sent_once_in_order.Goals as goal

pub returns : goal.returns
returns c = sent-once
