use Rattle.tcap_laws.proofs.Queues.SentComponents.{sent-from}
use Rattle.tcap_laws.proofs.components.sent_from.Goals as goal

pub returns : goal.returns
returns c = sent-from
