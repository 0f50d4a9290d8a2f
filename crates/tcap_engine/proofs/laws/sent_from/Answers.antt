use Rattle.tcap_laws.proofs.CallerLemmas.{sent-from}
use Rattle.tcap_engine.proofs.laws.sent_from.Goals as goal

pub returns : goal.returns
returns c = sent-from
