use Rattle.tcap_laws.proofs.CallerLemmas.{sent-once}
use Rattle.tcap_engine.proofs.laws.sent_once.Goals as goal

pub returns : goal.returns
returns c = sent-once
