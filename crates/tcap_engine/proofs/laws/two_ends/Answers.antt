use Rattle.tcap_laws.proofs.CallerLemmas.{two_ends}
use Rattle.tcap_engine.proofs.laws.two_ends.Goals as goal

pub returns : goal.returns
returns c = two_ends
