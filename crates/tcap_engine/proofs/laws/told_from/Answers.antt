use Rattle.tcap_laws.proofs.CallerLemmas.{told-from}
use Rattle.tcap_engine.proofs.laws.told_from.Goals as goal

pub returns : goal.returns
returns c = told-from
