use Rattle.tcap_c.proofs.ReadingLemmas.{read_back}
use Rattle.tcap_c.proofs.laws.read_back.Goals as goal

pub returns : goal.returns
returns c = read_back
