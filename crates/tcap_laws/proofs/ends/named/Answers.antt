use Rattle.tcap_laws.proofs.FarEnds.NamedAnswers.{named}
use Rattle.tcap_laws.proofs.ends.named.Goals as goal

pub returns : goal.returns
returns c = named
