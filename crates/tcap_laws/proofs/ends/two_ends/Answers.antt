use Rattle.tcap_laws.proofs.FarEnds.AfterInvokes.{two_ends}
use Rattle.tcap_laws.proofs.ends.two_ends.Goals as goal

pub returns : goal.returns
returns c = two_ends
