use Rattle.tcap_laws.proofs.FarEnds.ClosedOnce.{once}
use Rattle.tcap_laws.proofs.ends.once.Goals as goal

pub returns : goal.returns
returns c = once
