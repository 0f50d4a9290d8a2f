use Rattle.tcap_laws.proofs.FarEnds.FarOrigins.{origin}
use Rattle.tcap_laws.proofs.ends.origin.Goals as goal

pub returns : goal.returns
returns c = origin
