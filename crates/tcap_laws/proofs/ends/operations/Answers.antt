use Rattle.tcap_laws.proofs.FarEnds.SentInvokes.{operations}
use Rattle.tcap_laws.proofs.ends.operations.Goals as goal

pub returns : goal.returns
returns c = operations
