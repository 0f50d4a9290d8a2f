use Rattle.tcap_laws.proofs.FarEnds.AfterInvokes.{after-invoke}
use Rattle.tcap_laws.proofs.ends.after_invoke.Goals as goal

pub returns : goal.returns
returns c = after-invoke
