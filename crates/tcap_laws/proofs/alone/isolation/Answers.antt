use Rattle.tcap_laws.proofs.Isolation.SeenMoments.{each-alone}
use Rattle.tcap_laws.proofs.alone.isolation.Goals as goal

pub returns : goal.returns
returns c = each-alone
