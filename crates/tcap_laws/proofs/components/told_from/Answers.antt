use Rattle.tcap_laws.proofs.Receptions.ToldFromOctets.{told-from}
use Rattle.tcap_laws.proofs.components.told_from.Goals as goal

pub returns : goal.returns
returns c = told-from
