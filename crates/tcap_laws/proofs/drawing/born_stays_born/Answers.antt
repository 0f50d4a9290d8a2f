use Rattle.tcap_laws.proofs.Births.Lives.{born-stays}
use Rattle.tcap_laws.proofs.drawing.born_stays_born.Goals as goal

pub returns : goal.returns
returns c = born-stays
