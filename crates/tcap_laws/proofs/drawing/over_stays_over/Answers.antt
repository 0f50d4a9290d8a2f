use Rattle.tcap_laws.proofs.Births.Lives.{over-step, over-later}
use Rattle.tcap_laws.proofs.drawing.over_stays_over.Goals as goal

pub returns-clause-step : goal.returns-clause-step
returns-clause-step c = over-step

pub returns-clause-later : goal.returns-clause-later
returns-clause-later c = over-later
