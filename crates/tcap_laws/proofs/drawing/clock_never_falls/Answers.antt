use Rattle.tcap_laws.proofs.Births.Clocks.{clock-step, clock-later}
use Rattle.tcap_laws.proofs.drawing.clock_never_falls.Goals as goal

pub returns-clause-step : goal.returns-clause-step
returns-clause-step c = clock-step

pub returns-clause-later : goal.returns-clause-later
returns-clause-later c = clock-later
