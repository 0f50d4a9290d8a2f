use Rattle.std.proofs.Common.{◌∙◌, ap}
use Rattle.tcap_engine.proofs.StartLemmas.{clock-stands}
use Rattle.tcap_model.specs.Table.World.{World}
use Rattle.tcap_engine.proofs.engine.Engine.now.Goals as goal

pub returns-clause-value : goal.returns-clause-value
returns-clause-value g c = ap (λ (w : World). w.clock) c.self.view_is

pub returns-clause-stands : goal.returns-clause-stands
returns-clause-stands g c = λ h at. returns-clause-value g c ∙ clock-stands h c.args.self.now at
