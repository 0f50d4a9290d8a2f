use Rattle.std.proofs.Common.{◌∙◌, rules}
use Rattle.tcap_engine.proofs.StartLemmas.{state-stands}
use Rattle.tcap_engine.proofs.engine.Engine.state_of.Goals as goal

pub returns-clause-value : goal.returns-clause-value
returns-clause-value g c = search rules

pub returns-clause-stands : goal.returns-clause-stands
returns-clause-stands g c = λ h at. returns-clause-value g c ∙ state-stands h c.args.self.now c.args.dialogue at
