use Rattle.std.proofs.Common.{arith}
use Rattle.std.proofs.lemmas.Grind.{common_steps}
use Rattle.tcap_dialogue.proofs.dialogue.Dialogue.send_continue.Goals as goal

pub returns-clause-step : goal.returns-clause-step
returns-clause-step g c = grind (arith, common_steps)
