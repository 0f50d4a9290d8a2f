use Rattle.std.proofs.Common.{◌∙◌, Ok}
use Rattle.tcap_cmd.proofs.Answering.{status-is}
use Rattle.tcap_cmd.proofs.command.run_command.Goals as goal

pub returns-in-Ok-clause-gave : goal.returns-in-Ok-clause-gave
returns-in-Ok-clause-gave g c = (Ok c.in-Ok.good, c.verdict_status.ensures ∙ status-is c.in-Ok.good, c.in-Ok.ensures.gave)
