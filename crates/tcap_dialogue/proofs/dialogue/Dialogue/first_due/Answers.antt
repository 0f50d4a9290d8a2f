use Rattle.std.proofs.Common.{rules}
use Rattle.tcap_dialogue.proofs.dialogue.Dialogue.first_due.Goals as goal

pub returns : goal.returns
returns g c = search rules
