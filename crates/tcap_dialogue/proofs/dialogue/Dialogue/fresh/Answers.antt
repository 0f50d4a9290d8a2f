use Rattle.std.proofs.Common.{rules}
use Rattle.tcap_dialogue.proofs.dialogue.Dialogue.fresh.Goals as goal

pub returns : goal.returns
returns g c = search rules
