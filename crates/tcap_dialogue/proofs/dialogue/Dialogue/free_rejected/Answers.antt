use Rattle.std.proofs.Common.{rules}
use Rattle.tcap_dialogue.proofs.dialogue.Dialogue.free_rejected.Goals as goal

pub returns-in-Result : goal.returns-in-Result
returns-in-Result g c = search rules
