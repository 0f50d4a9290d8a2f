use Rattle.std.proofs.Common.{rules}
use Rattle.tcap_dialogue.proofs.dialogue.Dialogue.write_uni.Goals as goal

pub returns-clause-ok : goal.returns-clause-ok
returns-clause-ok g c = search rules
