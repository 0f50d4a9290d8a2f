use Rattle.std.proofs.Common.{rules}
use Rattle.tcap_dialogue.proofs.dialogue.Dialogue.expire_first.Goals as goal

pub returns-in-Some-Lapse-clause-told : goal.returns-in-Some-Lapse-clause-told
returns-in-Some-Lapse-clause-told g c = search rules
