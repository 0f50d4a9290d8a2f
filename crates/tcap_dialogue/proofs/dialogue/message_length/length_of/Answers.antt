use Rattle.std.proofs.Common.{rules}
use Rattle.tcap_dialogue.proofs.dialogue.message_length.length_of.Goals as goal

pub returns-in-Some : goal.returns-in-Some
returns-in-Some c = search rules
