use Rattle.std.proofs.Common.{rules}
use Rattle.tcap_dialogue.proofs.dialogue.Dialogue.close_one.Goals as goal

pub returns-clause-told : goal.returns-clause-told
returns-clause-told g c = search rules

pub returns-clause-dialogue : goal.returns-clause-dialogue
returns-clause-dialogue g c = search rules

pub returns-clause-rest : goal.returns-clause-rest
returns-clause-rest g c = search rules
