use Rattle.std.proofs.Common.{rules}
use Rattle.tcap_dialogue.proofs.dialogue.Dialogue.lapse_one.Goals as goal

pub returns-clause-lapse : goal.returns-clause-lapse
returns-clause-lapse g c = search rules

pub returns-clause-dialogue : goal.returns-clause-dialogue
returns-clause-dialogue g c = search rules

pub returns-clause-first : goal.returns-clause-first
returns-clause-first g c = search rules

pub returns-clause-rest : goal.returns-clause-rest
returns-clause-rest g c = search rules
