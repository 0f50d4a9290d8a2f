use Rattle.std.proofs.Common.{rules}
use Rattle.tcap_dialogue.proofs.dialogue.Dialogue.write_begin.Goals as goal

pub returns-in_ok-write_plain_begin-clause-names : goal.returns-in_ok-write_plain_begin-clause-names
returns-in_ok-write_plain_begin-clause-names g c = search rules
