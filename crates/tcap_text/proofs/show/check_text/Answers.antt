use Rattle.std.proofs.Common.{rules}
use Rattle.tcap_text.proofs.show.check_text.Goals as goal

pub returns-clause-text : goal.returns-clause-text
returns-clause-text g c = search rules

pub returns-clause-good : goal.returns-clause-good
returns-clause-good g c = search rules
