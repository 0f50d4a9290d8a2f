use Rattle.tcap_living.proofs.LineForms.{formed_good, read_unless_wrong, told_bad}
use Rattle.tcap_living.proofs.laws.bad_lines.Goals as goal

pub returns-clause-words : goal.returns-clause-words
returns-clause-words c = read_unless_wrong

pub returns-clause-bad : goal.returns-clause-bad
returns-clause-bad c = told_bad

pub returns-clause-good : goal.returns-clause-good
returns-clause-good c = formed_good
