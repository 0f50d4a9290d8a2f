use Rattle.tcap_lines.proofs.WalkLemmas.{there, one_first, good_none}
use Rattle.tcap_lines.proofs.laws.one_fault.Goals as goal

pub returns-clause-there : goal.returns-clause-there
returns-clause-there c = there

pub returns-clause-one : goal.returns-clause-one
returns-clause-one c = one_first

pub returns-clause-none : goal.returns-clause-none
returns-clause-none c = good_none
