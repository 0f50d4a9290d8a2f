use Rattle.tcap_stories.proofs.BadLineLemmas.{line_bad, line_unfit, line_wrong}
use Rattle.tcap_stories.proofs.laws.bad_lines.Goals as goal

pub returns-clause-wrong : goal.returns-clause-wrong
returns-clause-wrong c p line found is = line_wrong p line found is

pub returns-clause-unfit : goal.returns-clause-unfit
returns-clause-unfit c p line is = line_unfit p line is

pub returns-clause-no_other : goal.returns-clause-no_other
returns-clause-no_other c p line bad = line_bad p line bad
