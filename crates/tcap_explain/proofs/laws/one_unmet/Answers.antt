use Rattle.tcap_explain.proofs.UnmetOnly.{one_unmet, stands_met}
use Rattle.tcap_explain.proofs.laws.one_unmet.Goals as goal

pub returns-clause-one : goal.returns-clause-one
returns-clause-one c = one_unmet

pub returns-clause-none : goal.returns-clause-none
returns-clause-none c = stands_met
