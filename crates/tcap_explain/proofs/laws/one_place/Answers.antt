use Rattle.tcap_explain.proofs.FaultAtLemmas.{one_place}
use Rattle.tcap_explain.proofs.PortionThere.{fault_there, good_no_fault}
use Rattle.tcap_explain.proofs.laws.one_place.Goals as goal

pub returns-clause-there : goal.returns-clause-there
returns-clause-there c = fault_there

pub returns-clause-one : goal.returns-clause-one
returns-clause-one c = one_place

pub returns-clause-none : goal.returns-clause-none
returns-clause-none c = good_no_fault
