use Rattle.tcap_component.proofs.ComponentGrammar.{one_fault, no_component}
use Rattle.tcap_component.proofs.laws.one_fault.Goals as goal

pub returns-clause-one : goal.returns-clause-one
returns-clause-one c = one_fault

pub returns-clause-no_component : goal.returns-clause-no_component
returns-clause-no_component c = no_component
