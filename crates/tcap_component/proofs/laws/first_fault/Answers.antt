use Rattle.tcap_component.proofs.ListGrammar.{first_fault_again, first_fault_is}
use Rattle.tcap_component.proofs.laws.first_fault.Goals as goal

pub returns-clause-is : goal.returns-clause-is
returns-clause-is c = first_fault_is

pub returns-clause-only : goal.returns-clause-only
returns-clause-only c = first_fault_again
