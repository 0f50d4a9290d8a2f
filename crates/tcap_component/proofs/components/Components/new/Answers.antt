use Rattle.std.proofs.Common.{rules}
use Rattle.tcap_component.proofs.ListGrammar.{first_fault_again, first_fault_is}
use Rattle.tcap_component.proofs.components.Components.new.Goals as goal

pub returns-clause-first_fault : goal.returns-clause-first_fault
returns-clause-first_fault c = search (rules, first_fault_again)

pub returns-clause-is : goal.returns-clause-is
returns-clause-is c = search (rules, first_fault_is)

pub returns-clause-place : goal.returns-clause-place
returns-clause-place c = search rules

pub returns-clause-exact : goal.returns-clause-exact
returns-clause-exact c = search rules
