use Rattle.ber_core.proofs.ItemGrammar.{items_found, items_only, items_fault}
use Rattle.ber_core.proofs.elements.Elements.new.Goals as goal

pub returns-clause-found : goal.returns-clause-found
returns-clause-found c = items_found c.args.bytes.now

pub returns-clause-only : goal.returns-clause-only
returns-clause-only c = items_only c.args.bytes.now

pub returns-clause-fault : goal.returns-clause-fault
returns-clause-fault c = items_fault c.args.bytes.now
