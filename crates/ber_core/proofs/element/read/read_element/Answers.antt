use Rattle.ber_core.specs.Views.{parts}
use Rattle.ber_core.proofs.Agreement.{found, only, fault}
use Rattle.ber_core.proofs.element.read.read_element.Goals as goal

pub returns-clause-found : goal.returns-clause-found
returns-clause-found c = found (λ r. (parts r.0, r.1.now)) 32 c.args.bytes.now c.split_element.result c.split_element.ensures.value

pub returns-clause-only : goal.returns-clause-only
returns-clause-only c = only (λ r. (parts r.0, r.1.now)) 32 c.args.bytes.now c.split_element.result c.split_element.ensures.value

pub returns-clause-fault : goal.returns-clause-fault
returns-clause-fault c = fault (λ r. (parts r.0, r.1.now)) 32 c.args.bytes.now c.split_element.result c.split_element.ensures.value
