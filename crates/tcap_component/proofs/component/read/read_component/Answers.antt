use Rattle.tcap_component.specs.Views.{component_parts}
use Rattle.tcap_component.proofs.ComponentGrammar.{found, only, fails}
use Rattle.tcap_component.proofs.SpelledWritable.{writable}
use Rattle.tcap_component.proofs.component.read.read_component.Goals as goal

pub returns-clause-found : goal.returns-clause-found
returns-clause-found c = found (λ r. (component_parts r.0, r.1.now)) c.args.bytes.now c.split_component.result c.split_component.ensures.value

pub returns-clause-writable : goal.returns-clause-writable
returns-clause-writable c = writable (λ r. (component_parts r.0, r.1.now)) c.args.bytes.now c.split_component.result c.split_component.ensures.value

pub returns-clause-only : goal.returns-clause-only
returns-clause-only c = only (λ r. (component_parts r.0, r.1.now)) c.args.bytes.now c.split_component.result c.split_component.ensures.value

pub returns-clause-fault : goal.returns-clause-fault
returns-clause-fault c = fails (λ r. (component_parts r.0, r.1.now)) c.args.bytes.now c.split_component.result c.split_component.ensures.value
