use Rattle.tcap_component.proofs.WrittenSpelling.{component_spelled, component_written}
use Rattle.tcap_component.proofs.laws.written_component.Goals as goal

pub returns-clause-spelled : goal.returns-clause-spelled
returns-clause-spelled c = component_spelled

pub returns-clause-read : goal.returns-clause-read
returns-clause-read c = component_written
