use Rattle.std.proofs.Common.{rules}
use Rattle.tcap_component.proofs.component.write.tag_of_component.Goals as goal

pub returns-in-ResultMore : goal.returns-in-ResultMore
returns-in-ResultMore c = search rules
