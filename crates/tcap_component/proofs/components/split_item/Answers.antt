use Rattle.std.proofs.Common.{rules}
use Rattle.tcap_component.specs.ComponentReading.{item_at}
use Rattle.tcap_component.proofs.components.split_item.Goals as goal

pub returns-in-Err-clause-value : goal.returns-in-Err-clause-value
unfolding item_at
returns-in-Err-clause-value c = search rules
