use Rattle.std.proofs.Common.{rules}
use Rattle.ber_core.specs.ListReading.{item_at}
use Rattle.ber_core.proofs.elements.split_item.Goals as goal

pub returns-in-Err-clause-value : goal.returns-in-Err-clause-value
unfolding item_at
returns-in-Err-clause-value c = search rules
