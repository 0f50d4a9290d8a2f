use Rattle.std.proofs.Common.{rules}
use Rattle.ber_core.proofs.integer.put_long.Goals as goal

pub returns-then-value-lt32768-clause-items : goal.returns-then-value-lt32768-clause-items
returns-then-value-lt32768-clause-items g c = search rules
