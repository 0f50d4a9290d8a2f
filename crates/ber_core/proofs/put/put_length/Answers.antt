use Rattle.std.proofs.Common.{arith, rules}
use Rattle.std.proofs.lemmas.Grind.{common_steps}
use Rattle.ber_core.proofs.put.put_length.Goals as goal

pub push_reserved-requires-then-len-lt256-2 : goal.push_reserved-requires-then-len-lt256-2
push_reserved-requires-then-len-lt256-2 g c = search rules

pub returns-then-len-lt256-clause-items : goal.returns-then-len-lt256-clause-items
returns-then-len-lt256-clause-items g c = grind (arith, common_steps)
