use Rattle.std.proofs.Common.{◌∙◌}
use Rattle.ber_core.proofs.IntegerGrammar.{found, fewest, integer_again}
use Rattle.ber_core.proofs.integer.read_int.Goals as goal

pub returns-clause-found : goal.returns-clause-found
returns-clause-found c = found c.args.content.now c.integer.result c.integer.ensures

pub returns-clause-fewest : goal.returns-clause-fewest
returns-clause-fewest c = fewest c.args.content.now c.integer.result c.integer.ensures

pub returns-clause-only : goal.returns-clause-only
returns-clause-only c z is = c.integer.ensures ∙ integer_again c.args.content.now z is
