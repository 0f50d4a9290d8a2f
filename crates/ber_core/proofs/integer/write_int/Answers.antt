use Rattle.ber_core.proofs.IntegerGrammar.{integer_spelled}
use Rattle.ber_core.proofs.integer.write_int.Goals as goal

pub returns-in_err-reserve-clause-spelled : goal.returns-in_err-reserve-clause-spelled
returns-in_err-reserve-clause-spelled g c = integer_spelled c.args.value c.ranges.value

pub returns-clause-spelled : goal.returns-clause-spelled
returns-clause-spelled g c = integer_spelled c.args.value c.ranges.value
