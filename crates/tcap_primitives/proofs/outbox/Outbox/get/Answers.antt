use Rattle.std.proofs.Common.{arith}
use Rattle.std.proofs.lemmas.Grind.{elements}
use Rattle.tcap_primitives.proofs.outbox.Outbox.get.Goals as goal

pub returns-in_err-kept : goal.returns-in_err-kept
returns-in_err-kept g c = grind (arith, elements)

pub output_of-requires : goal.output_of-requires
output_of-requires g c = grind (arith, elements)

pub returns : goal.returns
returns g c = grind (arith, elements)
