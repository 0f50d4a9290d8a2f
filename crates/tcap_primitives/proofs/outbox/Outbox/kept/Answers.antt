use Rattle.std.proofs.Common.{arith}
use Rattle.std.proofs.lemmas.Grind.{elements}
use Rattle.tcap_primitives.proofs.outbox.Outbox.kept.Goals as goal

pub returns-in_err-record-clause-output : goal.returns-in_err-record-clause-output
returns-in_err-record-clause-output g c = grind (arith, elements)

pub returns-clause-output : goal.returns-clause-output
returns-clause-output g c = grind (arith, elements)

pub returns-clause-fits : goal.returns-clause-fits
returns-clause-fits g c = grind (arith, elements)
