use Rattle.std.proofs.Common.{arith}
use Rattle.std.proofs.lemmas.Grind.{elements}
use Rattle.tcap_invocation.proofs.invocations.few.expire_first.Goals as goal

pub index-requires : goal.index-requires
index-requires g c = grind (arith, elements)

pub returns-in-Waiting-clause-expiry : goal.returns-in-Waiting-clause-expiry
returns-in-Waiting-clause-expiry g c = grind (arith, elements)
