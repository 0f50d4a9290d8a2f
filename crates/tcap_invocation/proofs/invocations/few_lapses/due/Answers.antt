use Rattle.std.proofs.Common.{arith}
use Rattle.std.proofs.lemmas.Grind.{common_steps}
use Rattle.tcap_invocation.proofs.invocations.few_lapses.due.Goals as goal

pub returns-in_err-lapses-clause-memory : goal.returns-in_err-lapses-clause-memory
returns-in_err-lapses-clause-memory g c = grind (arith, common_steps)

pub push_reserved-requires : goal.push_reserved-requires
push_reserved-requires g c = grind (arith, common_steps)

pub loop-row-preserved : goal.loop-row-preserved
loop-row-preserved g c = grind (arith, common_steps)
