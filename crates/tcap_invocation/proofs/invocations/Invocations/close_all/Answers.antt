use Rattle.std.proofs.Common.{rules}
use Rattle.tcap_invocation.proofs.invocations.Invocations.close_all.Goals as goal

pub invariant_of-self : goal.invariant_of-self
invariant_of-self g c = search rules

pub returns-clause-list : goal.returns-clause-list
returns-clause-list g c = search rules
