use Rattle.std.proofs.Common.{rules}
use Rattle.tcap_invocation.proofs.invocations.Invocations.take_due.Goals as goal

pub returns-clause-lapse : goal.returns-clause-lapse
returns-clause-lapse g c = search rules

pub returns-clause-list : goal.returns-clause-list
returns-clause-list g c = search rules
