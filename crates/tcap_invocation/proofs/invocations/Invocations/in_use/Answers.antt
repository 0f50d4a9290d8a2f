use Rattle.std.proofs.Common.{rules}
use Rattle.tcap_invocation.proofs.invocations.Invocations.in_use.Goals as goal

pub returns-clause-value : goal.returns-clause-value
returns-clause-value g c = search rules
