use Rattle.std.proofs.Common.{rules}
use Rattle.tcap_invocation.proofs.invocations.Invocations.is_open.Goals as goal

pub returns : goal.returns
returns g c = search rules
