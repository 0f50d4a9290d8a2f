use Rattle.std.proofs.Common.{rules}
use Rattle.tcap_invocation.proofs.invocations.Invocations.open_count.Goals as goal

pub returns : goal.returns
returns g c = search rules
