use Rattle.std.proofs.Common.{rules}
use Rattle.tcap_invocation.proofs.invocations.Invocations.new.Goals as goal

pub returns : goal.returns
returns g c = search rules
