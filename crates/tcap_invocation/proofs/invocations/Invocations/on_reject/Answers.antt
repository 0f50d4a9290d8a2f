use Rattle.std.proofs.Common.{rules}
use Rattle.tcap_invocation.proofs.invocations.Invocations.on_reject.Goals as goal

pub returns-in-General : goal.returns-in-General
returns-in-General g c = search rules
