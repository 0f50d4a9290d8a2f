use Rattle.std.proofs.Common.{rules}
use Rattle.tcap_invocation.proofs.invocations.indexed.fn.Indexed.free_all.retain.Goals as goal

pub returns : goal.returns
returns c = search rules
