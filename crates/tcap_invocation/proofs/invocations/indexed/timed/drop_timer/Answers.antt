use Rattle.std.proofs.Common.{rules}
use Rattle.tcap_invocation.proofs.invocations.indexed.timed.drop_timer.Goals as goal

pub returns-in-Some-clause-timers : goal.returns-in-Some-clause-timers
returns-in-Some-clause-timers g c = search rules
