use Rattle.std.proofs.Common.{rules}
use Rattle.tcap_invocation.proofs.invocations.Invocations.add.Goals as goal

pub returns-then-timeout-eq0-clause-due : goal.returns-then-timeout-eq0-clause-due
returns-then-timeout-eq0-clause-due g c = search rules

pub returns-then-timeout-eq0-clause-bad_timeout : goal.returns-then-timeout-eq0-clause-bad_timeout
returns-then-timeout-eq0-clause-bad_timeout g c = search rules

pub returns-then-timeout-eq0-clause-in_use : goal.returns-then-timeout-eq0-clause-in_use
returns-then-timeout-eq0-clause-in_use g c = search rules
