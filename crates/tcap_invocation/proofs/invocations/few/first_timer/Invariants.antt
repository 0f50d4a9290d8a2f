use Rattle.std.proofs.Common.{None}
use Rattle.tcap_invocation.specs.TimerList.{IsFirst}
use Rattle.tcap_invocation.proofs.FirstTimerLemmas.{first_timer_below}
use Rattle.tcap_invocation.proofs.invocations.few.first_timer.Given as goal

abbrev pub invariant-loop-place : goal.invariant-loop-place
invariant-loop-place g l = IsFirst l.rows.items l.first (first_timer_below l.place l.rows.items None)
