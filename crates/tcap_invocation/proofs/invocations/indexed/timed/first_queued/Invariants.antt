use Rattle.std.proofs.Common.{◌≤◌, length}
use Rattle.tcap_invocation.proofs.invocations.indexed.timed.first_queued.Given as goal

abbrev pub invariant-loop-place : goal.invariant-loop-place
invariant-loop-place g l = l.place ≤ length l.entries.entries

abbrev pub decreases-loop-place : goal.decreases-loop-place
decreases-loop-place g l = l.place
