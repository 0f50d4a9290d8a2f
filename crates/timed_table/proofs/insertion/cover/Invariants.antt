use Rattle.std.proofs.Common.{◌+◌, ◌-◌, length}
use Rattle.timed_table.specs.Tied.{IsExtended}
use Rattle.timed_table.proofs.insertion.cover.Given as goal

abbrev pub invariant-loop-timers : goal.invariant-loop-timers
invariant-loop-timers g l = IsExtended l.initial.timers l.timers

abbrev pub decreases-loop-timers : goal.decreases-loop-timers
decreases-loop-timers g l = l.key + 1 - length l.timers
