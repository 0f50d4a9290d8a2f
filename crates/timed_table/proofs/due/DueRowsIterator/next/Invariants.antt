use Rattle.std.proofs.Common.{◌≡◌, length}
use Rattle.timer_queue.specs.Due.{due_left}
use Rattle.timed_table.specs.Due.{due_rows_left}
use Rattle.timed_table.proofs.due.DueRowsIterator.next.Given as goal

abbrev pub invariant-loop-key : goal.invariant-loop-key
invariant-loop-key g l = due_rows_left l.self ≡ due_rows_left l.initial.self

abbrev pub decreases-loop-key : goal.decreases-loop-key
decreases-loop-key g l = length (due_left l.self.keys)
