use Rattle.std.proofs.Common.{◌≡◌, filter, length}
use Rattle.std.specs.VecDeque.{deque_capacity}
use Rattle.tcap_invocation.specs.TimerList.{IsInOrder, is_kept}
use Rattle.tcap_invocation.proofs.invocations.timers.due.take_over.Given as goal

abbrev pub invariant-loop-timers : goal.invariant-loop-timers
invariant-loop-timers g l = record {
  order : IsInOrder l.timers.items;
  left : filter (is_kept l.clock) l.timers.items ≡ filter (is_kept l.clock) l.fn.timers.items;
  room : deque_capacity l.timers ≡ deque_capacity l.fn.timers;
}

abbrev pub decreases-loop-timers : goal.decreases-loop-timers
decreases-loop-timers g l = length l.timers.items
