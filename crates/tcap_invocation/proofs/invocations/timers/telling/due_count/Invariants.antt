use Rattle.std.proofs.Common.{◌≡◌, ◌+◌, length}
use Rattle.std.specs.VecDeque.Iter.{deque_iter_rest}
use Rattle.std.specs.Prelude.{filter_map}
use Rattle.tcap_invocation.specs.TimerList.{IsInOrder, told_of_timer}
use Rattle.tcap_invocation.proofs.invocations.timers.telling.due_count.Given as goal

abbrev pub invariant-loop-timer : goal.invariant-loop-timer
invariant-loop-timer g l = record {
  can : (goal.iterator-loop-timer g).can_next l.timer-iterator;
  finite : (goal.iterator-loop-timer g).is_finite l.timer-iterator;
  order : IsInOrder (deque_iter_rest l.timer-iterator);
  told : l.count + length (filter_map (told_of_timer l.clock) (deque_iter_rest l.timer-iterator)) ≡ length (filter_map (told_of_timer l.clock) l.timers.items);
}
