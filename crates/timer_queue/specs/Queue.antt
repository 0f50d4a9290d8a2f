-- What a contract sees of a queue: the timer of each item.
use Rattle.std.specs.Prelude.{◌≡◌, ℕ, false, List, Option, Some, None}
use Rattle.timer_queue.specs.declared.timer.Timer.{Timer}
use Rattle.timer_queue.specs.Order.{is_before, timer_at}

-- No item has a timer (own).
abbrev pub HasNoTimer : List (Option Timer) → Type 0
HasNoTimer timers = (item : ℕ) → timer_at timers item ≡ None

-- This item's timer is the least: it has this timer, and no item has one before it (own).
pub record IsFirst (timers : List (Option Timer)) (item : ℕ) : Type 0 where
  pub timer : Timer
  pub has : timer_at timers item ≡ Some timer
  pub least : (other : ℕ) (t : Timer) → timer_at timers other ≡ Some t → is_before t timer ≡ false
