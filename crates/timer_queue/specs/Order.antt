-- The order of timers: by time, then by name.
use Rattle.std.specs.Prelude.{ℕ, Bool, true, false, List, Option, Some, None, ◌||◌, ◌&&◌, ◌==◌, nat_lt, nat_le, slice_index_or}
use Rattle.timer_queue.specs.declared.timer.Timer.{Timer}

-- A timer is before another: by time, and of two at one time by name (own).
abbrev pub is_before : Timer → Timer → Bool
is_before a b = nat_lt a.time b.time || ((a.time == b.time) && nat_lt a.name b.name)

-- Whether a timer comes before another, where there may be none, which comes after each (own).
abbrev pub comes_before : Option Timer → Option Timer → Bool
comes_before None b = false
comes_before (Some a) None = true
comes_before (Some a) (Some b) = is_before a b

-- The timer of an item, if it has one (own).
abbrev pub timer_at : List (Option Timer) → ℕ → Option Timer
timer_at timers item = slice_index_or timers item None

-- A timer is due at a moment: its time is reached (own).
abbrev pub is_due : ℕ → Option Timer → Bool
is_due moment None = false
is_due moment (Some t) = nat_le t.time moment
