-- The timers that are kept beside the rows: one for each Sent or Waiting row, by time, then number.
use Rattle.std.specs.Prelude.{◌≡◌, ℕ, zero, suc, ℤ, ◌≤◌, ◌==◌, ◌&&◌, ◌||◌, Bool, true, false, nat_lt, nat_le, List, [], ◌∷◌, length, filter_map, slice_get, Option, Some, None, if◌then◌else◌}
use Rattle.std.specs.List.Sorted.{IsPartitionPoint}
use Rattle.tcap_invocation.specs.declared.invocations.few.First.{First}
use Rattle.tcap_invocation.specs.declared.invocations.lapse.Lapse.{Lapse}
use Rattle.tcap_invocation.specs.declared.invocations.timers.Timer.{Timer}
use Rattle.tcap_invocation.specs.declared.stage.Stage.{Stage}
use Rattle.tcap_invocation.specs.declared.stage.Stage.TheVariants.{Queued, Sent, Waiting}
use Rattle.tcap_invocation.specs.Stage.{is_queued}
use Rattle.tcap_invocation.specs.Order.{put_by, in_order_by}
use Rattle.tcap_invocation.specs.declared.invocations.Invocation.{Invocation}
use Rattle.tcap_invocation.specs.Invocations.{Row, entry_at, sent_entry}

-- What a contract sees of the timers: the list, and for how many there is room (own).
pub record TimerList : Type 0 where
  pub timers : List Timer
  pub room : ℕ

-- Timers stand by time, then by number (own).
abbrev pub is_earlier : Timer → Timer → Bool
is_earlier a b = nat_lt a.time b.time || ((a.time == b.time) && nat_lt a.number b.number)

-- The list stands in this order: sorting changes nothing (own).
abbrev pub IsInOrder : List Timer → Type 0
IsInOrder timers = in_order_by is_earlier timers ≡ timers

-- The timers before this place are earlier than the timer, those from it on aren't (own).
abbrev pub IsPlace : Timer → List Timer → ℕ → Type 0
IsPlace timer timers place = IsPartitionPoint (λ t. is_earlier t timer ≡ true) (λ t. is_earlier t timer ≡ false) timers place

-- The timer of an invocation: its deadline where it is Sent, the end of its wait where it is Waiting (own).
abbrev pub timer_with : ℤ → ℕ → Stage → Option Timer
timer_with id number (Queued timeout) = None
timer_with id number (Sent deadline) = Some (record { time = deadline; number = number; id = id; lapses = true })
timer_with id number (Waiting until) = Some (record { time = until; number = number; id = id; lapses = false })

-- The timer of a row (own).
abbrev pub timer_of : Row → Option Timer
timer_of r = timer_with r.0 r.1.number r.1.stage

-- The timers of all rows, in order (own).
abbrev pub timers_at : List Row → List Timer
timers_at rows = in_order_by is_earlier (filter_map timer_of rows)

-- The list with a timer more, if there is one (own).
abbrev pub put_timer : Option Timer → List Timer → List Timer
put_timer None timers = timers
put_timer (Some timer) timers = put_by is_earlier timer timers

-- What is told of an invocation with this timer once it lapses (own).
abbrev pub lapse_at_time : Timer → Lapse
lapse_at_time t = record { deadline = t.time; number = t.number; id = t.id }

-- What is told at the clock of an invocation with this timer (own).
abbrev pub told_of_timer : ℕ → Timer → Option Lapse
told_of_timer clock t =
    if t.lapses && nat_le t.time clock then Some (record { deadline = t.time; number = t.number; id = t.id }) else None

-- An invocation has this timer (own).
pub record HasTimer (rows : List Row) (timer : Timer) : Type 0 where
  pub entry : Invocation
  pub found : entry_at rows timer.id ≡ Some entry
  pub own : timer_of (timer.id, entry) ≡ Some timer

-- ---- few rows

-- The timer of the row at a place (own).
pub record IsAt (rows : List Row) (first : First) (timer : Timer) : Type 0 where
  pub row : Row
  pub at : slice_get rows first.place ≡ Some row
  pub own : timer_of row ≡ Some timer
  pub time : first.time ≡ timer.time

-- The place is that of this timer, if there is one (own).
abbrev pub IsFirst : List Row → Option First → Option Timer → Type 0
IsFirst rows None None = Unit {0}
IsFirst rows None (Some timer) = ⊥
IsFirst rows (Some first) None = ⊥
IsFirst rows (Some first) (Some timer) = IsAt rows first timer

-- The earlier of two, of which the one that was found before stays where both come at one moment (own).
abbrev pub nearer_of : Option First → First → Option First
nearer_of None found = Some found
nearer_of (Some first) found = Some (if nat_lt found.time first.time then found else first)

-- That, and the one of a row at this place, if it has one (own).
abbrev pub nearer_at : Option First → ℕ → Stage → Option First
nearer_at first place (Queued timeout) = first
nearer_at first place (Sent deadline) = nearer_of first (record { time = deadline; place = place })
nearer_at first place (Waiting until) = nearer_of first (record { time = until; place = place })

-- ---- timers in order

-- The time hasn't come at the clock (own).
abbrev pub is_later : ℕ → Timer → Bool
is_later clock t = nat_lt clock t.time

-- The timer isn't that of a wait which is over at the clock (own).
abbrev pub is_kept : ℕ → Timer → Bool
is_kept clock t = t.lapses || nat_lt clock t.time

-- The timer is that of a wait which is over at the clock (own).
abbrev pub is_over : ℕ → Timer → Bool
is_over clock t = if t.lapses then false else nat_le t.time clock

-- There is a timer, and it is that of a wait which is over at the clock (own).
abbrev pub is_first_over : ℕ → Option Timer → Bool
is_first_over clock None = false
is_first_over clock (Some timer) = is_over clock timer

-- The time of a timer, if there is one, has come at the clock (own).
abbrev pub has_come : ℕ → Option Timer → Bool
has_come clock None = false
has_come clock (Some timer) = nat_le timer.time clock

-- The rows, with the one at this place sent (own).
abbrev pub sent_place : ℕ → ℕ → List Row → List Row
sent_place clock place [] = []
sent_place clock zero (r ∷ rs) = (r.0, sent_entry clock r.1) ∷ rs
sent_place clock (suc place) (r ∷ rs) = r ∷ sent_place clock place rs

-- The rows, with those before this place sent (own).
abbrev pub sent_below : ℕ → ℕ → List Row → List Row
sent_below clock zero rows = rows
sent_below clock (suc place) rows = sent_place clock place (sent_below clock place rows)

-- Each of the rows is Queued (own).
abbrev pub AreQueued : List Row → Type 0
AreQueued [] = Unit {0}
AreQueued (r ∷ rs) = (is_queued r.1.stage ≡ true) × AreQueued rs

-- Those of the rows that are Queued stand behind all others (own).
abbrev pub AreQueuedLast : List Row → Type 0
AreQueuedLast [] = Unit {0}
AreQueuedLast (r ∷ rs) = (is_queued r.1.stage ≡ true → AreQueued rs) × AreQueuedLast rs

-- What ties the timers to the rows: they are those of the rows, and there is room for one of each row (own).
pub record IsTimed (rows : List Row) (list : TimerList) : Type 0 where
  pub timers : list.timers ≡ timers_at rows
  pub room : length rows ≤ list.room
