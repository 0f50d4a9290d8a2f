-- The first timer of the invocations of a dialogue: what it is of once the clock has reached it, and what it leaves.
use Rattle.std.specs.Prelude.{◌≡◌, ℕ, ◌<◌, ◌≤◌, nat_le, List, ◌++◌, length, filter, option_to_list, Option, Some, None, IsSome, IfSome, if◌then◌else◌}
use Rattle.tcap_invocation.specs.declared.invocations.lapse.Expiry.{Expiry}
use Rattle.tcap_invocation.specs.declared.invocations.lapse.Expiry.TheVariants.{Lapse as Lapses, Wait}
use Rattle.tcap_invocation.specs.declared.invocations.lapse.Lapse.{Lapse}
use Rattle.tcap_invocation.specs.declared.invocations.timers.Timer.{Timer}
use Rattle.tcap_invocation.specs.Invocations.{Row, InvocationList, with_rows, without}
use Rattle.tcap_invocation.specs.Lapses.{told_at, is_held, after_lapse}
use Rattle.tcap_invocation.specs.Order.{first_of}
use Rattle.tcap_invocation.specs.TimerList.{lapse_at_time, timers_at}
use Rattle.tcap_invocation.specs.Timers.{next_timer_at}

-- What a timer is of once the clock has reached it: its invocation lapses, or its identifier has waited
-- (Q.774, Invocation timer; Q.774, Reject timer).
abbrev pub reached : ℕ → Timer → Option Expiry
reached clock t = if nat_le t.time clock then Some (if t.lapses then Lapses (lapse_at_time t) else Wait) else None

-- The same of a timer, if there is one (own).
abbrev pub reached_any : ℕ → Option Timer → Option Expiry
reached_any clock None = None
reached_any clock (Some t) = reached clock t

-- What the first timer is of by its moment, then by its number, once the clock has reached it (own).
abbrev pub first_expiry_at : ℕ → List Row → Option Expiry
first_expiry_at clock rows = reached_any clock (first_of (timers_at rows))

-- The rows after it: without the invocation that lapsed, or without each identifier whose wait is over at the clock
-- (Q.774, Invocation timer; Q.774, Reject timer).
abbrev pub rows_after : ℕ → List Row → Option Expiry → List Row
rows_after clock rows None = rows
rows_after clock rows (Some (Lapses lapse)) = without rows lapse.id
rows_after clock rows (Some Wait) = filter (λ r. is_held clock r.1.stage) rows

-- The list after it (own).
abbrev pub after_expiry : InvocationList → ℕ → Option Expiry → InvocationList
after_expiry list clock expiry = with_rows list (rows_after clock list.rows expiry)

-- The lapse, if it was one (own).
abbrev pub lapse_in : Option Expiry → Option Lapse
lapse_in None = None
lapse_in (Some (Lapses lapse)) = Some lapse
lapse_in (Some Wait) = None

-- What the next timer was: behind the clock where nothing ran out, and the deadline of what lapsed (own).
abbrev pub WasNext : ℕ → Option Expiry → Option ℕ → Type 0
WasNext clock None next = IfSome next (λ time. clock < time)
WasNext clock (Some (Lapses lapse)) next = next ≡ Some lapse.deadline
WasNext clock (Some Wait) next = IsSome next

-- What lapses from the clock on is what lapsed, and then the rest; what is left at each such moment is the same, and
-- there are fewer invocations (own).
pub record RunsOut (clock : ℕ) (expiry : Option Expiry) (old new : InvocationList) : Type 0 where
  pub next : WasNext clock expiry (next_timer_at old.rows)
  pub deadline : IfSome (lapse_in expiry) (λ lapse. lapse.deadline ≤ clock)
  pub told : (now : ℕ) → clock ≤ now → told_at now old.rows ≡ option_to_list (lapse_in expiry) ++ told_at now new.rows
  pub rest : (now : ℕ) → clock ≤ now → after_lapse new now ≡ after_lapse old now
  pub fewer : IsSome expiry → length new.rows < length old.rows
