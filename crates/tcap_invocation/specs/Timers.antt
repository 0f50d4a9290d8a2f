-- When time next changes something: the least deadline or end of a wait.
use Rattle.std.specs.Prelude.{ℕ, nat_lt, List, filter_map, Option, Some, None}
use Rattle.tcap_invocation.specs.declared.stage.Stage.{Stage}
use Rattle.tcap_invocation.specs.declared.stage.Stage.TheVariants.{Queued, Sent, Waiting}
use Rattle.tcap_invocation.specs.Order.{in_order_by, first_of}
use Rattle.tcap_invocation.specs.Invocations.{Row}

-- The moment at which an invocation lapses, or at which the wait of its identifier ends
-- (Q.774, Invocation timer and Reject timer).
abbrev pub time_of : Stage → Option ℕ
time_of (Queued timeout) = None
time_of (Sent deadline) = Some deadline
time_of (Waiting until) = Some until

-- All such moments, in the order of the rows (own).
abbrev pub times_of : List Row → List ℕ
times_of rows = filter_map (λ r. time_of r.1.stage) rows

-- The least of them (own).
abbrev pub next_timer_at : List Row → Option ℕ
next_timer_at rows = first_of (in_order_by nat_lt (times_of rows))
