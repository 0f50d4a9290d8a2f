-- Which invocations lapse at a moment, in which order they are told, and which identifiers are free
-- after their wait.
use Rattle.std.specs.Prelude.{ℕ, ℤ, ◌==◌, ◌&&◌, ◌||◌, Bool, true, nat_lt, nat_le, List, filter, filter_map, Option, Some, None, is_some, if◌then◌else◌}
use Rattle.tcap_invocation.specs.declared.invocations.Invocation.{Invocation}
use Rattle.tcap_invocation.specs.declared.invocations.lapse.Lapse.{Lapse}
use Rattle.tcap_invocation.specs.declared.stage.Stage.{Stage}
use Rattle.tcap_invocation.specs.declared.stage.Stage.TheVariants.{Queued, Sent, Waiting}
use Rattle.tcap_invocation.specs.Order.{in_order_by, first_of}
use Rattle.tcap_invocation.specs.Invocations.{Row, InvocationList, with_rows, entry_at, freed}

-- The deadline of an invocation that is Sent, if it is at most the clock (Q.774, Invocation timer).
abbrev pub due_deadline : ℕ → Stage → Option ℕ
due_deadline clock (Queued timeout) = None
due_deadline clock (Sent deadline) = if nat_le deadline clock then Some deadline else None
due_deadline clock (Waiting until) = None

-- What is told of an invocation whose deadline has come: TC-L-CANCEL (Q.774, Invocation timer).
abbrev pub lapse_with : ℤ → ℕ → Option ℕ → Option Lapse
lapse_with id number None = None
lapse_with id number (Some deadline) = Some (record { deadline = deadline; number = number; id = id })

-- What is told of a row at the clock (Q.774, Invocation timer).
abbrev pub lapse_of : ℕ → Row → Option Lapse
lapse_of clock r = lapse_with r.0 r.1.number (due_deadline clock r.1.stage)

-- What is due at the clock, in the order of the rows (Q.774, Invocation timer).
abbrev pub due_at : ℕ → List Row → List Lapse
due_at clock rows = filter_map (lapse_of clock) rows

-- Lapses are told by deadline, then by number (own).
abbrev pub is_before : Lapse → Lapse → Bool
is_before a b = nat_lt a.deadline b.deadline || ((a.deadline == b.deadline) && nat_lt a.number b.number)

-- Lapses in the order in which they are told (own).
abbrev pub in_order : List Lapse → List Lapse
in_order lapses = in_order_by is_before lapses

-- All that is due at the clock, in the order in which it is told (own).
abbrev pub told_at : ℕ → List Row → List Lapse
told_at clock rows = in_order (due_at clock rows)

-- What is due first at the clock (own).
abbrev pub first_due_at : ℕ → List Row → Option Lapse
first_due_at clock rows = first_of (told_at clock rows)

-- What is told of the invocation with the identifier at the clock (Q.774, Invocation timer).
abbrev pub lapse_for : ℕ → ℤ → Option Invocation → Option Lapse
lapse_for clock id None = None
lapse_for clock id (Some entry) = lapse_of clock (id, entry)

-- The lapse of an identifier at the clock, if it is due, by the rows (Q.774, Invocation timer).
abbrev pub lapse_at : ℕ → List Row → ℤ → Option Lapse
lapse_at clock rows id = lapse_for clock id (entry_at rows id)

-- The list after one invocation lapsed, whose identifier is free at once
-- (Q.774, Invocation state machine).
abbrev pub after_lapse_one : InvocationList → ℤ → ℕ → InvocationList
after_lapse_one list id clock = freed list id (is_some (lapse_at clock list.rows id))

-- The identifier goes on waiting for a Reject, or doesn't wait at all (Q.774, Reject timer).
abbrev pub is_held : ℕ → Stage → Bool
is_held clock (Queued timeout) = true
is_held clock (Sent deadline) = true
is_held clock (Waiting until) = nat_lt clock until

-- The list after each identifier is free whose wait is over at the clock (Q.774, Reject timer).
abbrev pub after_free_due : InvocationList → ℕ → InvocationList
after_free_due list clock = with_rows list (filter (λ r. is_held clock r.1.stage) list.rows)

-- The identifier stays in use at the clock: neither its deadline nor the end of its wait has come
-- (Q.774, Invocation state machine).
abbrev pub stays : ℕ → Stage → Bool
stays clock (Queued timeout) = true
stays clock (Sent deadline) = nat_lt clock deadline
stays clock (Waiting until) = nat_lt clock until

-- The list after all that is due at the clock has lapsed, and each wait that is over has ended
-- (Q.774, Invocation state machine).
abbrev pub after_lapse : InvocationList → ℕ → InvocationList
after_lapse list clock = with_rows list (filter (λ r. stays clock r.1.stage) list.rows)
