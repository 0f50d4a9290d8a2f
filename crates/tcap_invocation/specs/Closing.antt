-- How the user and the end of the dialogue take invocations out of the list.
use Rattle.std.specs.Prelude.{ℕ, ℤ, List, [], Option, Some, None, is_some, filter_map, if◌then◌else◌}
use Rattle.tcap_invocation.specs.declared.invocations.Invocation.{Invocation}
use Rattle.tcap_invocation.specs.Stage.{is_waiting, is_pending}
use Rattle.tcap_invocation.specs.Invocations.{Row, InvocationList, with_rows, entry_at, passing, without, freed}
use Rattle.tcap_invocation.specs.Order.{first_of}

-- The number of an invocation, if there is one (own).
abbrev pub number_of : Option Invocation → Option ℕ
number_of None = None
number_of (Some entry) = Some entry.number

-- The number of the invocation that TC-U-CANCEL of an identifier gives up: one that is Queued or
-- Sent (Q.774, Invocation state machine).
abbrev pub given_up_at : List Row → ℤ → Option ℕ
given_up_at rows id = number_of (passing is_pending (entry_at rows id))

-- The list after it, with the identifier free at once (Q.774, Invocation state machine).
abbrev pub after_give_up : InvocationList → ℤ → InvocationList
after_give_up list id = freed list id (is_some (given_up_at list.rows id))

-- The list after the user's Reject of a result or an error, which ends the wait of its identifier
-- (Q.774, Invocation state machine).
abbrev pub after_free_wait : InvocationList → ℤ → InvocationList
after_free_wait list id = freed list id (is_some (passing is_waiting (entry_at list.rows id)))

-- What is told of a row at the end of the dialogue: the number and the identifier of an invocation
-- that is Queued or Sent (own).
abbrev pub ended_of : Row → Option (ℕ × ℤ)
ended_of r = if is_pending r.1.stage then Some (r.1.number, r.0) else None

-- All that is told at the end of the dialogue, by number as the rows are (own).
abbrev pub ended_at : List Row → List (ℕ × ℤ)
ended_at rows = filter_map ended_of rows

-- The first of it (own).
abbrev pub first_ended_at : List Row → Option (ℕ × ℤ)
first_ended_at rows = first_of (ended_at rows)

-- The list without what is told, whose identifier is free at once (own).
abbrev pub without_ended : InvocationList → Option (ℕ × ℤ) → InvocationList
without_ended list None = list
without_ended list (Some ended) = with_rows list (without list.rows ended.1)

-- The list after the first of it was told (own).
abbrev pub after_close_one : InvocationList → InvocationList
after_close_one list = without_ended list (first_ended_at list.rows)

-- The list at the end of the dialogue is empty (own).
abbrev pub after_close : InvocationList → InvocationList
after_close list = with_rows list []
