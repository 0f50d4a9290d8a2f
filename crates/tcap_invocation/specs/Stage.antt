-- How far an invocation is, and the bounds of its moments.
use Rattle.std.specs.Prelude.{ℕ, ◌+◌, ◌*◌, ◌<◌, ◌≤◌, ◌^◌, Bool, true, false}
use Rattle.tcap_invocation.specs.declared.stage.Stage.{Stage}
use Rattle.tcap_invocation.specs.declared.stage.Stage.TheVariants.{Queued, Sent, Waiting}

-- The latest moment of the clock and the longest timeout, in milliseconds (own).
abbrev pub moment_limit : ℕ
moment_limit = 2 ^ 62

-- A timeout runs from 1 millisecond to the limit (own).
abbrev pub IsTimeout : ℕ → Type 0
IsTimeout timeout = (0 < timeout) × (timeout ≤ moment_limit)

-- A timeout is within the limit, and a moment that is the clock plus a length of time within twice
-- the limit (own).
abbrev pub IsTimely : Stage → Type 0
IsTimely (Queued timeout) = IsTimeout timeout
IsTimely (Sent deadline) = deadline ≤ 2 * moment_limit
IsTimely (Waiting until) = until ≤ 2 * moment_limit

-- The Invoke waits for the next message (own).
abbrev pub is_queued : Stage → Bool
is_queued (Queued timeout) = true
is_queued (Sent deadline) = false
is_queued (Waiting until) = false

-- The Invoke was sent, and nothing has closed the invocation: Operation Sent
-- (Q.774, Invocation state machine).
abbrev pub is_sent : Stage → Bool
is_sent (Queued timeout) = false
is_sent (Sent deadline) = true
is_sent (Waiting until) = false

-- The invocation was closed by a result or an error: Wait for Reject
-- (Q.774, Invocation state machine).
abbrev pub is_waiting : Stage → Bool
is_waiting (Queued timeout) = false
is_waiting (Sent deadline) = false
is_waiting (Waiting until) = true

-- Nothing has closed the invocation yet: it is Queued or Sent (own).
abbrev pub is_pending : Stage → Bool
is_pending (Queued timeout) = true
is_pending (Sent deadline) = true
is_pending (Waiting until) = false

-- The message with the Invoke goes out: its deadline is the clock plus its timeout
-- (Q.774, Invocation state machine).
abbrev pub sent_stage : ℕ → Stage → Stage
sent_stage clock (Queued timeout) = Sent (clock + timeout)
sent_stage clock (Sent deadline) = Sent deadline
sent_stage clock (Waiting until) = Waiting until
