-- What a received result, error or Reject does to the list, by the table of the operation classes.
use Rattle.std.specs.Prelude.{ℕ, ℤ, ◌+◌, List, Option, Some, None, is_some}
use Rattle.tcap_component.specs.declared.problem.Kind.{Kind}
use Rattle.tcap_invocation.specs.declared.invocations.Invocation.{Invocation}
use Rattle.tcap_invocation.specs.declared.invocations.answers.Verdict.{Verdict}
use Rattle.tcap_invocation.specs.declared.invocations.answers.Verdict.TheVariants.{Good, Unexpected, Unknown}
use Rattle.tcap_invocation.specs.declared.stage.Stage.TheVariants.{Waiting}
use Rattle.tcap_invocation.specs.Class.{Received, Consequence, class_rule}
use Rattle.tcap_invocation.specs.Class.Received.{reject}
use Rattle.tcap_invocation.specs.Class.Consequence.{result_last, result_more, error_back, rejected_result, rejected_error, rejected, not_of_the_invoke}
use Rattle.tcap_invocation.specs.Invocations.{Row, InvocationList, with_rows, sent_at, without, at_stage, freed}

-- The verdict on a result or an error: what the class has is good, what it doesn't have is
-- unexpected; a Reject has no verdict (Q.774, Component sublayer procedures).
abbrev pub verdict_of : Consequence → ℕ → Verdict
verdict_of result_last number = Good number
verdict_of result_more number = Good number
verdict_of error_back number = Good number
verdict_of rejected_result number = Unexpected number
verdict_of rejected_error number = Unexpected number
verdict_of rejected number = Unknown
verdict_of not_of_the_invoke number = Unknown

-- The verdict for an invocation; there is none for an identifier that isn't Sent
-- (Q.774, Component sublayer procedures).
abbrev pub verdict_for : Option Invocation → Received → Verdict
verdict_for None received = Unknown
verdict_for (Some entry) received = verdict_of (class_rule entry.class received) entry.number

-- The verdict on what is received for an identifier (Q.774, Component sublayer procedures).
abbrev pub verdict_on : List Row → ℤ → Received → Verdict
verdict_on rows id received = verdict_for (sent_at rows id) received

-- The rows after the consequence for a Sent invocation: after its last result or its error its
-- identifier waits for a Reject until this moment, after any Reject of the Invoke it is free
-- (Q.774, Invocation state machine).
abbrev pub after_consequence : Consequence → List Row → ℤ → Invocation → ℕ → List Row
after_consequence result_last rows id entry until = at_stage rows id entry (Waiting until)
after_consequence result_more rows id entry until = rows
after_consequence error_back rows id entry until = at_stage rows id entry (Waiting until)
after_consequence rejected_result rows id entry until = without rows id
after_consequence rejected_error rows id entry until = without rows id
after_consequence rejected rows id entry until = without rows id
after_consequence not_of_the_invoke rows id entry until = rows

-- The rows after a result or an error for an invocation; where none is Sent nothing changes
-- (Q.774, Invocation state machine).
abbrev pub rows_after : Option Invocation → Received → List Row → ℤ → ℕ → List Row
rows_after None received rows id until = rows
rows_after (Some entry) received rows id until = after_consequence (class_rule entry.class received) rows id entry until

-- The list after a result or an error is received for an identifier at this moment
-- (Q.774, Invocation state machine).
abbrev pub after_received : InvocationList → ℤ → Received → ℕ → InvocationList
after_received list id received clock =
    with_rows list (rows_after (sent_at list.rows id) received list.rows id (clock + list.reject_ms))

-- The number of the invocation, if the consequence is that it was rejected
-- (Q.774, Component sublayer procedures).
abbrev pub rejected_number : Consequence → ℕ → Option ℕ
rejected_number result_last number = None
rejected_number result_more number = None
rejected_number error_back number = None
rejected_number rejected_result number = None
rejected_number rejected_error number = None
rejected_number rejected number = Some number
rejected_number not_of_the_invoke number = None

-- The number of the invocation that a Reject closes, if there is one
-- (Q.774, Component sublayer procedures).
abbrev pub rejected_for : Option Invocation → Kind → Option ℕ
rejected_for None kind = None
rejected_for (Some entry) kind = rejected_number (class_rule entry.class (reject kind)) entry.number

-- The number of the invocation that a Reject with this identifier and kind of problem closes
-- (Q.774, Component sublayer procedures).
abbrev pub rejected_at : List Row → ℤ → Kind → Option ℕ
rejected_at rows id kind = rejected_for (sent_at rows id) kind

-- The list after a Reject: the identifier of the invocation that it closes is free at once
-- (Q.774, Invocation state machine).
abbrev pub after_reject : InvocationList → ℤ → Kind → InvocationList
after_reject list id kind = freed list id (is_some (rejected_at list.rows id kind))
