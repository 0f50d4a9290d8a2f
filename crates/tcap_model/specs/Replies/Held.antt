-- Whether an invoke identifier is in use, by the history.
use Rattle.std.specs.Prelude.{ℕ, ℤ, ◌+◌, ◌-◌, ◌==◌, ◌&&◌, Bool, true, false, not, nat_le, length, take, Option, Some, None, is_none, if◌then◌else◌}
use Rattle.std.specs.List.{list_any}
use Rattle.std.specs.Ordering.{int_eq}
use Rattle.tcap_model.specs.Words.Answer.{is_accepted}
use Rattle.tcap_model.specs.Histories.Clock.{clock}
use Rattle.tcap_model.specs.Invocations.Closings.{Told}
use Rattle.tcap_model.specs.Invocations.Decision.{decision}
use Rattle.tcap_model.specs.Words.Event.{Event}
use Rattle.tcap_model.specs.Invocations.Invocation.{Invocation, latest}
use Rattle.tcap_model.specs.Invocations.Outcome.{outcome}
use Rattle.tcap_model.specs.Words.Output.{Closing}
use Rattle.tcap_model.specs.Histories.Pair.{Pair, Past}
use Rattle.tcap_model.specs.Procedures.Problems.{is_of_answer}
use Rattle.tcap_model.specs.Words.Request.{Request, ComponentRequest}

-- A result or an error: the user may reject it, and its identifier waits for that
-- (Q.774, Wait for Reject).
abbrev pub is_rejectable : Closing → Bool
is_rejectable (Closing.result_last body) = true
is_rejectable (Closing.error_back code parameter) = true
is_rejectable (Closing.rejected problem by) = false
is_rejectable Closing.lapsed = false
is_rejectable Closing.ended = false
is_rejectable Closing.given_up = false

-- Whether a request rejects the answer for this identifier (Q.774, Wait for Reject).
abbrev pub rejects_answer : ℤ → Request → Bool
rejects_answer id (Request.component (ComponentRequest.u_reject None problem)) = false
rejects_answer id (Request.component (ComponentRequest.u_reject (Some named) problem)) =
    int_eq named id && is_of_answer problem.kind
rejects_answer id (Request.component (ComponentRequest.invoke named class code parameter linked timeout)) = false
rejects_answer id (Request.component (ComponentRequest.result_last named body)) = false
rejects_answer id (Request.component (ComponentRequest.result_more named body)) = false
rejects_answer id (Request.component (ComponentRequest.error_back named code parameter)) = false
rejects_answer id (Request.component (ComponentRequest.u_cancel named)) = false
rejects_answer id (Request.dialogue asked) = false

-- Whether an event ends the wait of an identifier of a dialogue that lasts until this moment: an
-- accepted moment at or past it, or the user's Reject of the answer (Q.774, Wait for Reject).
abbrev pub ends_wait : ℕ → ℕ → ℤ → Event → Bool
ends_wait until dialogue id Event.new_dialogue = false
ends_wait until dialogue id (Event.on_dialogue named request) = (named == dialogue) && rejects_answer id request
ends_wait until dialogue id (Event.received from bytes) = false
ends_wait until dialogue id (Event.moment now) = nat_le until now

-- Whether a pair ends the wait of an identifier: what is refused ends none (own).
abbrev pub pair_ends_wait : ℕ → ℕ → ℤ → Pair → Bool
pair_ends_wait until dialogue id pair = is_accepted pair.answer && ends_wait until dialogue id pair.event

-- The pairs after a place (own).
abbrev pub since : Past → Past → Past
since place past = take (length past - length place) past

-- Whether an identifier still waits after its answer was told: it does so for `reject_ms` from the
-- clock then (Q.774, Wait for Reject; the length is own).
abbrev pub is_waiting : ℕ → ℕ → ℤ → Past → Told → Bool
is_waiting reject_ms dialogue id past told =
    is_rejectable told.closing && not (list_any (pair_ends_wait (clock told.place + reject_ms) dialogue id)
    (since told.place past))

-- Whether the identifier of an invocation is in use: nothing has decided yet, or it waits
-- (Q.774, Invocation state machine).
abbrev pub holds_identifier : ℕ → ℕ → ℤ → Past → Option Told → Bool
holds_identifier reject_ms dialogue id past None = true
holds_identifier reject_ms dialogue id past (Some told) = is_waiting reject_ms dialogue id past told

-- Whether the latest invocation with the identifier, if there is one, still holds it (own).
abbrev pub held_by : ℕ → ℕ → ℤ → Past → Option Invocation → Bool
held_by reject_ms dialogue id past None = false
held_by reject_ms dialogue id past (Some i) = holds_identifier reject_ms dialogue id past (decision i.number past)

-- Whether an invoke identifier of a dialogue is in use: its latest invocation has no outcome; or it
-- had a result or an error, and since then neither the wait for a Reject is over nor did the user
-- reject it (Q.774, Invocation state machine).
abbrev pub held : ℕ → ℕ → ℤ → Past → Bool
held reject_ms dialogue id past = held_by reject_ms dialogue id past (latest dialogue id past)

-- The number of an invocation, if nothing has decided yet (own).
abbrev pub if_pending : Past → Option Invocation → Option ℕ
if_pending past None = None
if_pending past (Some i) = if is_none (outcome i.number past) then Some i.number else None

-- The invocation of an identifier that is Queued or Sent: the latest one, without outcome
-- (Q.774, Invocation state machine).
abbrev pub pending : ℕ → ℤ → Past → Option ℕ
pending dialogue id past = if_pending past (latest dialogue id past)
