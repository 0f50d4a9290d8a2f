-- What one dialogue does: to each event on it the answer, the dialogue after it, and whether it is over.
use Rattle.std.specs.Prelude.{ℕ, ℤ, Bool, true, false, List, [], ◌∷◌, ◌++◌, map, is_some, Option, Some, None, Ok, Err, if◌then◌else◌}
use Rattle.tcap_pdu.specs.FrameSpelling.{Message}
use Rattle.tcap_component.specs.declared.problem.Kind.{Kind}
use Rattle.tcap_component.specs.declared.problem.Kind.TheVariants as kind
use Rattle.tcap_component.specs.Component.{ComponentParts}
use Rattle.tcap_component.specs.Component.ComponentParts.{invoke, result_last, error_back, reject_back, result_more}
use Rattle.tcap_component.specs.ComponentReading.{components_of}
use Rattle.tcap_invocation.specs.declared.invocations.lapse.Lapse.{Lapse}
use Rattle.tcap_invocation.specs.Class.{Received}
use Rattle.tcap_invocation.specs.Invocations.{InvocationList, with_rows, entry_at, added, after_sent}
use Rattle.tcap_invocation.specs.Answers.{after_received, after_reject}
use Rattle.tcap_invocation.specs.Closing.{given_up_at, after_give_up, after_free_wait, ended_at}
use Rattle.tcap_invocation.specs.Lapses.{told_at, after_lapse}
use Rattle.tcap_model.specs.Words.Answer.{Answer}
use Rattle.tcap_model.specs.Words.Address.{Address}
use Rattle.tcap_model.specs.Words.Output.{Output, Closing, AbortCause, ComponentIndication, DialogueIndication}
use Rattle.tcap_model.specs.Words.Fault.{Fault}
use Rattle.tcap_model.specs.Words.State.{State, activated, peer_by, address_by}
use Rattle.tcap_model.specs.Words.Request.{Request, ComponentRequest, DialogueRequest}
use Rattle.tcap_model.specs.Procedures.QueueRules.{Queued, queued, queue_each, without_invoke}
use Rattle.tcap_model.specs.Procedures.ComponentRequest.{identifier_of, queued_for}
use Rattle.tcap_model.specs.Procedures.RequestMessage.{message_of, request_address}
use Rattle.tcap_model.specs.Procedures.Refusals.{Situation, due_on}
use Rattle.tcap_model.specs.Words.Identifiers.{are_numbers_spent}
use Rattle.tcap_model.specs.Procedures.PortionRules.{PortionVerdict, portion_verdict}
use Rattle.tcap_model.specs.Procedures.AbortRules.{message_sent, sent_if_any, abort_told, abnormal_abort}
use Rattle.tcap_model.specs.Procedures.ComponentHandling.{Item, Handled, handled, subject_of}
use Rattle.tcap_model.specs.Table.Dialogue.{Dialogue, fresh_dialogue, with_queue, with_invocations, in_state, in_context, touched_at, keeping, is_idle_at, sent_by_rows}

-- What happens around the dialogue: the clock, the number that an invocation would get, and the limit
-- of a queue (own).
pub record Setting : Type 0 where
  pub clock : ℕ
  pub number : ℕ
  pub limit : ℕ

-- What happens to a dialogue: a request; a Continue, an End or an Abort to it from an address while it is
-- live; a faulty message that names it while it is live; a moment (own).
pub data DialogueEvent : Type 0 where
  request : Request → DialogueEvent
  frame : Address → Message → DialogueEvent
  fault : (cause : ℕ) → DialogueEvent
  moment : ℕ → DialogueEvent

-- The answer, the dialogue after it, and whether the dialogue is over (own).
pub record Moved : Type 0 where
  pub answer : Answer
  pub after : Dialogue
  pub is_over : Bool

-- ---- the components of a message

-- What was told of some components, the Rejects that answer them, and the invocations then (own).
pub record Walked : Type 0 where
  pub told : List Output
  pub rejects : List Queued
  pub invocations : InvocationList

-- The invocations after one component (Q.774, Invocation state machine).
abbrev pub after_item : ℕ → InvocationList → Item → InvocationList
after_item clock list (Ok (invoke id linked code parameter)) = list
after_item clock list (Ok (result_last id body)) = after_received list id Received.return_result_last clock
after_item clock list (Ok (result_more id body)) = after_received list id Received.return_result_not_last clock
after_item clock list (Ok (error_back id code parameter)) = after_received list id Received.return_error clock
after_item clock list (Ok (reject_back None problem)) = list
after_item clock list (Ok (reject_back (Some id) problem)) = after_reject list id problem.kind
after_item clock list (Err f) = list

-- A Reject as it is queued, if there is one (own).
abbrev pub reject_queued : Option ComponentParts → List Queued
reject_queued None = []
reject_queued (Some reject) = queued None reject ∷ []

-- One component before those that follow it (own).
abbrev pub walked_before : Handled → Walked → Walked
walked_before h w = record {
  told = h.told ∷ w.told;
  rejects = reject_queued h.reject ++ w.rejects;
  invocations =
      w.invocations;
}

-- The components of a message to a dialogue, in order (Q.774, Component handling).
abbrev pub walked : ℕ → ℕ → InvocationList → List Item → Walked
walked dialogue clock list [] = record { told = []; rejects = []; invocations = list }
walked dialogue clock list (item ∷ items) =
    walked_before (handled (Some dialogue) (sent_by_rows dialogue list (subject_of item)) item)
    (walked dialogue clock (after_item clock list item) items)

-- The components in the contents of a component portion (Q.774, Component handling).
abbrev pub walked_in : ℕ → Dialogue → List ℕ → Walked
walked_in clock d components = walked d.standing.identifier clock d.invocations (components_of components)

-- ---- the end of a dialogue

-- Each invocation that is Queued or Sent is told as ended, by number (Q.774, Component handling).
abbrev pub ended_told : ℕ → InvocationList → List Output
ended_told dialogue list =
    map (λ e. Output.component (ComponentIndication.closed dialogue e.0 e.1 Closing.ended)) (ended_at list.rows)

-- A dialogue that is over: nothing is queued, and no invocation is left (own).
abbrev pub closed_dialogue : Dialogue → Dialogue
closed_dialogue d = with_queue (with_invocations d (with_rows d.invocations [])) []

-- The dialogue is over: what is told first, and then each invocation that is left, as these rows say
-- (Q.774, Component handling).
abbrev pub over_with : Dialogue → List Output → InvocationList → Moved
over_with d first list =
    record {
      answer = Answer.outputs (first ++ ended_told d.standing.identifier list);
      after =
          closed_dialogue d;
      is_over = true;
    }

-- ---- requests

-- Nothing but the answer (own).
abbrev pub answering : Dialogue → Answer → Moved
answering d answer = record { answer = answer; after = d; is_over = false }

-- The queue with one component more, if there is one (own).
abbrev pub with_queued : Dialogue → Option Queued → Dialogue
with_queued d None = d
with_queued d (Some c) = with_queue d (d.standing.queue ++ c ∷ [])

-- A message with the queue goes out, and the invocations in it are Sent (Q.774, Component handling).
abbrev pub gone_out : Setting → Dialogue → Dialogue
gone_out s d = with_queue (with_invocations d (after_sent d.invocations s.clock)) []

-- A Reject of a result or an error frees the identifier that waits for it; any other Reject frees none
-- (Q.774, Invocation state machine).
abbrev pub freed_by : InvocationList → Option ℤ → Kind → InvocationList
freed_by list None k = list
freed_by list (Some id) kind.General = list
freed_by list (Some id) kind.Invoke = list
freed_by list (Some id) kind.Result = after_free_wait list id
freed_by list (Some id) kind.Error = after_free_wait list id

-- The user gives an invocation up: an Invoke that wasn't sent leaves the queue
-- (Q.774, Invocation state machine).
abbrev pub giving_up : Dialogue → ℤ → Option ℕ → Moved
giving_up d id None = answering d (Answer.refused Fault.no_such_invocation)
giving_up d id (Some number) =
    answering (with_queue (with_invocations d (after_give_up d.invocations id))
    (without_invoke number d.standing.queue)) (Answer.given_up number)

-- What is sent for a request: its message, to where it goes
-- (Q.774, Dialogue control; where it goes is own).
abbrev pub sent_for_request : Dialogue → Request → List Output
sent_for_request d asked = sent_if_any (request_address d.kept asked) (message_of d.standing asked)

-- A request that is accepted (Q.774, Component handling; Q.774, Dialogue control).
abbrev pub accepted : Setting → Dialogue → Request → Moved
accepted s d (Request.component (ComponentRequest.invoke id class code parameter linked timeout)) =
    answering (with_queued (with_invocations d (added d.invocations id s.number class timeout))
    (queued_for s.number (Request.component (ComponentRequest.invoke id class code parameter linked timeout))))
    (Answer.number s.number)
accepted s d (Request.component (ComponentRequest.result_last id body)) =
    answering (with_queued d (queued_for s.number (Request.component (ComponentRequest.result_last id body))))
    Answer.done
accepted s d (Request.component (ComponentRequest.result_more id body)) =
    answering (with_queued d (queued_for s.number (Request.component (ComponentRequest.result_more id body))))
    Answer.done
accepted s d (Request.component (ComponentRequest.error_back id code parameter)) =
    answering (with_queued d (queued_for s.number (Request.component (ComponentRequest.error_back id code parameter))))
    Answer.done
accepted s d (Request.component (ComponentRequest.u_reject id problem)) =
    answering (with_queued (with_invocations d (freed_by d.invocations id problem.kind))
    (queued_for s.number (Request.component (ComponentRequest.u_reject id problem)))) Answer.done
accepted s d (Request.component (ComponentRequest.u_cancel id)) = giving_up d id (given_up_at d.invocations.rows id)
accepted s d (Request.dialogue (DialogueRequest.uni to context info)) =
    over_with d (sent_for_request d (Request.dialogue (DialogueRequest.uni to context info))) d.invocations
accepted s d (Request.dialogue (DialogueRequest.begin to context info)) =
    answering (keeping (touched_at (in_context (in_state (gone_out s d) State.sent) context) s.clock) to)
    (Answer.outputs (sent_for_request d (Request.dialogue (DialogueRequest.begin to context info))))
accepted s d (Request.dialogue (DialogueRequest.go_on context info)) =
    answering (touched_at (in_state (gone_out s d) (activated d.standing.state)) s.clock)
    (Answer.outputs (sent_for_request d (Request.dialogue (DialogueRequest.go_on context info))))
accepted s d (Request.dialogue (DialogueRequest.finish ending context info)) =
    over_with d (sent_for_request d (Request.dialogue (DialogueRequest.finish ending context info))) d.invocations
accepted s d (Request.dialogue (DialogueRequest.u_abort why info)) =
    over_with d (sent_for_request d (Request.dialogue (DialogueRequest.u_abort why info))) d.invocations

-- Whether an identifier is in use, by the rows (Q.774, Invocation state machine).
abbrev pub in_use_by_rows : InvocationList → Option ℤ → Bool
in_use_by_rows list None = false
in_use_by_rows list (Some id) = is_some (entry_at list.rows id)

-- The invocation of an identifier that is Queued or Sent, by the rows (own).
abbrev pub pending_by_rows : InvocationList → Option ℤ → Option ℕ
pending_by_rows list None = None
pending_by_rows list (Some id) = given_up_at list.rows id

-- What a request on a dialogue is judged by, by its rows (own).
abbrev pub situation : Setting → Dialogue → Request → Situation
situation s d r = record {
  standing = d.standing;
  limit = s.limit;
  is_in_use = in_use_by_rows d.invocations (identifier_of r);
  pending = pending_by_rows d.invocations (identifier_of r);
  number = s.number;
  is_spent = are_numbers_spent s.number;
}

-- A request is refused with the fault that is due, and nothing changes; else it is accepted (own).
abbrev pub requested_by : Setting → Dialogue → Request → Option Fault → Moved
requested_by s d r (Some f) = answering d (Answer.refused f)
requested_by s d r None = accepted s d r

-- ---- messages

-- A Continue is told with its components, and the Rejects of these are queued, or it is abnormal, and
-- the dialogue is aborted on both sides
-- (Q.774, Dialogue continuation; Q.774, Abnormal procedures relating to dialogue control).
abbrev pub continued_by : Setting → Dialogue → Address → List ℕ → PortionVerdict → Walked → Moved
continued_by s d from origin (PortionVerdict.normal context info) w = record {
  answer = Answer.outputs (Output.dialogue (DialogueIndication.go_on d.standing.identifier context info) ∷ w.told);
  after = keeping (touched_at (with_queue
      (with_invocations (in_state d (State.active (peer_by d.standing.state origin))) w.invocations)
      (queue_each s.limit d.standing.queue w.rejects)) s.clock) (address_by d.standing.state d.kept from);
  is_over = false;
}
continued_by s d from origin PortionVerdict.abnormal w =
    over_with d (message_sent (address_by d.standing.state d.kept from)
    (abnormal_abort (peer_by d.standing.state origin))
    ∷ Output.dialogue (DialogueIndication.p_abort d.standing.identifier AbortCause.abnormal) ∷ []) d.invocations

-- An End is told with its components, whose Rejects don't go out, or it is abnormal; the dialogue is
-- over (Q.774, Dialogue end; Q.774, Abnormal procedures relating to dialogue control).
abbrev pub ended_by : Dialogue → PortionVerdict → Walked → Moved
ended_by d (PortionVerdict.normal context info) w =
    over_with d (Output.dialogue (DialogueIndication.end d.standing.identifier context info) ∷ w.told) w.invocations
ended_by d PortionVerdict.abnormal w =
    over_with d (Output.dialogue (DialogueIndication.p_abort d.standing.identifier AbortCause.abnormal) ∷ [])
    d.invocations

-- A message to a dialogue that is live; a Unidirectional and a Begin are never to one
-- (Q.774, Transaction sublayer procedures).
abbrev pub framed : Setting → Dialogue → Address → Message → Moved
framed s d from (Message.unidirectional portion components) = answering d (Answer.outputs [])
framed s d from (Message.begin origin portion components) = answering d (Answer.outputs [])
framed s d from (Message.go_on origin to portion components) =
    continued_by s d from origin (portion_verdict d.standing.state d.standing.context portion)
    (walked_in s.clock d components)
framed s d from (Message.end to portion components) =
    ended_by d (portion_verdict d.standing.state d.standing.context portion) (walked_in s.clock d components)
framed s d from (Message.abort to reason) = over_with d (abort_told d.standing.identifier reason ∷ []) d.invocations

-- A dialogue that is created by a Begin: it is told with its components, and the Rejects of these are
-- queued; the address from which the Begin came is kept (Q.774, Dialogue begin; the address is own).
abbrev pub begun_with : Setting → ℕ → ℕ → ℕ → Address → List ℕ → Option (List ℕ) → List ℕ → Walked → Moved
begun_with s identifier reject_ms idle_ms from origin context info w = record {
  answer = Answer.outputs (Output.dialogue (DialogueIndication.begin identifier context info) ∷ w.told);
  after = keeping (with_queue (in_context (in_state
      (with_invocations (fresh_dialogue identifier reject_ms idle_ms) w.invocations)
      (State.received origin)) context) (queue_each s.limit [] w.rejects)) from;
  is_over = false;
}

-- The dialogue that a Begin creates, from the contents of its component portion (Q.774, Dialogue begin).
abbrev pub born : Setting → ℕ → ℕ → ℕ → Address → List ℕ → Option (List ℕ) → List ℕ → List ℕ → Moved
born s identifier reject_ms idle_ms from origin context info components =
    begun_with s identifier reject_ms idle_ms from origin context info
    (walked_in s.clock (fresh_dialogue identifier reject_ms idle_ms) components)

-- ---- moments

-- An invocation whose timer ran out is told (Q.774, Invocation timer).
abbrev pub row_lapse_told : ℕ → Lapse → Output
row_lapse_told dialogue l = Output.component (ComponentIndication.closed dialogue l.number l.id Closing.lapsed)

-- What lapses at a moment is told, and each identifier that has waited is free
-- (Q.774, Invocation timer; Q.774, Reject timer).
abbrev pub lapsed : Dialogue → ℕ → Moved
lapsed d now = answering (with_invocations d (after_lapse d.invocations now))
    (Answer.outputs (map (row_lapse_told d.standing.identifier) (told_at now d.invocations.rows)))

-- A moment at which the dialogue has been idle too long: what lapses is indicated, and then the dialogue is
-- over, and no message goes out (own).
abbrev pub idled : Dialogue → ℕ → Moved
idled d now = over_with d (map (row_lapse_told d.standing.identifier) (told_at now d.invocations.rows)
    ++ Output.dialogue (DialogueIndication.p_abort d.standing.identifier AbortCause.idle) ∷ [])
    (after_lapse d.invocations now)

-- What a dialogue does (Q.774, Transaction sublayer procedures; Q.774, Component handling).
unfoldable pub table_move : Setting → Dialogue → DialogueEvent → Moved
table_move s d (DialogueEvent.request r) = requested_by s d r (due_on (situation s d r) r)
table_move s d (DialogueEvent.frame from m) = framed s d from m
table_move s d (DialogueEvent.fault cause) =
    over_with d (Output.dialogue (DialogueIndication.p_abort d.standing.identifier (AbortCause.cause cause)) ∷ [])
    d.invocations
table_move s d (DialogueEvent.moment now) = if is_idle_at now d then idled d now else lapsed d now

-- The dialogue after it moved, if it isn't over (own).
abbrev pub left_standing : Moved → Option Dialogue
left_standing m = if m.is_over then None else Some m.after
