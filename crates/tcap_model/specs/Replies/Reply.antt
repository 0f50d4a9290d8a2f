-- What is answered to an event, from the history alone.
use Rattle.std.specs.Prelude.{ℕ, ◌+◌, ◌==◌, ◌&&◌, Bool, nat_lt, nat_le, List, [], ◌∷◌, ◌++◌, map, filter_map, Option, Some, None, is_none, is_some, if◌then◌else◌, filter}
use Rattle.std.specs.List.{flat_map}
use Rattle.tcap_pdu.specs.FrameSpelling.{Message}
use Rattle.tcap_component.specs.ComponentReading.{components_of}
use Rattle.tcap_model.specs.Procedures.AbortRules.{message_sent, sent_if_any, abort_told, abnormal_abort}
use Rattle.tcap_model.specs.Words.Address.{Address}
use Rattle.tcap_model.specs.Words.Answer.{Answer}
use Rattle.tcap_model.specs.Histories.Birth.{next_dialogue, dialogues}
use Rattle.tcap_model.specs.Histories.Clock.{clock}
use Rattle.tcap_model.specs.Procedures.ComponentHandling.{Item, told_of, uni_told}
use Rattle.tcap_model.specs.Invocations.Deadline.{deadline}
use Rattle.tcap_model.specs.Replies.Due.{standing_of, due, birth_due}
use Rattle.tcap_model.specs.Words.Event.{Event}
use Rattle.tcap_model.specs.Words.Fault.{Fault}
use Rattle.tcap_model.specs.Replies.Held.{pending}
use Rattle.tcap_model.specs.Histories.History.{History}
use Rattle.tcap_model.specs.Invocations.Invocation.{Invocation, invocations, next_number}
use Rattle.tcap_model.specs.Histories.Kept.{kept_address}
use Rattle.tcap_model.specs.Histories.Life.{Life, life, touched, live_in}
use Rattle.tcap_model.specs.Invocations.Marks.{Mark, Noted}
use Rattle.tcap_model.specs.Invocations.Outcome.{first_closing, is_sent_in}
use Rattle.tcap_model.specs.Words.KeyOrder.{in_order}
use Rattle.tcap_model.specs.Words.Output.{Output, Closing, AbortCause, ComponentIndication, DialogueIndication}
use Rattle.tcap_model.specs.Histories.Pair.{Past}
use Rattle.tcap_model.specs.Procedures.PortionRules.{PortionVerdict, portion_verdict}
use Rattle.tcap_model.specs.Replies.Queue.{handled_in}
use Rattle.tcap_model.specs.Invocations.SentThere.{marks_up_to}
use Rattle.tcap_model.specs.Procedures.Reception.{Reception, reception}
use Rattle.tcap_model.specs.Words.Request.{Request, ComponentRequest, DialogueRequest}
use Rattle.tcap_model.specs.Procedures.RequestMessage.{message_of, request_address}
use Rattle.tcap_model.specs.Invocations.Span.{span}
use Rattle.tcap_model.specs.Procedures.Standing.{Standing}
use Rattle.tcap_model.specs.Words.State.{State, peer_by, address_by}
use Rattle.tcap_model.specs.Words.Time.{moment_fault, is_idle}

-- ---- the end of a dialogue

-- An invocation of the dialogue is told as ended, if it is still Queued or Sent after these components
-- of the message that ends it (Q.774, Component handling).
abbrev pub ended_of : ℕ → Past → List Item → Invocation → Option Output
ended_of dialogue past components i =
    if (i.dialogue == dialogue) && is_none (first_closing i.class i.timeout (marks_up_to past components i))
    then Some (Output.component (ComponentIndication.closed dialogue i.number i.id Closing.ended)) else None

-- All that are, by number (Q.774, Component handling).
abbrev pub ended_in : ℕ → Past → List Item → List Output
ended_in dialogue past components = filter_map (ended_of dialogue past components) (invocations past)

-- ---- requests

-- The answer to TC-U-CANCEL: the number of the invocation that is given up
-- (Q.774, Invocation state machine).
abbrev pub given_up_answer : Option ℕ → Answer
given_up_answer None = Answer.refused Fault.no_such_invocation
given_up_answer (Some number) = Answer.given_up number

-- What is sent for a request: its message, to where it goes (Q.774, Dialogue control; where it goes is own).
abbrev pub request_sent : Past → Standing → Request → List Output
request_sent past d request =
    sent_if_any (request_address (kept_address d.identifier past) request) (message_of d request)

-- The answer to a request that ends its dialogue: the message, and then what is ended
-- (Q.774, Component handling).
abbrev pub last_answer : Past → Standing → Request → Answer
last_answer past d request = Answer.outputs (request_sent past d request ++ ended_in d.identifier past [])

-- The answer to a request for which no fault is due (Q.774, Component handling; Q.774, Dialogue control).
abbrev pub accepted_answer : History → Standing → Request → Answer
accepted_answer h d (Request.component (ComponentRequest.invoke id class code parameter linked timeout)) =
    Answer.number (next_number h)
accepted_answer h d (Request.component (ComponentRequest.result_last id body)) = Answer.done
accepted_answer h d (Request.component (ComponentRequest.result_more id body)) = Answer.done
accepted_answer h d (Request.component (ComponentRequest.error_back id code parameter)) = Answer.done
accepted_answer h d (Request.component (ComponentRequest.u_reject id problem)) = Answer.done
accepted_answer h d (Request.component (ComponentRequest.u_cancel id)) =
    given_up_answer (pending d.identifier id h.pairs)
accepted_answer h d (Request.dialogue (DialogueRequest.uni to context info)) =
    last_answer h.pairs d (Request.dialogue (DialogueRequest.uni to context info))
accepted_answer h d (Request.dialogue (DialogueRequest.begin to context info)) =
    Answer.outputs (request_sent h.pairs d (Request.dialogue (DialogueRequest.begin to context info)))
accepted_answer h d (Request.dialogue (DialogueRequest.go_on context info)) =
    Answer.outputs (request_sent h.pairs d (Request.dialogue (DialogueRequest.go_on context info)))
accepted_answer h d (Request.dialogue (DialogueRequest.finish ending context info)) =
    last_answer h.pairs d (Request.dialogue (DialogueRequest.finish ending context info))
accepted_answer h d (Request.dialogue (DialogueRequest.u_abort why info)) =
    last_answer h.pairs d (Request.dialogue (DialogueRequest.u_abort why info))

-- The answer to a request, by the fault that is due (own).
abbrev pub request_answer : History → ℕ → Request → Life → Option Fault → Answer
request_answer h dialogue request before (Some f) = Answer.refused f
request_answer h dialogue request Life.unborn None = Answer.refused Fault.unknown_dialogue
request_answer h dialogue request Life.over None = Answer.refused Fault.unknown_dialogue
request_answer h dialogue request (Life.standing state context) None =
    accepted_answer h (standing_of dialogue h.pairs state context) request

-- ---- messages

-- A Continue to a live dialogue is told with its components, or it is abnormal and ends the dialogue, and
-- the Abort goes to the dialogue's peer
-- (Q.774, Dialogue continuation; Q.774, Abnormal procedures relating to dialogue control).
abbrev pub continue_outputs : ℕ → Past → State → Address → List ℕ → List ℕ → PortionVerdict → List Output
continue_outputs dialogue past state from origin components (PortionVerdict.normal context info) =
    Output.dialogue (DialogueIndication.go_on dialogue context info) ∷ told_of (handled_in dialogue past components)
continue_outputs dialogue past state from origin components PortionVerdict.abnormal =
    message_sent (address_by state (kept_address dialogue past) from) (abnormal_abort (peer_by state origin))
    ∷ Output.dialogue (DialogueIndication.p_abort dialogue AbortCause.abnormal) ∷ ended_in dialogue past []

-- An End to a live dialogue is told with its components, or it is abnormal; the dialogue is over
-- (Q.774, Dialogue end; Q.774, Abnormal procedures relating to dialogue control).
abbrev pub end_outputs : ℕ → Past → List ℕ → PortionVerdict → List Output
end_outputs dialogue past components (PortionVerdict.normal context info) =
    Output.dialogue (DialogueIndication.end dialogue context info) ∷ told_of (handled_in dialogue past components)
    ++ ended_in dialogue past (components_of components)
end_outputs dialogue past components PortionVerdict.abnormal =
    Output.dialogue (DialogueIndication.p_abort dialogue AbortCause.abnormal) ∷ ended_in dialogue past []

-- What a message to a live dialogue gives; a Unidirectional and a Begin are to none
-- (Q.774, Transaction sublayer procedures).
abbrev pub message_outputs : ℕ → Past → State → Option (List ℕ) → Address → Message → List Output
message_outputs dialogue past state context from (Message.go_on origin to portion components) =
    continue_outputs dialogue past state from origin components (portion_verdict state context portion)
message_outputs dialogue past state context from (Message.end to portion components) =
    end_outputs dialogue past components (portion_verdict state context portion)
message_outputs dialogue past state context from (Message.abort to reason) =
    abort_told dialogue reason ∷ ended_in dialogue past []
message_outputs dialogue past state context from (Message.unidirectional portion components) = []
message_outputs dialogue past state context from (Message.begin origin portion components) = []

-- What a dialogue indicates of a message, by its life: only one that stands takes a message (own).
abbrev pub taken_outputs : ℕ → Past → Life → Address → Message → List Output
taken_outputs dialogue past Life.unborn from message = []
taken_outputs dialogue past (Life.standing state context) from message =
    message_outputs dialogue past state context from message
taken_outputs dialogue past Life.over from message = []

-- What is sent and told of bytes received from an address, to which each Abort goes but that of an
-- abnormal Continue (Q.774, Transaction sublayer procedures; where they go is own).
abbrev pub reception_outputs : History → Address → Reception → List Output
reception_outputs h from (Reception.dropped why) = Output.dropped why ∷ []
reception_outputs h from (Reception.aborted message) = message_sent from message ∷ []
reception_outputs h from (Reception.unidirectional context info components) =
    Output.dialogue (DialogueIndication.uni context info) ∷ uni_told (components_of components)
reception_outputs h from (Reception.begun origin context info components) =
    Output.dialogue (DialogueIndication.begin (next_dialogue h) context info)
    ∷ told_of (handled_in (next_dialogue h) h.pairs components)
reception_outputs h from (Reception.taken dialogue message) =
    taken_outputs dialogue h.pairs (life dialogue h.pairs) from message
reception_outputs h from (Reception.broken dialogue abort cause) =
    sent_if_any from abort ++ Output.dialogue (DialogueIndication.p_abort dialogue (AbortCause.cause cause))
    ∷ ended_in dialogue h.pairs []

-- ---- moments

-- An invocation and its deadline, which was reached (own).
pub record Lapsing : Type 0 where
  pub deadline : ℕ
  pub invocation : Invocation

-- Lapses are told by deadline, then by dialogue, then by number (own).
abbrev pub lapse_key : Lapsing → List ℕ
lapse_key l = l.deadline ∷ l.invocation.dialogue ∷ l.invocation.number ∷ []

-- An invocation that is Sent lapses at a moment at or past its deadline (Q.774, Invocation timer).
abbrev pub lapsing_by : ℕ → Bool → Invocation → Option ℕ → Option Lapsing
lapsing_by now sent i None = None
lapsing_by now sent i (Some deadline) =
    if sent && nat_le deadline now then Some (record { deadline = deadline; invocation = i }) else None

-- An invocation's lapse at a moment, if it is due, by its marks (Q.774, Invocation timer).
abbrev pub lapsing_at : Past → ℕ → Invocation → Option Lapsing
lapsing_at past now i = lapsing_by now (is_sent_in i.class i.timeout (span i past)) i (deadline i past)

-- What is told of a lapse: TC-L-CANCEL (Q.774, Invocation timer).
abbrev pub lapse_told : Lapsing → Output
lapse_told l = Output.component (ComponentIndication.closed l.invocation.dialogue l.invocation.number l.invocation.id
    Closing.lapsed)

-- What lapses at a moment, in the order in which it is told (Q.774, Invocation timer).
abbrev pub lapses : Past → ℕ → List Output
lapses past now = map lapse_told (in_order lapse_key (filter_map (lapsing_at past now) (invocations past)))

-- ---- dialogues that stay idle

-- Whether a dialogue is live and has been idle too long at a moment (own).
abbrev pub is_idle_by : ℕ → Past → ℕ → ℕ → Bool
is_idle_by idle_ms past now dialogue =
    live_in (life dialogue past) && is_idle idle_ms (touched dialogue past) now

-- Those that have are told by the moment at which they reached the limit, then by dialogue (own).
abbrev pub idle_key : ℕ → Past → ℕ → List ℕ
idle_key idle_ms past dialogue = (touched dialogue past + idle_ms) ∷ dialogue ∷ []

-- The dialogues that are over at a moment because they were idle too long (own).
abbrev pub idle_dialogues : ℕ → Past → ℕ → List ℕ
idle_dialogues idle_ms past now =
    in_order (idle_key idle_ms past) (filter (is_idle_by idle_ms past now) (dialogues past))

-- The marks of an invocation up to a moment: those of its span, and that of the moment (own).
abbrev pub marks_up_to_moment : Past → ℕ → Invocation → List Noted
marks_up_to_moment past now i = span i past ++ record { clock = clock past; mark = Mark.moment now } ∷ []

-- An invocation of the dialogue is told as ended, if it is still Queued or Sent when what is due at the
-- moment has lapsed (own).
abbrev pub ended_at_moment : ℕ → Past → ℕ → Invocation → Option Output
ended_at_moment dialogue past now i =
    if (i.dialogue == dialogue) && is_none (first_closing i.class i.timeout (marks_up_to_moment past now i))
    then Some (Output.component (ComponentIndication.closed dialogue i.number i.id Closing.ended)) else None

-- What is told of a dialogue that was idle too long: TC-P-ABORT, and each invocation that is left, by
-- number; no message goes out (own).
abbrev pub idle_told : Past → ℕ → ℕ → List Output
idle_told past now dialogue =
    Output.dialogue (DialogueIndication.p_abort dialogue AbortCause.idle)
    ∷ filter_map (ended_at_moment dialogue past now) (invocations past)

-- What is told at a moment: first all that lapses, and then dialogue by dialogue those that were idle
-- too long (Q.774, Invocation timer; that dialogues end is own).
abbrev pub moment_outputs : ℕ → Past → ℕ → List Output
moment_outputs idle_ms past now = lapses past now ++ flat_map (idle_told past now) (idle_dialogues idle_ms past now)

-- The answer to a moment: one below the clock does nothing (own).
abbrev pub moment_answer : ℕ → Past → ℕ → Option Fault → Answer
moment_answer idle_ms past now (Some f) = Answer.refused f
moment_answer idle_ms past now None =
    if nat_lt now (clock past) then Answer.outputs [] else Answer.outputs (moment_outputs idle_ms past now)

-- ---- the answer

-- The answer to the request for a new dialogue (own).
abbrev pub birth_answer : History → Option Fault → Answer
birth_answer h (Some f) = Answer.refused f
birth_answer h None = Answer.new_dialogue (next_dialogue h)

-- The answer to an event: the fault that is due, or what the procedures give
-- (Q.774, Transaction sublayer procedures; Q.774, Component handling).
abbrev pub reply : History → Event → Answer
reply h Event.new_dialogue = birth_answer h (birth_due h)
reply h (Event.on_dialogue dialogue request) =
    request_answer h dialogue request (life dialogue h.pairs) (due h dialogue request)
reply h (Event.received from bytes) =
    Answer.outputs (reception_outputs h from (reception (λ dialogue. live_in (life dialogue h.pairs))
    (is_some (birth_due h)) bytes))
reply h (Event.moment now) = moment_answer h.start.idle_ms h.pairs now (moment_fault now)
