-- The queue of a dialogue is octets, after any history whose numbers are in range.
use Rattle.std.proofs.Common.{◌≡◌, ℕ, Bool, true, false, not, List, [], ◌∷◌, ◌++◌, filter, option_to_list, Result, Ok, Err, if◌then◌else◌, inl, inr}
use Rattle.std.proofs.lemmas.Bool.{cases_Bool, and_parts}
use Rattle.tcap_pdu.specs.declared.fault.FrameFault.{FrameFault}
use Rattle.tcap_pdu.specs.FrameReading.{frame_at}
use Rattle.tcap_pdu.specs.FrameSpelling.{Message}
use Rattle.tcap_model.specs.Histories.Birth.{is_birth_of}
use Rattle.tcap_model.specs.Histories.Life.{Life, life}
use Rattle.tcap_model.specs.Histories.Names.{names}
use Rattle.tcap_model.specs.Histories.Pair.{Past}
use Rattle.tcap_model.specs.Procedures.ComponentRequest.{queued_for}
use Rattle.tcap_model.specs.Procedures.PortionRules.{PortionVerdict, portion_verdict}
use Rattle.tcap_model.specs.Procedures.QueueRules.{Queued, queue_limit, fits, queue_if_fits, queue_each, asks_for}
use Rattle.tcap_model.specs.Replies.Queue.{handled_in, rejects_of, queue_by_verdict, queue_by_message, queue_at_birth, number_in, queue_after_cancel, queue_by_request, queue_if_accepted, queue_by_bytes, queue_by_event, queue_born, queue}
use Rattle.tcap_model.specs.Words.Answer.{Answer, is_accepted}
use Rattle.tcap_model.specs.Words.Event.{Event}
use Rattle.tcap_model.specs.Words.InRange.{InRange, is_request, is_short}
use Rattle.tcap_model.specs.Words.Request.{Request, Ending, ComponentRequest, DialogueRequest}
use Rattle.tcap_model.specs.Words.State.{is_live}
use Rattle.tcap_play.proofs.Octets.LifeOctets.{AllInRange}
use Rattle.tcap_play.proofs.Octets.QueueOctets.{QueuedFine, AllFine, request-queues, received-rejects}

-- ---- changes of a queue

all-append : (waits more : List Queued) → AllFine waits → AllFine more → AllFine (waits ++ more)
all-append [] more a b = b
all-append (q ∷ waits) more a b = (a.0, all-append waits more a.1 b)

if_fits-fine : (limit : ℕ) (waits : List Queued) (q : Queued) → AllFine waits → QueuedFine q → AllFine (queue_if_fits limit waits q)
if_fits-fine limit waits q all here = elim (cases_Bool (fits limit waits q)) [
  | inl is ↦ rw is (all-append waits (q ∷ []) all (here, tt))
  | inr isnt ↦ rw isnt all
]

each-fine : (limit : ℕ) (waits more : List Queued) → AllFine waits → AllFine more → AllFine (queue_each limit waits more)
each-fine limit waits [] all others = all
each-fine limit waits (q ∷ more) all others =
    each-fine limit (queue_if_fits limit waits q) more (if_fits-fine limit waits q all others.0) others.1

filtered-fine : (test : Queued → Bool) (waits : List Queued) → AllFine waits → AllFine (filter test waits)
filtered-fine test [] all = tt
filtered-fine test (q ∷ waits) all = elim (cases_Bool (test q)) [
  | inl is ↦ rw is (all.0, filtered-fine test waits all.1)
  | inr isnt ↦ rw isnt (filtered-fine test waits all.1)
]

either-fine : (test : Bool) (x y : List Queued) → AllFine x → AllFine y → AllFine (if test then x else y)
either-fine true x y a b = a
either-fine false x y a b = b

-- ---- requests

cancelled-fine : (answer : Answer) (waits : List Queued) → AllFine waits → AllFine (queue_after_cancel answer waits)
cancelled-fine (Answer.given_up number) waits all = filtered-fine (λ c. not (asks_for number c.invoking)) waits all
cancelled-fine (Answer.new_dialogue dialogue) waits all = all
cancelled-fine (Answer.number number) waits all = all
cancelled-fine Answer.done waits all = all
cancelled-fine (Answer.outputs outputs) waits all = all
cancelled-fine (Answer.refused fault) waits all = all

by_request-fine : (waits : List Queued) (request : Request) (answer : Answer) → is_request request ≡ true → AllFine waits
    → AllFine (queue_by_request waits request answer)
by_request-fine waits (Request.component (ComponentRequest.invoke id class code parameter linked timeout)) answer is all =
    let r : Request = Request.component (ComponentRequest.invoke id class code parameter linked timeout) in
    all-append waits (option_to_list (queued_for (number_in answer) r)) all (request-queues (number_in answer) r is)
by_request-fine waits (Request.component (ComponentRequest.result_last id body)) answer is all =
    let r : Request = Request.component (ComponentRequest.result_last id body) in
    all-append waits (option_to_list (queued_for 0 r)) all (request-queues 0 r is)
by_request-fine waits (Request.component (ComponentRequest.result_more id body)) answer is all =
    let r : Request = Request.component (ComponentRequest.result_more id body) in
    all-append waits (option_to_list (queued_for 0 r)) all (request-queues 0 r is)
by_request-fine waits (Request.component (ComponentRequest.error_back id code parameter)) answer is all =
    let r : Request = Request.component (ComponentRequest.error_back id code parameter) in
    all-append waits (option_to_list (queued_for 0 r)) all (request-queues 0 r is)
by_request-fine waits (Request.component (ComponentRequest.u_reject id problem)) answer is all =
    let r : Request = Request.component (ComponentRequest.u_reject id problem) in
    all-append waits (option_to_list (queued_for 0 r)) all (request-queues 0 r is)
by_request-fine waits (Request.component (ComponentRequest.u_cancel id)) answer is all = cancelled-fine answer waits all
by_request-fine waits (Request.dialogue (DialogueRequest.uni to context info)) answer is all = tt
by_request-fine waits (Request.dialogue (DialogueRequest.begin to context info)) answer is all = tt
by_request-fine waits (Request.dialogue (DialogueRequest.go_on context info)) answer is all = tt
by_request-fine waits (Request.dialogue (DialogueRequest.finish Ending.basic context info)) answer is all = tt
by_request-fine waits (Request.dialogue (DialogueRequest.finish Ending.prearranged context info)) answer is all = all
by_request-fine waits (Request.dialogue (DialogueRequest.u_abort why info)) answer is all = all

if_accepted-fine : (accepted : Bool) (waits : List Queued) (request : Request) (answer : Answer) → is_request request ≡ true
    → AllFine waits → AllFine (queue_if_accepted accepted waits request answer)
if_accepted-fine true waits request answer is all = by_request-fine waits request answer is all
if_accepted-fine false waits request answer is all = all

-- ---- messages

verdict-fine : (dialogue : ℕ) (past : Past) (components : List ℕ) (waits : List Queued) (verdict : PortionVerdict) → AllFine waits
    → AllFine (queue_by_verdict verdict waits (handled_in dialogue past components))
verdict-fine dialogue past components waits (PortionVerdict.normal context info) all =
    each-fine queue_limit waits (rejects_of (handled_in dialogue past components)) all (received-rejects dialogue past components)
verdict-fine dialogue past components waits PortionVerdict.abnormal all = all

by_message-fine : (dialogue : ℕ) (past : Past) (before : Life) (waits : List Queued) (read : Result Message FrameFault)
    → AllFine waits → AllFine (queue_by_message dialogue past before waits read)
by_message-fine dialogue past Life.unborn waits read all = all
by_message-fine dialogue past Life.over waits read all = all
by_message-fine dialogue past (Life.standing state context) waits (Ok (Message.go_on origin to portion components)) all =
    verdict-fine dialogue past components waits (portion_verdict state context portion) all
by_message-fine dialogue past (Life.standing state context) waits (Ok (Message.unidirectional portion components)) all = all
by_message-fine dialogue past (Life.standing state context) waits (Ok (Message.begin origin portion components)) all = all
by_message-fine dialogue past (Life.standing state context) waits (Ok (Message.end to portion components)) all = all
by_message-fine dialogue past (Life.standing state context) waits (Ok (Message.abort to reason)) all = all
by_message-fine dialogue past (Life.standing state context) waits (Err fault) all = all

by_bytes-fine : (dialogue : ℕ) (past : Past) (before : Life) (waits : List Queued) (bytes : List ℕ) → AllFine waits
    → AllFine (queue_by_bytes dialogue past before waits bytes)
by_bytes-fine dialogue past Life.unborn waits bytes all = all
by_bytes-fine dialogue past Life.over waits bytes all = all
by_bytes-fine dialogue past (Life.standing state context) waits bytes all =
    either-fine (is_live state) (queue_by_message dialogue past (Life.standing state context) waits (frame_at bytes)) waits
    (by_message-fine dialogue past (Life.standing state context) waits (frame_at bytes) all) all

at_birth-fine : (dialogue : ℕ) (past : Past) (read : Result Message FrameFault) → AllFine (queue_at_birth dialogue past read)
at_birth-fine dialogue past (Ok (Message.begin origin portion components)) =
    each-fine queue_limit [] (rejects_of (handled_in dialogue past components)) tt (received-rejects dialogue past components)
at_birth-fine dialogue past (Ok (Message.unidirectional portion components)) = tt
at_birth-fine dialogue past (Ok (Message.go_on origin to portion components)) = tt
at_birth-fine dialogue past (Ok (Message.end to portion components)) = tt
at_birth-fine dialogue past (Ok (Message.abort to reason)) = tt
at_birth-fine dialogue past (Err fault) = tt

-- ---- one pair

born-fine : (dialogue : ℕ) (past : Past) (event : Event) → AllFine (queue_born dialogue past event)
born-fine dialogue past Event.new_dialogue = tt
born-fine dialogue past (Event.on_dialogue named request) = tt
born-fine dialogue past (Event.received from bytes) = at_birth-fine dialogue past (frame_at bytes)
born-fine dialogue past (Event.moment now) = tt

by_event-fine : (dialogue : ℕ) (past : Past) (waits : List Queued) (event : Event) (answer : Answer) → InRange event
    → AllFine waits → AllFine (queue_by_event dialogue past waits event answer)
by_event-fine dialogue past waits Event.new_dialogue answer within all = all
by_event-fine dialogue past waits (Event.on_dialogue named request) answer within all =
    if_accepted-fine (is_accepted answer) waits request answer (and_parts (is_short named) (is_request request) within).1 all
by_event-fine dialogue past waits (Event.received from bytes) answer within all =
    by_bytes-fine dialogue past (life dialogue past) waits bytes all
by_event-fine dialogue past waits (Event.moment now) answer within all = all

pub queue-fine : (dialogue : ℕ) (past : Past) → AllInRange past → AllFine (queue dialogue past)
queue-fine dialogue [] all = tt
queue-fine dialogue (pair ∷ past) all =
    let waits = queue dialogue past in
    let fine = queue-fine dialogue past all.1 in
    either-fine (is_birth_of dialogue pair) (queue_born dialogue past pair.event)
    (if names pair.event dialogue then queue_by_event dialogue past waits pair.event pair.answer else waits)
    (born-fine dialogue past pair.event)
    (either-fine (names pair.event dialogue) (queue_by_event dialogue past waits pair.event pair.answer) waits
    (by_event-fine dialogue past waits pair.event pair.answer all.0 fine) fine)
