-- What an accepted request sends can be sent.
use Rattle.std.proofs.Common.{◌≡◌, ℕ, false, List, length, Option, Some, None, refl, arith}
use Rattle.std.proofs.lemmas.Bool.{ltb-false, or_parts}
use Rattle.tcap_pdu.specs.FrameSpelling.{Message, Reason, HasIds, HasCause}
use Rattle.tcap_pdu.specs.FrameWritten.{message_limit, written_frame}
use Rattle.tcap_pdu.specs.TransId.{IsTransId}
use Rattle.tcap_model.specs.Procedures.ComponentRequest.{queued_for}
use Rattle.tcap_model.specs.Words.Fault.{Fault}
use Rattle.tcap_model.specs.Words.LocalId.{local_id}
use Rattle.tcap_model.specs.Procedures.Refusals.{Situation, passes_queue, passes_message, holds, faults_of, due_on}
use Rattle.tcap_model.specs.Words.Request.{Request, Ending, AbortReason, DialogueRequest}
use Rattle.tcap_model.specs.Procedures.RequestMessage.{user_abort, refusing_abort, answer_portion, continue_message, end_message, abort_message, refusing_message, message_of}
use Rattle.tcap_model.specs.Procedures.Standing.{Standing}
use Rattle.tcap_model.specs.Words.State.{State}
use Rattle.tcap_laws.proofs.Receptions.NothingDue.{first_that-none}
use Rattle.tcap_laws.proofs.Receptions.PeerIdentifiers.{StateId}
use Rattle.tcap_laws.proofs.Receptions.ProviderAborts.{CanGo}

-- the identifiers and the cause of a message, if there is one, are within their limits
abbrev IfMessage : Option Message → Type 0
IfMessage None = Unit {0}
IfMessage (Some m) = HasIds m × HasCause m

local-id : (dialogue : ℕ) → IsTransId (local_id dialogue)
local-id dialogue = (omega arith, omega arith)

continue-ids : (d : Standing) (state : State) (portion : Option (List ℕ)) → StateId state
    → IfMessage (continue_message d state portion)
continue-ids d State.fresh portion id = tt
continue-ids d State.sent portion id = tt
continue-ids d (State.received peer) portion id = ((local-id d.identifier, id), tt)
continue-ids d (State.active peer) portion id = ((local-id d.identifier, id), tt)

end-ids : (d : Standing) (state : State) (portion : Option (List ℕ)) → StateId state
    → IfMessage (end_message d state portion)
end-ids d State.fresh portion id = tt
end-ids d State.sent portion id = tt
end-ids d (State.received peer) portion id = (id, tt)
end-ids d (State.active peer) portion id = (id, tt)

-- the reasons of a user's Abort have no cause
abbrev IsUsers : Reason → Type 0
IsUsers Reason.nothing = Unit {0}
IsUsers (Reason.cause number) = ⊥
IsUsers (Reason.portion dialogue) = Unit {0}

users-cause : (peer : List ℕ) (reason : Reason) → IsUsers reason → HasCause (Message.abort peer reason)
users-cause peer Reason.nothing users = tt
users-cause peer (Reason.cause number) users = absurd users
users-cause peer (Reason.portion dialogue) users = tt

abort-ids : (state : State) (reason : Reason) → StateId state → IsUsers reason → IfMessage (abort_message state reason)
abort-ids State.fresh reason id users = tt
abort-ids State.sent reason id users = tt
abort-ids (State.received peer) reason id users = (id, users-cause peer reason users)
abort-ids (State.active peer) reason id users = (id, users-cause peer reason users)

user-users : (context : Option (List ℕ)) (info : List ℕ) → IsUsers (user_abort context info)
user-users None info = tt
user-users (Some context) info = tt

refusing-ids : (state : State) (context : Option (List ℕ)) (info : List ℕ) → StateId state
    → IfMessage (refusing_message state context info)
refusing-ids state None info id = tt
refusing-ids state (Some context) info id = abort-ids state (refusing_abort context info) id tt

pub message-ids : (d : Standing) (request : Request) → StateId d.state → IfMessage (message_of d request)
message-ids d (Request.component asked) peer = tt
message-ids d (Request.dialogue (DialogueRequest.uni to context info)) peer = (tt, tt)
message-ids d (Request.dialogue (DialogueRequest.begin to context info)) peer = (local-id d.identifier, tt)
message-ids d (Request.dialogue (DialogueRequest.go_on context info)) peer =
    continue-ids d d.state (answer_portion d.state d.context context info) peer
message-ids d (Request.dialogue (DialogueRequest.finish Ending.basic context info)) peer =
    end-ids d d.state (answer_portion d.state d.context context info) peer
message-ids d (Request.dialogue (DialogueRequest.finish Ending.prearranged context info)) peer = tt
message-ids d (Request.dialogue (DialogueRequest.u_abort AbortReason.by_user info)) peer =
    abort-ids d.state (user_abort d.context info) peer (user-users d.context info)
message-ids d (Request.dialogue (DialogueRequest.u_abort AbortReason.not_supported info)) peer =
    refusing-ids d.state d.context info peer

-- ---- the length

not-long : (s : Situation) (request : Request) → holds s request Fault.too_long ≡ false
    → passes_message (message_of s.standing request) ≡ false
not-long s request e =
    (or_parts (passes_queue s.limit s.standing.queue (queued_for s.number request))
    (passes_message (message_of s.standing request)) e).1

not-passing : (s : Situation) (request : Request) → due_on s request ≡ None
    → passes_message (message_of s.standing request) ≡ false
not-passing s (Request.component asked) due = refl
not-passing s (Request.dialogue (DialogueRequest.uni to context info)) due =
    let r : Request = Request.dialogue (DialogueRequest.uni to context info) in
    let none = first_that-none (holds s r) (faults_of r) due in
    not-long s r none.1.1.1.1.1.1.0
not-passing s (Request.dialogue (DialogueRequest.begin to context info)) due =
    let r : Request = Request.dialogue (DialogueRequest.begin to context info) in
    let none = first_that-none (holds s r) (faults_of r) due in
    not-long s r none.1.1.1.1.1.0
not-passing s (Request.dialogue (DialogueRequest.go_on context info)) due =
    let r : Request = Request.dialogue (DialogueRequest.go_on context info) in
    let none = first_that-none (holds s r) (faults_of r) due in
    not-long s r none.1.1.1.1.1.0
not-passing s (Request.dialogue (DialogueRequest.finish ending context info)) due =
    let r : Request = Request.dialogue (DialogueRequest.finish ending context info) in
    let none = first_that-none (holds s r) (faults_of r) due in
    not-long s r none.1.1.1.1.1.0
not-passing s (Request.dialogue (DialogueRequest.u_abort why info)) due =
    let r : Request = Request.dialogue (DialogueRequest.u_abort why info) in
    let none = first_that-none (holds s r) (faults_of r) due in
    not-long s r none.1.1.1.1.0

-- a message, if there is one, can be sent
abbrev pub IfGoes : Option Message → Type 0
IfGoes None = Unit {0}
IfGoes (Some m) = CanGo m

if-goes : (message : Option Message) → IfMessage message → passes_message message ≡ false → IfGoes message
if-goes None ids short = tt
if-goes (Some m) ids short =
    record { has_ids = ids.0; has_cause = ids.1; is_short = ltb-false message_limit (length (written_frame m)) short }

pub request-goes : (s : Situation) (request : Request) → StateId s.standing.state → due_on s request ≡ None
    → IfGoes (message_of s.standing request)
request-goes s request peer due =
    if-goes (message_of s.standing request) (message-ids s.standing request peer) (not-passing s request due)
