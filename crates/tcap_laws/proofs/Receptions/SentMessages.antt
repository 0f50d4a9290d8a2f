-- What replies send spells its message.
use Rattle.std.proofs.Common.{◌≡◌, ℕ, true, false, Bool, List, [], ◌∷◌, ◌++◌, nat_lt, is_some, Option, Some, None, if◌then◌else◌, refl, sym, subst}
use Rattle.std.specs.List.{AllByRecursion}
use Rattle.tcap_pdu.specs.FrameSpelling.{Message, HasIds}
use Rattle.tcap_pdu.specs.TransId.{IsTransId}
use Rattle.tcap_component.specs.ComponentReading.{components_of}
use Rattle.tcap_model.specs.Procedures.AbortRules.{message_sent, abort_told, abnormal_abort, sent_if_any}
use Rattle.tcap_model.specs.Words.Address.{Address}
use Rattle.tcap_model.specs.Words.Answer.{Answer}
use Rattle.tcap_model.specs.Histories.Birth.{next_dialogue}
use Rattle.tcap_model.specs.Histories.Clock.{clock}
use Rattle.tcap_model.specs.Procedures.ComponentHandling.{told_of, uni_told}
use Rattle.tcap_model.specs.Replies.Due.{due, due_by, birth_due, standing_of, situation_of}
use Rattle.tcap_model.specs.Words.Event.{Event}
use Rattle.tcap_model.specs.Words.Fault.{Fault}
use Rattle.tcap_model.specs.Replies.Held.{pending}
use Rattle.tcap_model.specs.Histories.History.{History}
use Rattle.tcap_model.specs.Histories.Kept.{kept_address}
use Rattle.tcap_model.specs.Histories.Life.{Life, life, live_in}
use Rattle.tcap_model.specs.Words.Output.{Output, AbortCause, DialogueIndication}
use Rattle.tcap_model.specs.Histories.Pair.{Past}
use Rattle.tcap_model.specs.Statements.Places.{Tells}
use Rattle.tcap_model.specs.Procedures.PortionRules.{PortionVerdict, portion_verdict}
use Rattle.tcap_model.specs.Replies.Queue.{handled_in}
use Rattle.tcap_model.specs.Procedures.Reception.{Reception, reception}
use Rattle.tcap_model.specs.Procedures.Refusals.{due_on}
use Rattle.tcap_model.specs.Replies.Reply.{reply, birth_answer, given_up_answer, request_sent, accepted_answer, request_answer, continue_outputs, end_outputs, message_outputs, taken_outputs, reception_outputs, ended_in, moment_answer, moment_outputs}
use Rattle.tcap_model.specs.Words.Request.{Request, ComponentRequest, DialogueRequest}
use Rattle.tcap_model.specs.Procedures.RequestMessage.{message_of, request_address}
use Rattle.tcap_model.specs.Statements.SentMessage.{IsMessage, SentForRequest, SentForBytes}
use Rattle.tcap_model.specs.Procedures.Standing.{Standing}
use Rattle.tcap_model.specs.Words.State.{State, peer_by, address_by}
use Rattle.tcap_model.specs.Words.Time.{moment_fault}
use Rattle.tcap_laws.proofs.Receptions.PeerIdentifiers.{StateId, LifeId, life-id, peer_by-id}
use Rattle.tcap_laws.proofs.Receptions.SentRequests.{IfGoes, request-goes}
use Rattle.tcap_laws.proofs.Receptions.ProviderAborts.{Sends, goes-spelled, abnormal-sends}
use Rattle.tcap_laws.proofs.Receptions.SoundReceptions.{IfSends, IsSound, read-ids, reception-sound}
use Rattle.tcap_laws.proofs.Receptions.ToldOutputKinds.{IsTold, AreTold, components-told, uni-told, ended-told, abort-told, moment-told}
use Rattle.tcap_laws.proofs.ListLemmas.{each-append}

-- what is sent has this property
abbrev pub SendsOnly : (List ℕ → Type 0) → Output → Type 0
SendsOnly P (Output.send to bytes) = P bytes
SendsOnly P (Output.dialogue indication) = Unit {0}
SendsOnly P (Output.component indication) = Unit {0}
SendsOnly P (Output.dropped why) = Unit {0}

abbrev pub EachSends : (List ℕ → Type 0) → List Output → Type 0
EachSends P outputs = AllByRecursion (SendsOnly P) outputs

-- the same of an answer
abbrev pub AnswerSends : (List ℕ → Type 0) → Answer → Type 0
AnswerSends P (Answer.new_dialogue dialogue) = Unit {0}
AnswerSends P (Answer.number n) = Unit {0}
AnswerSends P Answer.done = Unit {0}
AnswerSends P (Answer.given_up n) = Unit {0}
AnswerSends P (Answer.outputs outputs) = EachSends P outputs
AnswerSends P (Answer.refused fault) = Unit {0}

each-at : {X : Type 0} (P : X → Type 0) (xs ys : List X) (x : X) → AllByRecursion P (xs ++ x ∷ ys) → P x
each-at P [] ys x all = all.0
each-at P (y ∷ xs) ys x all = each-at P xs ys x all.1

pub tells-sends : (P : List ℕ → Type 0) (answer : Answer) (to : Address) (bytes : List ℕ) → AnswerSends P answer
    → Tells answer (Output.send to bytes) → P bytes
tells-sends P answer to bytes sends tells =
    each-at (SendsOnly P) tells.earlier tells.later (Output.send to bytes)
    (subst (λ (a : Answer). AnswerSends P a) tells.is_answer sends)

told-only : (P : List ℕ → Type 0) (output : Output) → IsTold output → SendsOnly P output
told-only P (Output.send to bytes) told = absurd told
told-only P (Output.dialogue indication) told = tt
told-only P (Output.component indication) told = tt
told-only P (Output.dropped why) told = tt

pub told-each : (P : List ℕ → Type 0) (outputs : List Output) → AreTold outputs → EachSends P outputs
told-each P [] told = tt
told-each P (output ∷ outputs) told = (told-only P output told.0, told-each P outputs told.1)

-- ---- messages

aborts : (to : Address) (aborting : Message) → Sends aborting → SendsOnly SentForBytes (message_sent to aborting)
aborts to aborting sends =
    subst (λ (m : Message). SendsOnly SentForBytes (message_sent to m)) (sym sends.2)
    (record { peer = sends.0; reason = sends.1; is_message = goes-spelled (Message.abort sends.0 sends.1) sends.3 })

if-aborts : (to : Address) (aborting : Option Message) (outputs : List Output) → IfSends aborting →
    EachSends SentForBytes outputs
    → EachSends SentForBytes (sent_if_any to aborting ++ outputs)
if-aborts to None outputs sends others = others
if-aborts to (Some aborting) outputs sends others = (aborts to aborting sends, others)

ended-sends : (dialogue : ℕ) (past : Past) → EachSends SentForBytes (ended_in dialogue past [])
ended-sends dialogue past = told-each SentForBytes (ended_in dialogue past []) (ended-told dialogue past [])

continue-sends : (dialogue : ℕ) (past : Past) (state : State) (from : Address) (origin components : List ℕ)
    (verdict : PortionVerdict)
    → IsTransId (peer_by state origin) → EachSends SentForBytes
    (continue_outputs dialogue past state from origin components verdict)
continue-sends dialogue past state from origin components (PortionVerdict.normal context info) id = (
  tt,
  told-each SentForBytes (told_of (handled_in dialogue past components))
      (components-told dialogue past components),
)
continue-sends dialogue past state from origin components PortionVerdict.abnormal id = (
  aborts (address_by state (kept_address dialogue past) from) (abnormal_abort (peer_by state origin))
      (abnormal-sends (peer_by state origin) id),
  (tt, ended-sends dialogue past),
)

end-sends : (dialogue : ℕ) (past : Past) (components : List ℕ) (verdict : PortionVerdict)
    → EachSends SentForBytes (end_outputs dialogue past components verdict)
end-sends dialogue past components (PortionVerdict.normal context info) =
    let told = told_of (handled_in dialogue past components) in
    let ended = ended_in dialogue past (components_of components) in (
      tt,
      told-each SentForBytes (told ++ ended) (each-append IsTold told ended
          (components-told dialogue past components) (ended-told dialogue past (components_of components))),
    )
end-sends dialogue past components PortionVerdict.abnormal = (tt, ended-sends dialogue past)

message-sends : (dialogue : ℕ) (past : Past) (state : State) (context : Option (List ℕ)) (from : Address)
    (message : Message)
    → StateId state → HasIds message → EachSends SentForBytes (message_outputs dialogue past state context from message)
message-sends dialogue past state context from (Message.go_on origin to portion components) peer ids =
    continue-sends dialogue past state from origin components (portion_verdict state context portion)
    (peer_by-id state origin peer ids.0)
message-sends dialogue past state context from (Message.end to portion components) peer ids =
    end-sends dialogue past components (portion_verdict state context portion)
message-sends dialogue past state context from (Message.abort to reason) peer ids =
    (told-only SentForBytes (abort_told dialogue reason) (abort-told dialogue reason), ended-sends dialogue past)
message-sends dialogue past state context from (Message.unidirectional portion components) peer ids = tt
message-sends dialogue past state context from (Message.begin origin portion components) peer ids = tt

taken-sends : (dialogue : ℕ) (past : Past) (before : Life) (from : Address) (message : Message) → LifeId before →
    HasIds message
    → EachSends SentForBytes (taken_outputs dialogue past before from message)
taken-sends dialogue past Life.unborn from message peer ids = tt
taken-sends dialogue past (Life.standing state context) from message peer ids =
    message-sends dialogue past state context from message peer ids
taken-sends dialogue past Life.over from message peer ids = tt

reception-sends : (h : History) (from : Address) (bytes : List ℕ) (full : Bool) (r : Reception) → IsSound full bytes r
    → EachSends SentForBytes (reception_outputs h from r)
reception-sends h from bytes full (Reception.dropped why) sound = (tt, tt)
reception-sends h from bytes full (Reception.aborted aborting) sound = (aborts from aborting sound, tt)
reception-sends h from bytes full (Reception.unidirectional context info components) sound =
    (tt, told-each SentForBytes (uni_told (components_of components)) (uni-told (components_of components)))
reception-sends h from bytes full (Reception.begun origin context info components) sound = (
  tt,
  told-each SentForBytes (told_of (handled_in (next_dialogue h) h.pairs components))
      (components-told (next_dialogue h) h.pairs components),
)
reception-sends h from bytes full (Reception.taken dialogue message) sound =
    taken-sends dialogue h.pairs (life dialogue h.pairs) from message (life-id dialogue h.pairs)
    (read-ids bytes message sound)
reception-sends h from bytes full (Reception.broken dialogue aborting cause) sound =
    if-aborts from aborting (Output.dialogue (DialogueIndication.p_abort dialogue (AbortCause.cause cause))
    ∷ ended_in dialogue h.pairs []) sound (tt, ended-sends dialogue h.pairs)

bytes-sends : (h : History) (from : Address) (bytes : List ℕ)
    → AnswerSends SentForBytes (reply h (Event.received from bytes))
bytes-sends h from bytes =
    let live = λ (dialogue : ℕ). live_in (life dialogue h.pairs) in
    reception-sends h from bytes (is_some (birth_due h)) (reception live (is_some (birth_due h)) bytes)
    (reception-sound live (is_some (birth_due h)) bytes)

pub sent_for_bytes : (h : History) (from : Address) (bytes : List ℕ) (to : Address) (octets : List ℕ)
    → Tells (reply h (Event.received from bytes)) (Output.send to octets) → SentForBytes octets
sent_for_bytes h from bytes to octets tells =
    tells-sends SentForBytes (reply h (Event.received from bytes)) to octets (bytes-sends h from bytes) tells

-- ---- requests

module _ (h : History) (dialogue : ℕ) where
  if-sent : (to : Address) (state : State) (context : Option (List ℕ)) (request : Request)
      → life dialogue h.pairs ≡ Life.standing state context → (message : Option Message)
      → message_of (standing_of dialogue h.pairs state context) request ≡ message → IfGoes message
      → EachSends (SentForRequest h dialogue request) (sent_if_any to message)
  if-sent to state context request lives None is goes = tt
  if-sent to state context request lives (Some m) is goes = (
    record {
      state = state;
      context = context;
      message = m;
      is_life = lives;
      is_asked = is;
      is_message =
          goes-spelled m goes;
    },
    tt,
  )

  message-goes : (state : State) (context : Option (List ℕ)) (request : Request)
      → life dialogue h.pairs ≡ Life.standing state context
      → due_on (situation_of h dialogue (standing_of dialogue h.pairs state context) request) request ≡ None
      → StateId state → EachSends (SentForRequest h dialogue request)
      (request_sent h.pairs (standing_of dialogue h.pairs state context) request)
  message-goes state context request lives due peer =
      let d : Standing = standing_of dialogue h.pairs state context in
      if-sent (request_address (kept_address dialogue h.pairs) request) state context request lives
      (message_of d request) refl
      (request-goes (situation_of h dialogue d request) request peer due)

  last-sends : (state : State) (context : Option (List ℕ)) (request : Request)
      → life dialogue h.pairs ≡ Life.standing state context
      → due_on (situation_of h dialogue (standing_of dialogue h.pairs state context) request) request ≡ None
      → StateId state → EachSends (SentForRequest h dialogue request)
      (request_sent h.pairs (standing_of dialogue h.pairs state context) request ++ ended_in dialogue h.pairs [])
  last-sends state context request lives due peer =
      let sent = SentForRequest h dialogue request in
      let message = request_sent h.pairs (standing_of dialogue h.pairs state context) request in
      let ended = ended_in dialogue h.pairs [] in
      each-append (SendsOnly sent) message ended (message-goes state context request lives due peer)
      (told-each sent ended (ended-told dialogue h.pairs []))

  given_up-sends : (request : Request) (number : Option ℕ)
      → AnswerSends (SentForRequest h dialogue request) (given_up_answer number)
  given_up-sends request None = tt
  given_up-sends request (Some n) = tt

  accepted-sends : (state : State) (context : Option (List ℕ)) (request : Request)
      → life dialogue h.pairs ≡ Life.standing state context
      → due_on (situation_of h dialogue (standing_of dialogue h.pairs state context) request) request ≡ None
      → StateId state → AnswerSends (SentForRequest h dialogue request)
      (accepted_answer h (standing_of dialogue h.pairs state context) request)
  accepted-sends state context (Request.component (ComponentRequest.invoke id class code parameter linked timeout))
      lives due peer = tt
  accepted-sends state context (Request.component (ComponentRequest.result_last id body)) lives due peer = tt
  accepted-sends state context (Request.component (ComponentRequest.result_more id body)) lives due peer = tt
  accepted-sends state context (Request.component (ComponentRequest.error_back id code parameter)) lives due peer = tt
  accepted-sends state context (Request.component (ComponentRequest.u_reject id problem)) lives due peer = tt
  accepted-sends state context (Request.component (ComponentRequest.u_cancel id)) lives due peer =
      given_up-sends (Request.component (ComponentRequest.u_cancel id)) (pending dialogue id h.pairs)
  accepted-sends state context (Request.dialogue (DialogueRequest.uni to asked info)) lives due peer =
      last-sends state context (Request.dialogue (DialogueRequest.uni to asked info)) lives due peer
  accepted-sends state context (Request.dialogue (DialogueRequest.begin to asked info)) lives due peer =
      message-goes state context (Request.dialogue (DialogueRequest.begin to asked info)) lives due peer
  accepted-sends state context (Request.dialogue (DialogueRequest.go_on asked info)) lives due peer =
      message-goes state context (Request.dialogue (DialogueRequest.go_on asked info)) lives due peer
  accepted-sends state context (Request.dialogue (DialogueRequest.finish ending asked info)) lives due peer =
      last-sends state context (Request.dialogue (DialogueRequest.finish ending asked info)) lives due peer
  accepted-sends state context (Request.dialogue (DialogueRequest.u_abort why info)) lives due peer =
      last-sends state context (Request.dialogue (DialogueRequest.u_abort why info)) lives due peer

  request-sends : (request : Request) (before : Life) (fault : Option Fault) → life dialogue h.pairs ≡ before
      → due_by h dialogue request before ≡ fault → LifeId before
      → AnswerSends (SentForRequest h dialogue request) (request_answer h dialogue request before fault)
  request-sends request before (Some f) lives due peer = tt
  request-sends request Life.unborn None lives due peer = tt
  request-sends request Life.over None lives due peer = tt
  request-sends request (Life.standing state context) None lives due peer =
      accepted-sends state context request lives due peer

pub sent_for_request : (h : History) (dialogue : ℕ) (request : Request) (to : Address) (bytes : List ℕ)
    → Tells (reply h (Event.on_dialogue dialogue request)) (Output.send to bytes) →
    SentForRequest h dialogue request bytes
sent_for_request h dialogue request to bytes tells =
    tells-sends (SentForRequest h dialogue request) (reply h (Event.on_dialogue dialogue request)) to bytes
    (request-sends h dialogue request (life dialogue h.pairs) (due h dialogue request) refl refl
    (life-id dialogue h.pairs)) tells

-- ---- all events

abbrev pub Nothing : List ℕ → Type 0
Nothing bytes = ⊥

pub birth-sends : (h : History) (fault : Option Fault) → AnswerSends Nothing (birth_answer h fault)
birth-sends h (Some f) = tt
birth-sends h None = tt

pub moment-sends : (idle_ms : ℕ) (past : Past) (now : ℕ) (fault : Option Fault)
    → AnswerSends Nothing (moment_answer idle_ms past now fault)
moment-sends idle_ms past now (Some f) = tt
moment-sends idle_ms past now None = chosen (nat_lt now (clock past))
  where
    chosen : (early : Bool) → AnswerSends Nothing
        (if early then Answer.outputs [] else Answer.outputs (moment_outputs idle_ms past now))
    chosen true = tt
    chosen false = told-each Nothing (moment_outputs idle_ms past now) (moment-told idle_ms past now)

pub sent_message : (h : History) (event : Event) (to : Address) (bytes : List ℕ) →
    Tells (reply h event) (Output.send to bytes)
    → (m : Message) × IsMessage m bytes
sent_message h Event.new_dialogue to bytes tells =
    absurd (tells-sends Nothing (reply h Event.new_dialogue) to bytes (birth-sends h (birth_due h)) tells)
sent_message h (Event.on_dialogue dialogue request) to bytes tells = let sent =
    sent_for_request h dialogue request to bytes tells in (sent.message, sent.is_message)
sent_message h (Event.received from octets) to bytes tells = let sent =
    sent_for_bytes h from octets to bytes tells in (Message.abort sent.peer sent.reason, sent.is_message)
sent_message h (Event.moment now) to bytes tells =
    absurd (tells-sends Nothing (reply h (Event.moment now)) to bytes
    (moment-sends h.start.idle_ms h.pairs now (moment_fault now))
    tells)
