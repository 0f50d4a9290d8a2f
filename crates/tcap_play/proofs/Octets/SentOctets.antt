-- Each message that an engine sends is octets, so that another may receive it.
use Rattle.std.proofs.Common.{◌≡◌, ℕ, Bool, true, false, List, [], ◌∷◌, ◌++◌, map, nat_lt, is_some, filter_map, Option, Some, None, Ok, if◌then◌else◌, subst}
use Rattle.std.specs.List.{flat_map}
use Rattle.std.proofs.lemmas.Bool.{and_parts}
use Rattle.tcap_pdu.specs.FrameReading.{frame_at}
use Rattle.tcap_pdu.specs.FrameSpelling.{Message}
use Rattle.tcap_pdu.proofs.CallerLemmas.{frame_takes}
use Rattle.tcap_component.specs.ComponentReading.{components_of}
use Rattle.tcap_laws.proofs.CallerLemmas.{sent_message, sent_for_request}
use Rattle.tcap_model.specs.Histories.Birth.{next_dialogue}
use Rattle.tcap_model.specs.Histories.Clock.{clock}
use Rattle.tcap_model.specs.Histories.History.{History, Start}
use Rattle.tcap_model.specs.Histories.Life.{Life, life, live_in}
use Rattle.tcap_model.specs.Histories.Pair.{Past}
use Rattle.tcap_model.specs.Invocations.Invocation.{invocations}
use Rattle.tcap_model.specs.Procedures.PortionRules.{PortionVerdict, portion_verdict}
use Rattle.tcap_model.specs.Procedures.Reception.{Reception, reception}
use Rattle.tcap_model.specs.Procedures.Standing.{Standing}
use Rattle.tcap_model.specs.Replies.Due.{birth_due, standing_of}
use Rattle.tcap_model.specs.Replies.Legal.{AreReplies}
use Rattle.tcap_model.specs.Replies.Reply.{reply, birth_answer, continue_outputs, end_outputs, message_outputs, taken_outputs, reception_outputs, moment_answer, moment_outputs, idle_dialogues, idle_told, lapses, Lapsing, lapse_told, lapse_key, lapsing_at}
use Rattle.tcap_model.specs.Statements.Places.{Tells}
use Rattle.tcap_model.specs.Words.Answer.{Answer}
use Rattle.tcap_model.specs.Words.Event.{Event}
use Rattle.tcap_model.specs.Words.Fault.{Fault}
use Rattle.tcap_model.specs.Words.Address.{Address}
use Rattle.tcap_model.specs.Words.InRange.{InRange, are_octets, is_address, is_request, is_short}
use Rattle.tcap_model.specs.Words.KeyOrder.{in_order}
use Rattle.tcap_model.specs.Words.Output.{Output}
use Rattle.tcap_model.specs.Words.Request.{Request}
use Rattle.tcap_model.specs.Words.State.{State, peer_by}
use Rattle.tcap_model.specs.Words.Time.{moment_fault}
use Rattle.tcap_play.proofs.Octets.LifeOctets.{AllInRange, LifeOctets, StateOctets, life-octets}
use Rattle.tcap_play.proofs.Octets.OctetLists.{Octets}
use Rattle.tcap_play.proofs.Octets.ReadOctets.{frame-octets}
use Rattle.tcap_play.proofs.Octets.ReceptionOctets.{IsFine, abnormal-sends, reception-fine}
use Rattle.tcap_play.proofs.Octets.ReplyOctets.{FineMessage, SendsFine, AllSendFine, sends-append, components-told, uni-told, ended-told, idle-told, abort-told}
use Rattle.tcap_play.proofs.Octets.RequestOctets.{IfFine, message-fine}
use Rattle.tcap_play.proofs.Octets.WaitingOctets.{queue-fine}
use Rattle.tcap_play.proofs.Octets.WrittenOctets.{frame-written}

-- the same of an answer
abbrev AnswerFine : Answer → Type 0
AnswerFine (Answer.new_dialogue dialogue) = Unit {0}
AnswerFine (Answer.number number) = Unit {0}
AnswerFine Answer.done = Unit {0}
AnswerFine (Answer.given_up number) = Unit {0}
AnswerFine (Answer.outputs outputs) = AllSendFine outputs
AnswerFine (Answer.refused fault) = Unit {0}

one-fine : (earlier later : List Output) (output : Output) → AllSendFine (earlier ++ output ∷ later) → SendsFine output
one-fine [] later output all = all.0
one-fine (other ∷ earlier) later output all = one-fine earlier later output all.1

tells-fine : (answer : Answer) (to : Address) (bytes : List ℕ) → AnswerFine answer → Tells answer (Output.send to bytes) → FineMessage bytes
tells-fine answer to bytes fine tells =
    one-fine tells.earlier tells.later (Output.send to bytes) (subst (λ (a : Answer). AnswerFine a) tells.is_answer fine)

-- ---- received octets

peer_by-octets : (state : State) (origin : List ℕ) → StateOctets state → Octets origin → Octets (peer_by state origin)
peer_by-octets State.fresh origin peer from = from
peer_by-octets State.sent origin peer from = from
peer_by-octets (State.received known) origin peer from = peer
peer_by-octets (State.active known) origin peer from = peer

module _ (dialogue : ℕ) (past : Past) (from : Address) where
  continue-fine : (state : State) (origin components : List ℕ) (verdict : PortionVerdict) → StateOctets state → Octets origin
      → AllSendFine (continue_outputs dialogue past state from origin components verdict)
  continue-fine state origin components (PortionVerdict.normal context info) peer octets =
      (tt, components-told dialogue past components)
  continue-fine state origin components PortionVerdict.abnormal peer octets =
      (abnormal-sends (peer_by state origin) (peer_by-octets state origin peer octets), (tt, ended-told dialogue past []))

  end-fine : (components : List ℕ) (verdict : PortionVerdict) → AllSendFine (end_outputs dialogue past components verdict)
  end-fine components (PortionVerdict.normal context info) = (
    tt,
    sends-append _ _ (components-told dialogue past components) (ended-told dialogue past (components_of components)),
  )
  end-fine components PortionVerdict.abnormal = (tt, ended-told dialogue past [])

  outputs-fine : (bytes : List ℕ) (state : State) (context : Option (List ℕ)) (m : Message) → Octets bytes → frame_at bytes ≡ Ok m
      → StateOctets state → AllSendFine (message_outputs dialogue past state context from m)
  outputs-fine bytes state context (Message.go_on origin to portion components) octets e peer =
      let m : Message = Message.go_on origin to portion components in
      let parts = frame-octets m bytes (frame_takes bytes m e) octets in
      continue-fine state origin components (portion_verdict state context portion) peer parts.0
  outputs-fine bytes state context (Message.end to portion components) octets e peer =
      end-fine components (portion_verdict state context portion)
  outputs-fine bytes state context (Message.abort to reason) octets e peer =
      (abort-told dialogue reason, ended-told dialogue past [])
  outputs-fine bytes state context (Message.unidirectional portion components) octets e peer = tt
  outputs-fine bytes state context (Message.begin origin portion components) octets e peer = tt

  taken-fine : (bytes : List ℕ) (before : Life) (m : Message) → Octets bytes → frame_at bytes ≡ Ok m → LifeOctets before
      → AllSendFine (taken_outputs dialogue past before from m)
  taken-fine bytes Life.unborn m octets e kept = tt
  taken-fine bytes (Life.standing state context) m octets e kept = outputs-fine bytes state context m octets e kept.0
  taken-fine bytes Life.over m octets e kept = tt

received-fine : (h : History) (from : Address) (bytes : List ℕ) (r : Reception) → AllInRange h.pairs → Octets bytes → IsFine bytes r
    → AllSendFine (reception_outputs h from r)
received-fine h from bytes (Reception.dropped why) range octets fine = (tt, tt)
received-fine h from bytes (Reception.aborted answer) range octets fine = (fine, tt)
received-fine h from bytes (Reception.unidirectional context info components) range octets fine =
    (tt, uni-told (components_of components))
received-fine h from bytes (Reception.begun origin context info components) range octets fine =
    (tt, components-told (next_dialogue h) h.pairs components)
received-fine h from bytes (Reception.taken dialogue message) range octets fine =
    taken-fine dialogue h.pairs from bytes (life dialogue h.pairs) message octets fine (life-octets dialogue h.pairs range)
received-fine h from bytes (Reception.broken dialogue None cause) range octets fine = (tt, ended-told dialogue h.pairs [])
received-fine h from bytes (Reception.broken dialogue (Some answer) cause) range octets fine =
    (fine, (tt, ended-told dialogue h.pairs []))

-- ---- requests

request-sends : (h : History) (dialogue : ℕ) (request : Request) (to : Address) (bytes : List ℕ) → AllInRange h.pairs
    → is_request request ≡ true → Tells (reply h (Event.on_dialogue dialogue request)) (Output.send to bytes) → FineMessage bytes
request-sends h dialogue request to bytes range is tells =
    let sent = sent_for_request h dialogue request to bytes tells in
    let kept = subst (λ (l : Life). LifeOctets l) sent.is_life (life-octets dialogue h.pairs range) in
    let d : Standing = standing_of dialogue h.pairs sent.state sent.context in
    record {
      message = sent.message;
      is_written = sent.is_message.is_written;
      fine =
          subst (λ (m : Option Message). IfFine m) sent.is_asked
          (message-fine d request is kept.0 kept.1 (queue-fine dialogue h.pairs range));
    }

-- ---- other events

birth-fine : (h : History) (fault : Option Fault) → AnswerFine (birth_answer h fault)
birth-fine h (Some f) = tt
birth-fine h None = tt

lapses-told : (all : List Lapsing) → AllSendFine (map lapse_told all)
lapses-told [] = tt
lapses-told (l ∷ all) = (tt, lapses-told all)

all-idle-told : (past : Past) (now : ℕ) (ids : List ℕ) → AllSendFine (flat_map (idle_told past now) ids)
all-idle-told past now [] = tt
all-idle-told past now (dialogue ∷ ids) =
    sends-append (idle_told past now dialogue) (flat_map (idle_told past now) ids) (idle-told past now dialogue) (all-idle-told past now ids)

moment-fine : (idle_ms : ℕ) (past : Past) (now : ℕ) (fault : Option Fault) → AnswerFine (moment_answer idle_ms past now fault)
moment-fine idle_ms past now (Some f) = tt
moment-fine idle_ms past now None = chosen (nat_lt now (clock past))
  where
    chosen : (early : Bool) → AnswerFine (if early then Answer.outputs [] else Answer.outputs (moment_outputs idle_ms past now))
    chosen true = tt
    chosen false =
        sends-append (lapses past now) (flat_map (idle_told past now) (idle_dialogues idle_ms past now))
        (lapses-told (in_order lapse_key (filter_map (lapsing_at past now) (invocations past))))
        (all-idle-told past now (idle_dialogues idle_ms past now))

sends-fine : (h : History) (event : Event) (to : Address) (bytes : List ℕ) → AllInRange h.pairs → InRange event
    → Tells (reply h event) (Output.send to bytes) → FineMessage bytes
sends-fine h Event.new_dialogue to bytes range within tells =
    tells-fine (reply h Event.new_dialogue) to bytes (birth-fine h (birth_due h)) tells
sends-fine h (Event.on_dialogue dialogue request) to bytes range within tells =
    request-sends h dialogue request to bytes range (and_parts (is_short dialogue) (is_request request) within).1 tells
sends-fine h (Event.received from octets) to bytes range within tells =
    let are = (and_parts (is_address from) (are_octets octets) within).1 in
    let live = λ (dialogue : ℕ). live_in (life dialogue h.pairs) in
    let full = is_some (birth_due h) in
    tells-fine (reply h (Event.received from octets)) to bytes
    (received-fine h from octets (reception live full octets) range are (reception-fine live full octets are)) tells
sends-fine h (Event.moment now) to bytes range within tells =
    tells-fine (reply h (Event.moment now)) to bytes (moment-fine h.start.idle_ms h.pairs now (moment_fault now)) tells

-- ---- all of a history

pub in-range : (start : Start) (past : Past) → AreReplies start past → AllInRange past
in-range start [] legal = tt
in-range start (pair ∷ past) legal = (legal.0.in_range, in-range start past legal.2)

-- what an answer sends is octets
pub sent-octets : (h : History) (event : Event) (to : Address) (bytes : List ℕ) → AreReplies h.start h.pairs → InRange event
    → Tells (reply h event) (Output.send to bytes) → Octets bytes
sent-octets h event to bytes legal within tells =
    let fine = sends-fine h event to bytes (in-range h.start h.pairs legal) within tells in
    let read = sent_message h event to bytes tells in
    frame-written fine.message read.0 bytes fine.is_written read.1.spelled fine.fine
