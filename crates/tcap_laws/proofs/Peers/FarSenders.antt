-- Which far dialogue sent a Begin or a Continue that was received, and how it stood.
use Rattle.std.proofs.Common.{◌≡◌, ◌≢◌, ℕ, ◌<◌, ◌+◌, ◌^◌, true, List, ◌∷◌, Option, Some, None, refl, sym, ap, subst, ◌∙◌, inl, inr, arith, nat_lt, IsTrue}
use Rattle.std.specs.Int.{w32, from_be_bytes}
use Rattle.std.proofs.lemmas.Nat.{from_be_bytes-to_be_bytes_4}
use Rattle.std.proofs.lemmas.Bool.{cases_Bool, ltb-true, ltb-false}
use Rattle.tcap_pdu.specs.FrameSpelling.{Message, Reason, SpellsFrame}
use Rattle.tcap_pdu.proofs.CallerLemmas.{one_frame}
use Rattle.tcap_model.specs.Words.Address.{Address}
use Rattle.tcap_model.specs.Words.Answer.{is_accepted}
use Rattle.tcap_model.specs.Histories.Birth.{births}
use Rattle.tcap_model.specs.Procedures.Destination.{destination}
use Rattle.tcap_model.specs.Replies.Due.{birth_due, standing_of}
use Rattle.tcap_model.specs.Words.Event.{Event}
use Rattle.tcap_model.specs.Histories.History.{History, Start}
use Rattle.tcap_model.specs.Replies.Legal.{AreReplies, is_start}
use Rattle.tcap_model.specs.Histories.Kept.{kept_address}
use Rattle.tcap_model.specs.Histories.Life.{Life, life}
use Rattle.tcap_model.specs.Words.LocalId.{local_id}
use Rattle.tcap_model.specs.Statements.Net.{Engine, Trace, side, is_at, Net, IsNet, ComesFromOther}
use Rattle.tcap_model.specs.Words.Output.{Output}
use Rattle.tcap_model.specs.Histories.Pair.{Pair, Past}
use Rattle.tcap_model.specs.Statements.Places.{StandsIn, Tells}
use Rattle.tcap_model.specs.Replies.Reply.{reply}
use Rattle.tcap_model.specs.Words.Request.{Request, Ending, AbortReason, DialogueRequest}
use Rattle.tcap_model.specs.Procedures.RequestMessage.{answer_portion, user_abort, refusing_abort, continue_message, end_message, abort_message, refusing_message, message_of}
use Rattle.tcap_model.specs.Procedures.Standing.{Standing}
use Rattle.tcap_model.specs.Words.State.{State, peer_of}
use Rattle.tcap_model.specs.Words.Time.{moment_fault}
use Rattle.tcap_model.specs.Statements.FarAnswer.{Happens}
use Rattle.tcap_laws.proofs.Births.DrawnDialogues.{beyond-unborn, unborn-life, dialogues-below}
use Rattle.tcap_laws.proofs.Peers.CarriedComponents.{legal-there, comes-there}
use Rattle.tcap_laws.proofs.Peers.NetPlaces.{SentBy, bytes_sent}
use Rattle.tcap_laws.proofs.Peers.SentPlaces.{goes-kept}
use Rattle.tcap_laws.proofs.Receptions.SentMessages.{Nothing, tells-sends, birth-sends, moment-sends, sent_for_bytes, sent_for_request}
use Rattle.tcap_laws.proofs.Births.StartCounters.{start_dialogue-within}
use Rattle.tcap_laws.proofs.Receptions.ToldFromOctets.{legal-before}

-- ---- which message a request sends

abbrev pub IsSource : Standing → Message → Type 0
IsSource d (Message.unidirectional portion components) = Unit {0}
IsSource d (Message.begin origin portion components) = origin ≡ local_id d.identifier
IsSource d (Message.end to portion components) = peer_of d.state ≡ Some to
IsSource d (Message.go_on origin to portion components) = (origin ≡ local_id d.identifier) × (peer_of d.state ≡ Some to)
IsSource d (Message.abort to reason) = peer_of d.state ≡ Some to

abbrev IfSource : Standing → Option Message → Type 0
IfSource d None = Unit {0}
IfSource d (Some m) = IsSource d m

continue-source : (d : Standing) (state : State) (portion : Option (List ℕ)) → d.state ≡ state
    → IfSource d (continue_message d state portion)
continue-source d State.fresh portion is = tt
continue-source d State.sent portion is = tt
continue-source d (State.received peer) portion is = (refl, ap peer_of is)
continue-source d (State.active peer) portion is = (refl, ap peer_of is)

end-source : (d : Standing) (state : State) (portion : Option (List ℕ)) → d.state ≡ state
    → IfSource d (end_message d state portion)
end-source d State.fresh portion is = tt
end-source d State.sent portion is = tt
end-source d (State.received peer) portion is = ap peer_of is
end-source d (State.active peer) portion is = ap peer_of is

abort-source : (d : Standing) (state : State) (reason : Reason) → d.state ≡ state
    → IfSource d (abort_message state reason)
abort-source d State.fresh reason is = tt
abort-source d State.sent reason is = tt
abort-source d (State.received peer) reason is = ap peer_of is
abort-source d (State.active peer) reason is = ap peer_of is

refusing-source : (d : Standing) (state : State) (context : Option (List ℕ)) (info : List ℕ) → d.state ≡ state
    → IfSource d (refusing_message state context info)
refusing-source d state None info is = tt
refusing-source d state (Some context) info is = abort-source d state (refusing_abort context info) is

message-source : (d : Standing) (request : Request) → IfSource d (message_of d request)
message-source d (Request.component asked) = tt
message-source d (Request.dialogue (DialogueRequest.uni to context info)) = tt
message-source d (Request.dialogue (DialogueRequest.begin to context info)) = refl
message-source d (Request.dialogue (DialogueRequest.go_on context info)) =
    continue-source d d.state (answer_portion d.state d.context context info) refl
message-source d (Request.dialogue (DialogueRequest.finish Ending.basic context info)) =
    end-source d d.state (answer_portion d.state d.context context info) refl
message-source d (Request.dialogue (DialogueRequest.finish Ending.prearranged context info)) = tt
message-source d (Request.dialogue (DialogueRequest.u_abort AbortReason.by_user info)) =
    abort-source d d.state (user_abort d.context info) refl
message-source d (Request.dialogue (DialogueRequest.u_abort AbortReason.not_supported info)) =
    refusing-source d d.state d.context info refl

-- ---- who sent what was received

abbrev pub IsNoAbort : Message → Type 0
IsNoAbort (Message.unidirectional portion components) = Unit {0}
IsNoAbort (Message.begin origin portion components) = Unit {0}
IsNoAbort (Message.end to portion components) = Unit {0}
IsNoAbort (Message.go_on origin to portion components) = Unit {0}
IsNoAbort (Message.abort to reason) = ⊥

pub record SentAs (past : Past) (event : Event) (to : Address) (m : Message) : Type 0 where
  pub dialogue : ℕ
  pub request : Request
  pub state : State
  pub context : Option (List ℕ)
  pub is_event : event ≡ Event.on_dialogue dialogue request
  pub is_life : life dialogue past ≡ Life.standing state context
  pub is_asked : message_of (standing_of dialogue past state context) request ≡ Some m
  pub source : IsSource (standing_of dialogue past state context) m
  pub to_kept : (octets : List ℕ) → destination m ≡ Some octets → to ≡ kept_address dialogue past

module _ (h : History) (bytes : List ℕ) (m : Message) (spelled : SpellsFrame m bytes) (no_abort : IsNoAbort m) where
  pub sent-as : (event : Event) (to : Address) → Tells (reply h event) (Output.send to bytes)
      → SentAs h.pairs event to m
  sent-as Event.new_dialogue to tells =
      absurd (tells-sends Nothing (reply h Event.new_dialogue) to bytes (birth-sends h (birth_due h)) tells)
  sent-as (Event.moment now) to tells =
      absurd (tells-sends Nothing (reply h (Event.moment now)) to bytes (moment-sends h.start.idle_ms h.pairs now
      (moment_fault now))
      tells)
  sent-as (Event.received from octets) to tells =
      let sent = sent_for_bytes h from octets to bytes tells in
      absurd (subst IsNoAbort (one_frame m (Message.abort sent.peer sent.reason) bytes spelled sent.is_message.spelled)
      no_abort)
  sent-as (Event.on_dialogue dialogue request) to tells =
      let sent = sent_for_request h dialogue request to bytes tells in
      let d : Standing = standing_of dialogue h.pairs sent.state sent.context in
      let asked : message_of d request ≡ Some m =
      sent.is_asked ∙ ap (λ (x : Message). Some x)
      (sym (one_frame m sent.message bytes spelled sent.is_message.spelled)) in
      record {
        dialogue = dialogue;
        request = request;
        state = sent.state;
        context = sent.context;
        is_event = refl;
        is_life = sent.is_life;
        is_asked = asked;
        source = subst (IfSource d) asked (message-source d request);
        to_kept = goes-kept h dialogue request to bytes tells sent.state sent.context m asked;
      }

-- the far pair that sent a message which was received from this address
pub record FarSender (net : Net) (engine : Engine) (before : Trace) (from : Address) (m : Message) : Type 0 where
  pub far : Engine
  pub is_from : IsTrue (is_at net.places far from)
  pub sender : Pair
  pub past : Past
  pub to : Address
  pub is_to : IsTrue (is_at net.places engine to)
  pub stands : StandsIn sender past (side far before)
  pub accepted : is_accepted sender.answer ≡ true
  pub is_legal : AreReplies (net.start far) (sender ∷ past)
  pub sent : SentAs past sender.event to m

module _ (net : Net) (is : IsNet net) (engine : Engine) (pair : Pair) (before : Trace)
    (happens : Happens engine pair before net.trace) where
  pub far-sender : (from : Address) (bytes : List ℕ) (m : Message) → pair.event ≡ Event.received from bytes
      → SpellsFrame m bytes → IsNoAbort m → FarSender net engine before from m
  far-sender from bytes m is_event spelled no_abort =
      let comes : ComesFromOther net.places engine from bytes before =
      comes-there net is engine pair before happens from bytes is_event in
      let far : Engine = comes.sender in
      let by : SentBy net.places engine bytes (side far before) =
      bytes_sent net.places engine bytes (side far before) comes.is_sent in
      let legal = legal-before (net.start far) by.stands.later (by.pair ∷ by.before)
      (subst (AreReplies (net.start far)) by.stands.is_past (legal-there net is engine pair before happens far)) in
      record {
        far = far;
        is_from = comes.is_from;
        sender = by.pair;
        past = by.before;
        to = by.to;
        is_to = by.is_to;
        stands = by.stands;
        accepted = ap is_accepted by.tells.is_answer;
        is_legal = legal;
        sent = sent-as (record { start = net.start far; pairs = by.before }) bytes m spelled no_abort by.pair.event
            by.to (subst (λ a. Tells a (Output.send by.to bytes)) legal.1 by.tells);
      }

-- ---- the four octets of a dialogue are of no other

pub same-id : (c d : ℕ) → c < 2 ^ 32 → d < 2 ^ 32 → local_id c ≡ local_id d → c ≡ d
same-id c d c_short d_short e =
    sym (from_be_bytes-to_be_bytes_4 c c_short) ∙ (ap (from_be_bytes w32) e ∙ from_be_bytes-to_be_bytes_4 d d_short)

-- a dialogue that was created has an identifier of 32 bits
pub born-short : (start : Start) (past : Past) (dialogue : ℕ) → is_start start ≡ true → AreReplies start past
    → life dialogue past ≢ Life.unborn → dialogue < 2 ^ 32
born-short start past dialogue starts legal born =
    let below = dialogues-below start past legal (start_dialogue-within start starts) in
    elim (cases_Bool (nat_lt dialogue (start.next_dialogue + births past))) [
      | inl within ↦ let less =
          ltb-true dialogue (start.next_dialogue + births past) within in omega (arith, below, less)
      | inr beyond ↦ absurd (born (unborn-life dialogue past
          (beyond-unborn start past legal dialogue (ltb-false dialogue (start.next_dialogue + births past) beyond))))
    ]
