-- A component that is told of was in a message that a far dialogue sent for a request. The far engine is
-- the one at whose addresses the sender of the message is.
use Rattle.std.proofs.Common.{◌≡◌, ℕ, ℤ, ◌⊎◌, List, [], ◌∷◌, ◌++◌, Option, Some, None, refl, sym, ap, subst, ◌∙◌, inl, inr, append_assoc, IsTrue}
use Rattle.std.specs.Prelude.{unwrap_or}
use Rattle.tcap_pdu.specs.FrameSpelling.{Message, Reason}
use Rattle.tcap_pdu.specs.FrameWritten.{written_frame}
use Rattle.tcap_pdu.proofs.CallerLemmas.{one_frame}
use Rattle.tcap_component.specs.Component.{ComponentParts}
use Rattle.tcap_component.specs.ComponentFault.{FaultParts}
use Rattle.tcap_component.specs.ComponentList.{items}
use Rattle.tcap_component.specs.ComponentReading.{components_of}
use Rattle.tcap_component.proofs.CallerLemmas.{first_fault_again, components_of-empty}
use Rattle.tcap_model.specs.Statements.ToldFrom.{IsOfComponent, ToldFromOne}
use Rattle.tcap_model.specs.Statements.ComponentPortion.{portion_of}
use Rattle.tcap_model.specs.Procedures.Destination.{destination}
use Rattle.tcap_model.specs.Replies.Due.{birth_due, standing_of}
use Rattle.tcap_model.specs.Words.Address.{Address}
use Rattle.tcap_model.specs.Words.Event.{Event}
use Rattle.tcap_model.specs.Histories.History.{History}
use Rattle.tcap_model.specs.Invocations.Invocation.{invoked_under}
use Rattle.tcap_model.specs.Replies.Legal.{AreReplies}
use Rattle.tcap_model.specs.Histories.Kept.{kept_address}
use Rattle.tcap_model.specs.Histories.Life.{Life, life}
use Rattle.tcap_model.specs.Invocations.Marks.{Mark, marks_of_request, end_if_over}
use Rattle.tcap_model.specs.Statements.Net.{Engine, Trace, side, is_at, Net, IsNet, ComesFromOther, IsCarriedTo, history_in}
use Rattle.tcap_model.specs.Words.Output.{Output}
use Rattle.tcap_model.specs.Histories.Pair.{Pair, Past}
use Rattle.tcap_model.specs.Statements.Places.{StandsIn, Tells}
use Rattle.tcap_model.specs.Procedures.QueueRules.{joined}
use Rattle.tcap_model.specs.Replies.Reply.{reply}
use Rattle.tcap_model.specs.Words.Request.{Request, Ending, AbortReason, DialogueRequest}
use Rattle.tcap_model.specs.Procedures.RequestMessage.{answer_portion, user_abort, refusing_abort, continue_message, end_message, abort_message, refusing_message, message_of}
use Rattle.tcap_model.specs.Procedures.Standing.{Standing}
use Rattle.tcap_model.specs.Words.State.{State, peer_of}
use Rattle.tcap_model.specs.Words.Time.{moment_fault}
use Rattle.tcap_model.specs.Statements.FarAnswer.{Happens, Hears}
use Rattle.tcap_laws.proofs.Peers.NetPlaces.{happens-stands, happens-rest, carried-there, SentBy, bytes_sent}
use Rattle.tcap_laws.proofs.Peers.SentPlaces.{goes-kept}
use Rattle.tcap_laws.proofs.Receptions.SentMessages.{Nothing, tells-sends, birth-sends, moment-sends, sent_for_bytes, sent_for_request}
use Rattle.tcap_laws.proofs.Receptions.ToldFromOctets.{legal-before, told-from}

-- ---- what a message that carries components takes

-- its components are the queue, its event makes a Sent mark and no invocation, and where it has a
-- destination that is the peer
pub record Takes (d : Standing) (request : Request) (m : Message) : Type 0 where
  pub is_portion : portion_of m ≡ joined d.queue
  pub is_sent : (id : ℤ) (before after : Life)
      → (rest : List Mark) × (unwrap_or (marks_of_request id request) (end_if_over before after) ≡ Mark.sent ∷ rest)
  pub makes_none : (dialogue : ℕ) (number : Option ℕ) → invoked_under dialogue request number ≡ None
  pub to_peer : (octets : List ℕ) → destination m ≡ Some octets → peer_of d.state ≡ Some octets

abbrev IfTakes : Standing → Request → Option Message → Type 0
IfTakes d request None = Unit {0}
IfTakes d request (Some m) = (portion_of m ≡ []) ⊎ Takes d request m

no_invocation : (dialogue : ℕ) (request : Request) (number : Option ℕ)
    → ((n : ℕ) → invoked_under dialogue request (Some n) ≡ None) → invoked_under dialogue request number ≡ None
no_invocation dialogue request None none = refl
no_invocation dialogue request (Some n) none = none n

continue-takes : (d : Standing) (state : State) (context : Option (List ℕ)) (info : List ℕ) (portion : Option (List ℕ))
    → d.state ≡ state → IfTakes d (Request.dialogue (DialogueRequest.go_on context info))
    (continue_message d state portion)
continue-takes d State.fresh context info portion is = tt
continue-takes d State.sent context info portion is = tt
continue-takes d (State.received peer) context info portion is =
    inr (record {
      is_portion = refl;
      is_sent = λ id before after. ([], refl);
      makes_none =
          λ dialogue number. no_invocation dialogue (Request.dialogue (DialogueRequest.go_on context info)) number
          (λ n. refl);
      to_peer = λ octets e. ap peer_of is ∙ e;
    })
continue-takes d (State.active peer) context info portion is =
    inr (record {
      is_portion = refl;
      is_sent = λ id before after. ([], refl);
      makes_none =
          λ dialogue number. no_invocation dialogue (Request.dialogue (DialogueRequest.go_on context info)) number
          (λ n. refl);
      to_peer = λ octets e. ap peer_of is ∙ e;
    })

end-takes : (d : Standing) (state : State) (context : Option (List ℕ)) (info : List ℕ) (portion : Option (List ℕ))
    → d.state ≡ state → IfTakes d (Request.dialogue (DialogueRequest.finish Ending.basic context info))
    (end_message d state portion)
end-takes d State.fresh context info portion is = tt
end-takes d State.sent context info portion is = tt
end-takes d (State.received peer) context info portion is =
    inr (record {
      is_portion = refl;
      is_sent = λ id before after. (Mark.end ∷ [], refl);
      makes_none =
          λ dialogue number. no_invocation dialogue (Request.dialogue (DialogueRequest.finish Ending.basic context info))
          number (λ n. refl);
      to_peer = λ octets e. ap peer_of is ∙ e;
    })
end-takes d (State.active peer) context info portion is =
    inr (record {
      is_portion = refl;
      is_sent = λ id before after. (Mark.end ∷ [], refl);
      makes_none =
          λ dialogue number. no_invocation dialogue (Request.dialogue (DialogueRequest.finish Ending.basic context info))
          number (λ n. refl);
      to_peer = λ octets e. ap peer_of is ∙ e;
    })

abort-takes : (d : Standing) (request : Request) (state : State) (reason : Reason)
    → IfTakes d request (abort_message state reason)
abort-takes d request State.fresh reason = tt
abort-takes d request State.sent reason = tt
abort-takes d request (State.received peer) reason = inl refl
abort-takes d request (State.active peer) reason = inl refl

refusing-takes : (d : Standing) (request : Request) (state : State) (context : Option (List ℕ)) (info : List ℕ)
    → IfTakes d request (refusing_message state context info)
refusing-takes d request state None info = tt
refusing-takes d request state (Some context) info = abort-takes d request state (refusing_abort context info)

message-takes : (d : Standing) (request : Request) → IfTakes d request (message_of d request)
message-takes d (Request.component asked) = tt
message-takes d (Request.dialogue (DialogueRequest.uni to context info)) =
    inr (record {
      is_portion = refl;
      is_sent = λ id before after. (Mark.end ∷ [], refl);
      makes_none =
          λ dialogue number. no_invocation dialogue (Request.dialogue (DialogueRequest.uni to context info)) number
          (λ n. refl);
      to_peer = λ octets e. absurd cc;
    })
message-takes d (Request.dialogue (DialogueRequest.begin to context info)) =
    inr (record {
      is_portion = refl;
      is_sent = λ id before after. ([], refl);
      makes_none =
          λ dialogue number. no_invocation dialogue (Request.dialogue (DialogueRequest.begin to context info)) number
          (λ n. refl);
      to_peer = λ octets e. absurd cc;
    })
message-takes d (Request.dialogue (DialogueRequest.go_on context info)) =
    continue-takes d d.state context info (answer_portion d.state d.context context info) refl
message-takes d (Request.dialogue (DialogueRequest.finish Ending.basic context info)) =
    end-takes d d.state context info (answer_portion d.state d.context context info) refl
message-takes d (Request.dialogue (DialogueRequest.finish Ending.prearranged context info)) = tt
message-takes d (Request.dialogue (DialogueRequest.u_abort AbortReason.by_user info)) =
    abort-takes d (Request.dialogue (DialogueRequest.u_abort AbortReason.by_user info)) d.state
    (user_abort d.context info)
message-takes d (Request.dialogue (DialogueRequest.u_abort AbortReason.not_supported info)) =
    refusing-takes d (Request.dialogue (DialogueRequest.u_abort AbortReason.not_supported info)) d.state d.context info

-- ---- the request that sent some components

-- a message with components was sent for a request on a dialogue, as that stood; with a destination
-- identifier, to the address that the dialogue keeps
pub record SentOn (past : Past) (event : Event) (to : Address) (bytes : List ℕ) (m : Message) : Type 0 where
  pub dialogue : ℕ
  pub request : Request
  pub state : State
  pub context : Option (List ℕ)
  pub is_event : event ≡ Event.on_dialogue dialogue request
  pub is_written : bytes ≡ written_frame m
  pub is_life : life dialogue past ≡ Life.standing state context
  pub takes : Takes (standing_of dialogue past state context) request m
  pub to_kept : (octets : List ℕ) → destination m ≡ Some octets → to ≡ kept_address dialogue past

no_items : (earlier later : List ComponentParts) (c : ComponentParts) (fault : Option FaultParts)
    → items (earlier ++ c ∷ later) fault ≡ [] → ⊥
no_items [] later c fault e = absurd cc
no_items (d ∷ earlier) later c fault e = absurd cc

module _ {told_by : Event} {output : Output} (told : ToldFromOne told_by output) where
  abbrev m : Message
  m = told.message

  pub some_components : portion_of m ≡ [] → ⊥
  some_components none = no_items told.earlier told.later told.component told.fault
      (sym (first_fault_again (told.earlier ++ told.component ∷ told.later) told.fault (portion_of m) told.read)
      ∙ (ap components_of none ∙ components_of-empty))

  pub sent-on : (h : History) (event : Event) (to : Address) → Tells (reply h event) (Output.send to told.bytes)
      → SentOn h.pairs event to told.bytes m
  sent-on h Event.new_dialogue to tells =
      absurd (tells-sends Nothing (reply h Event.new_dialogue) to told.bytes (birth-sends h (birth_due h)) tells)
  sent-on h (Event.moment now) to tells =
      absurd (tells-sends Nothing (reply h (Event.moment now)) to told.bytes (moment-sends h.start.idle_ms h.pairs now
      (moment_fault now))
      tells)
  sent-on h (Event.received from octets) to tells =
      let sent = sent_for_bytes h from octets to told.bytes tells in
      absurd (some_components (ap portion_of (one_frame m (Message.abort sent.peer sent.reason) told.bytes told.spelled
      sent.is_message.spelled)))
  sent-on h (Event.on_dialogue dialogue request) to tells =
      let sent = sent_for_request h dialogue request to told.bytes tells in
      let d : Standing = standing_of dialogue h.pairs sent.state sent.context in
      let same : sent.message ≡ m = sym (one_frame m sent.message told.bytes told.spelled sent.is_message.spelled) in
      let asked : message_of d request ≡ Some m = sent.is_asked ∙ ap (λ (x : Message). Some x) same in
      elim (subst (IfTakes d request) asked (message-takes d request)) [
        | inl none ↦ absurd (some_components none)
        | inr takes ↦ record {
          dialogue = dialogue;
          request = request;
          state = sent.state;
          context = sent.context;
          is_event = refl;
          is_written = sent.is_message.is_written ∙ ap written_frame same;
          is_life = sent.is_life;
          takes = takes;
          to_kept = goes-kept h dialogue request to told.bytes tells sent.state sent.context m asked;
        }
      ]

-- ---- the far pair that sent what is told of

pub record Carried (net : Net) (engine : Engine) (before : Trace) (event : Event) (output : Output) : Type 0 where
  pub told : ToldFromOne event output
  pub far : Engine
  pub is_from : IsTrue (is_at net.places far told.from)
  pub sender : Pair
  pub past : Past
  pub to : Address
  pub is_to : IsTrue (is_at net.places engine to)
  pub stands : StandsIn sender past (side far before)
  pub tells : Tells sender.answer (Output.send to told.bytes)
  pub is_legal : AreReplies (net.start far) (sender ∷ past)
  pub sent : SentOn past sender.event to told.bytes told.message

-- the event hears the far engine
pub hears-far : (net : Net) (engine : Engine) (before : Trace) (event : Event) (output : Output)
    → (it : Carried net engine before event output) → Hears net.places it.far event
hears-far net engine before event output it =
    record { from = it.told.from; bytes = it.told.bytes; is_event = it.told.is_event; is_from = it.is_from }

module _ (net : Net) (is : IsNet net) (engine : Engine) (pair : Pair) (before : Trace)
    (happens : Happens engine pair before net.trace) where
  -- what stands before is legal on each side
  pub legal-there : (other : Engine) → AreReplies (net.start other) (side other before)
  legal-there other =
      let rest = happens-rest other engine pair before net.trace happens in
      legal-before (net.start other) rest.0 (side other before)
      (subst (AreReplies (net.start other)) rest.1 (is.is_legal other).1)

  -- what is received comes from another
  pub comes-there : (from : Address) (bytes : List ℕ) → pair.event ≡ Event.received from bytes
      → ComesFromOther net.places engine from bytes before
  comes-there from bytes is_event =
      subst (λ (e : Event). IsCarriedTo net.places engine e before) is_event
      (carried-there net.places engine pair before net.trace happens is.is_carried)

  pub carried : (output : Output) → Tells pair.answer output → IsOfComponent output
      → Carried net engine before pair.event output
  carried output tells of =
      let told : ToldFromOne pair.event output =
      told-from (history_in net engine net.trace) (is.is_legal engine) (record {
        pair = pair;
        before = side engine before;
        output = output;
        stands = happens-stands engine pair before net.trace happens;
        tells = tells;
        is_of_component = of;
      }) in
      let comes : ComesFromOther net.places engine told.from told.bytes before =
      comes-there told.from told.bytes told.is_event in
      let far : Engine = comes.sender in
      let by : SentBy net.places engine told.bytes (side far before) =
      bytes_sent net.places engine told.bytes (side far before) comes.is_sent in
      let legal = legal-before (net.start far) by.stands.later (by.pair ∷ by.before)
      (subst (AreReplies (net.start far)) by.stands.is_past (legal-there far)) in
      record {
        told = told;
        far = far;
        is_from = comes.is_from;
        sender = by.pair;
        past = by.before;
        to = by.to;
        is_to = by.is_to;
        stands = by.stands;
        tells = by.tells;
        is_legal = legal;
        sent = sent-on told (record { start = net.start far; pairs = by.before }) by.pair.event by.to
            (subst (λ a. Tells a (Output.send by.to told.bytes)) legal.1 by.tells);
      }

-- ---- one of the components

pub stands-before : (pair sender : Pair) (before past whole : Past) → StandsIn pair before past
    → StandsIn sender past whole → StandsIn pair before whole
stands-before pair sender before past whole inner outer = record {
  later = outer.later ++ sender ∷ inner.later;
  is_past = outer.is_past ∙ (ap (λ (w : Past). outer.later ++ sender ∷ w) inner.is_past
      ∙ sym (append_assoc outer.later (sender ∷ inner.later) (pair ∷ before)));
}
