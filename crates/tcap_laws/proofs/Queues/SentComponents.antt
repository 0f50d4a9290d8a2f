-- Each component of a message that is sent comes from the dialogue that sends it.
use Rattle.std.proofs.Common.{◌≡◌, ℕ, ◌⊎◌, List, [], ◌∷◌, length, Option, Some, None, refl, sym, ap, subst, ◌∙◌, inl, inr, arith, append-nil, length-append}
use Rattle.std.specs.List.{AllByRecursion}
use Rattle.tcap_pdu.specs.FrameSpelling.{Message, Reason, SpellsFrame}
use Rattle.tcap_pdu.proofs.CallerLemmas.{one_frame}
use Rattle.tcap_component.specs.Component.{ComponentParts, SpellsComponent}
use Rattle.tcap_component.specs.ComponentFault.{FaultParts}
use Rattle.tcap_component.specs.ComponentList.{SpellsComponents, FirstFault, items}
use Rattle.tcap_component.specs.ComponentReading.{components_of}
use Rattle.tcap_component.proofs.CallerLemmas.{component_spelled, first_fault_again}
use Rattle.tcap_model.specs.Words.Answer.{Answer}
use Rattle.tcap_model.specs.Statements.SentFrom.{ComesFrom, SentFromOne, EachIsSentFrom}
use Rattle.tcap_model.specs.Statements.ComponentPortion.{portion_of}
use Rattle.tcap_model.specs.Replies.Due.{birth_due, standing_of}
use Rattle.tcap_model.specs.Words.Event.{Event}
use Rattle.tcap_model.specs.Histories.History.{History}
use Rattle.tcap_model.specs.Replies.Legal.{AreReplies}
use Rattle.tcap_model.specs.Words.Output.{Output}
use Rattle.tcap_model.specs.Histories.Pair.{Past}
use Rattle.tcap_model.specs.Statements.Places.{Tells}
use Rattle.tcap_model.specs.Replies.Queue.{queue}
use Rattle.tcap_model.specs.Procedures.QueueRules.{Queued, joined}
use Rattle.tcap_model.specs.Replies.Reply.{reply}
use Rattle.tcap_model.specs.Words.Request.{Request, Ending, AbortReason, DialogueRequest}
use Rattle.tcap_model.specs.Procedures.RequestMessage.{answer_portion, user_abort, refusing_abort, continue_message, end_message, abort_message, refusing_message, message_of}
use Rattle.tcap_model.specs.Procedures.Standing.{Standing}
use Rattle.tcap_model.specs.Words.State.{State}
use Rattle.tcap_model.specs.Words.Time.{moment_fault}
use Rattle.tcap_laws.proofs.Queues.KeptQueues.{AllKept}
use Rattle.tcap_laws.proofs.Queues.QueuedComponents.{queue-kept}
use Rattle.tcap_laws.proofs.Receptions.SentMessages.{Nothing, tells-sends, birth-sends, moment-sends, sent_for_bytes, sent_for_request}
use Rattle.tcap_laws.proofs.Receptions.ToldFromOctets.{legal-before}
use Rattle.tcap_model.specs.Words.Address.{Address}

-- ---- the octets of a queue are its components

abbrev AreFrom : ℕ → Past → List ℕ → Type 0
AreFrom dialogue past bytes =
    (cs : List ComponentParts) × SpellsComponents cs bytes × AllByRecursion (ComesFrom dialogue past) cs

joined-from : (dialogue : ℕ) (past : Past) (waits : List Queued) → AllKept dialogue past waits
    → AreFrom dialogue past (joined waits)
joined-from dialogue past [] kept = ([], refl, tt)
joined-from dialogue past (q ∷ waits) kept =
    let first = kept.0 in
    let others = joined-from dialogue past waits kept.1 in
    let c = first.component in
    let here : SpellsComponent c q.octets =
    subst (λ (w : List ℕ). SpellsComponent c w) (sym first.is_octets) (component_spelled c first.in_range first.can)
    in
    (c ∷ others.0, (q.octets, joined waits, here, refl, others.1), (first.comes, others.2))

-- components with nothing after them are all of the content
pub all-first : (cs : List ComponentParts) (content : List ℕ) → SpellsComponents cs content → FirstFault cs None content
all-first cs content spelled = record {
  front = content;
  rest = [];
  is_content = sym (append-nil content);
  spelled = spelled;
  longest = λ ds bytes more others e. omega (arith, ap length e, length-append bytes more);
  ends = refl;
}

pub same-items : (cs ds : List ComponentParts) (fault : Option FaultParts) → items cs fault ≡ items ds None
    → (cs ≡ ds) × (fault ≡ None)
same-items [] [] None e = (refl, refl)
same-items [] [] (Some f) e = absurd cc
same-items [] (d ∷ ds) None e = absurd cc
same-items [] (d ∷ ds) (Some f) e = absurd cc
same-items (c ∷ cs) [] fault e = absurd cc
same-items (c ∷ cs) (d ∷ ds) fault e =
    let others : items cs fault ≡ items ds None = cc in
    let first : c ≡ d = cc in
    let rest = same-items cs ds fault others in
    (ap (λ (x : ComponentParts). x ∷ cs) first ∙ ap (λ (xs : List ComponentParts). d ∷ xs) rest.0, rest.1)

-- ---- the component portion of a message is the queue, or nothing

abbrev IfPortion : Standing → Option Message → Type 0
IfPortion d None = Unit {0}
IfPortion d (Some m) = (portion_of m ≡ []) ⊎ (portion_of m ≡ joined d.queue)

continue-portion : (d : Standing) (state : State) (portion : Option (List ℕ))
    → IfPortion d (continue_message d state portion)
continue-portion d State.fresh portion = tt
continue-portion d State.sent portion = tt
continue-portion d (State.received peer) portion = inr refl
continue-portion d (State.active peer) portion = inr refl

end-portion : (d : Standing) (state : State) (portion : Option (List ℕ)) → IfPortion d (end_message d state portion)
end-portion d State.fresh portion = tt
end-portion d State.sent portion = tt
end-portion d (State.received peer) portion = inr refl
end-portion d (State.active peer) portion = inr refl

abort-portion : (d : Standing) (state : State) (reason : Reason) → IfPortion d (abort_message state reason)
abort-portion d State.fresh reason = tt
abort-portion d State.sent reason = tt
abort-portion d (State.received peer) reason = inl refl
abort-portion d (State.active peer) reason = inl refl

refusing-portion : (d : Standing) (state : State) (context : Option (List ℕ)) (info : List ℕ)
    → IfPortion d (refusing_message state context info)
refusing-portion d state None info = tt
refusing-portion d state (Some context) info = abort-portion d state (refusing_abort context info)

message-portion : (d : Standing) (request : Request) → IfPortion d (message_of d request)
message-portion d (Request.component asked) = tt
message-portion d (Request.dialogue (DialogueRequest.uni to context info)) = inr refl
message-portion d (Request.dialogue (DialogueRequest.begin to context info)) = inr refl
message-portion d (Request.dialogue (DialogueRequest.go_on context info)) =
    continue-portion d d.state (answer_portion d.state d.context context info)
message-portion d (Request.dialogue (DialogueRequest.finish Ending.basic context info)) =
    end-portion d d.state (answer_portion d.state d.context context info)
message-portion d (Request.dialogue (DialogueRequest.finish Ending.prearranged context info)) = tt
message-portion d (Request.dialogue (DialogueRequest.u_abort AbortReason.by_user info)) =
    abort-portion d d.state (user_abort d.context info)
message-portion d (Request.dialogue (DialogueRequest.u_abort AbortReason.not_supported info)) =
    refusing-portion d d.state d.context info

-- ---- one place

module _ (h : History) (legal : AreReplies h.start h.pairs) (to : Address) (bytes : List ℕ) (m : Message)
    (components : List ComponentParts) (fault : Option FaultParts) (spelled : SpellsFrame m bytes)
    (first : FirstFault components fault (portion_of m)) where
  abbrev Comes : Event → Type 0
  Comes event = (portion_of m ≡ []) ⊎ SentFromOne event h.pairs components fault

  of-queue : (dialogue : ℕ) (request : Request) → portion_of m ≡ joined (queue dialogue h.pairs)
      → SentFromOne (Event.on_dialogue dialogue request) h.pairs components fault
  of-queue dialogue request is =
      let all = joined-from dialogue h.pairs (queue dialogue h.pairs) (queue-kept h.start dialogue h.pairs legal) in
      let read = first_fault_again components fault (portion_of m) first in
      let whole = first_fault_again all.0 None (joined (queue dialogue h.pairs))
      (all-first all.0 (joined (queue dialogue h.pairs)) all.1) in
      let same = same-items components all.0 fault (sym read ∙ (ap components_of is ∙ whole)) in
      record {
        dialogue = dialogue;
        request = request;
        is_event = refl;
        each = subst (λ (cs : List ComponentParts). AllByRecursion (ComesFrom dialogue h.pairs) cs) (sym same.0) all.2;
        no_fault = same.1;
      }

  from-event : (event : Event) → Tells (reply h event) (Output.send to bytes) → Comes event
  from-event Event.new_dialogue tells =
      absurd (tells-sends Nothing (reply h Event.new_dialogue) to bytes (birth-sends h (birth_due h)) tells)
  from-event (Event.moment now) tells =
      absurd (tells-sends Nothing (reply h (Event.moment now)) to bytes
      (moment-sends h.start.idle_ms h.pairs now (moment_fault now))
      tells)
  from-event (Event.received from octets) tells =
      let sent = sent_for_bytes h from octets to bytes tells in
      let is = sent.is_message in
      inl (ap portion_of (one_frame m (Message.abort sent.peer sent.reason) bytes spelled is.spelled))
  from-event (Event.on_dialogue dialogue request) tells =
      let sent = sent_for_request h dialogue request to bytes tells in
      let is = sent.is_message in
      let d : Standing = standing_of dialogue h.pairs sent.state sent.context in
      let same = ap portion_of (one_frame m sent.message bytes spelled is.spelled) in
      elim (subst (IfPortion d) sent.is_asked (message-portion d request)) [
        | inl none ↦ inl (same ∙ none)
        | inr waits ↦ inr (of-queue dialogue request (same ∙ waits))
      ]

pub sent-from : EachIsSentFrom
sent-from h legal sent =
    let here = legal-before h.start sent.stands.later (sent.pair ∷ sent.before)
    (subst (AreReplies h.start) sent.stands.is_past legal.1) in
    from-event (record { start = h.start; pairs = sent.before }) here.2 sent.to sent.bytes sent.message sent.components
    sent.fault sent.spelled sent.read sent.pair.event
    (subst (λ (a : Answer). Tells a (Output.send sent.to sent.bytes)) here.1 sent.tells)
