-- The octets that a request sends: those of one message with all that waits, or of one without components.
use Rattle.std.proofs.Common.{◌≡◌, ℕ, true, false, Bool, not, List, [], ◌∷◌, ◌++◌, flat_map, Option, Some, None, if◌then◌else◌, refl, sym, ap, subst, ◌∙◌, append-nil, append_assoc}
use Rattle.std.proofs.lemmas.Bool.{true≢false}
use Rattle.tcap_pdu.specs.FrameSpelling.{Message, Reason, SpellsFrame}
use Rattle.tcap_pdu.specs.FrameWritten.{written_frame}
use Rattle.tcap_pdu.proofs.CallerLemmas.{one_frame}
use Rattle.tcap_component.specs.Component.{ComponentParts}
use Rattle.tcap_component.specs.ComponentList.{SpellsComponents}
use Rattle.tcap_component.specs.ComponentReading.{components_of}
use Rattle.tcap_component.proofs.CallerLemmas.{first_fault_again}
use Rattle.tcap_model.specs.Procedures.AbortRules.{sent_if_any}
use Rattle.tcap_model.specs.Replies.Due.{situation_of, standing_of}
use Rattle.tcap_model.specs.Words.Fault.{Fault}
use Rattle.tcap_model.specs.Replies.Held.{pending}
use Rattle.tcap_model.specs.Histories.History.{History}
use Rattle.tcap_model.specs.Histories.Life.{Life, life}
use Rattle.tcap_model.specs.Words.Output.{Output, ComponentIndication, DialogueIndication}
use Rattle.tcap_model.specs.Replies.Queue.{queue}
use Rattle.tcap_model.specs.Procedures.QueueRules.{joined}
use Rattle.tcap_model.specs.Procedures.Refusals.{Situation, due_on, faults_of, holds}
use Rattle.tcap_model.specs.Replies.Reply.{accepted_answer, ended_in, given_up_answer, request_sent}
use Rattle.tcap_model.specs.Words.Request.{Request, Ending, AbortReason, ComponentRequest, DialogueRequest}
use Rattle.tcap_model.specs.Procedures.RequestMessage.{answer_portion, user_abort, refusing_abort, continue_message, end_message, abort_message, refusing_message, message_of, request_address}
use Rattle.tcap_model.specs.Statements.SentInOrder.{octets_of, octets_in, HasComponents, HaveComponents}
use Rattle.tcap_model.specs.Procedures.Standing.{Standing}
use Rattle.tcap_model.specs.Words.State.{State}
use Rattle.tcap_model.specs.Procedures.States.{has_peer, has_request}
use Rattle.tcap_model.specs.Statements.Submitted.{sends_components, unsent}
use Rattle.tcap_laws.proofs.Receptions.NothingDue.{first_that-none}
use Rattle.tcap_laws.proofs.Receptions.PeerIdentifiers.{StateId, LifeId, life-id}
use Rattle.tcap_laws.proofs.Receptions.SentRequests.{IfGoes, request-goes}
use Rattle.tcap_laws.proofs.Receptions.ProviderAborts.{goes-spelled}
use Rattle.tcap_laws.proofs.Queues.SentComponents.{all-first, same-items}
use Rattle.tcap_laws.proofs.Submission.SubmittedParts.{components, joined-spelled}
use Rattle.tcap_laws.proofs.Submission.SubmittedRequests.{WaitsUnsent, waits-now}
use Rattle.tcap_laws.proofs.Receptions.ToldOutputKinds.{IsTold, AreTold, ended-told}
use Rattle.tcap_model.specs.Statements.ComponentPortion.{portion_of}
use Rattle.tcap_model.specs.Words.Address.{Address}
use Rattle.tcap_model.specs.Histories.Kept.{kept_address}

-- ---- what is told besides has no octets

told-octets : (output : Output) → IsTold output → octets_of output ≡ []
told-octets (Output.send to bytes) told = absurd told
told-octets (Output.dialogue (DialogueIndication.uni context info)) told = refl
told-octets (Output.dialogue (DialogueIndication.begin dialogue context info)) told = refl
told-octets (Output.dialogue (DialogueIndication.go_on dialogue context info)) told = refl
told-octets (Output.dialogue (DialogueIndication.end dialogue context info)) told = refl
told-octets (Output.dialogue (DialogueIndication.u_abort dialogue pdu)) told = refl
told-octets (Output.dialogue (DialogueIndication.p_abort dialogue why)) told = refl
told-octets (Output.component (ComponentIndication.invoked dialogue id linked code parameter)) told = refl
told-octets (Output.component (ComponentIndication.result_more dialogue number id body)) told = refl
told-octets (Output.component (ComponentIndication.local_reject dialogue id problem)) told = refl
told-octets (Output.component (ComponentIndication.remote_reject dialogue id problem by)) told = refl
told-octets (Output.component (ComponentIndication.closed dialogue number id closing)) told = refl
told-octets (Output.dropped why) told = refl

none-sent : (outputs : List Output) → AreTold outputs → flat_map octets_of outputs ≡ []
none-sent [] told = refl
none-sent (output ∷ outputs) told =
    ap (λ (octets : List (List ℕ)). octets ++ flat_map octets_of outputs) (told-octets output told.0)
    ∙ none-sent outputs told.1

-- ---- the messages of requests

-- a message that has all that waits
pub record TakesAll (d : Standing) (asked : Option Message) : Type 0 where
  pub message : Message
  pub is_asked : asked ≡ Some message
  pub is_portion : portion_of message ≡ joined d.queue

continue-sent_takes : (d : Standing) (state : State) (portion : Option (List ℕ)) → has_peer state ≡ true →
    TakesAll d (continue_message d state portion)
continue-sent_takes d State.fresh portion peer = absurd (true≢false (sym peer))
continue-sent_takes d State.sent portion peer = absurd (true≢false (sym peer))
continue-sent_takes d (State.received id) portion peer = record { message = _; is_asked = refl; is_portion = refl }
continue-sent_takes d (State.active id) portion peer = record { message = _; is_asked = refl; is_portion = refl }

end-sent_takes : (d : Standing) (state : State) (portion : Option (List ℕ)) → has_peer state ≡ true →
    TakesAll d (end_message d state portion)
end-sent_takes d State.fresh portion peer = absurd (true≢false (sym peer))
end-sent_takes d State.sent portion peer = absurd (true≢false (sym peer))
end-sent_takes d (State.received id) portion peer = record { message = _; is_asked = refl; is_portion = refl }
end-sent_takes d (State.active id) portion peer = record { message = _; is_asked = refl; is_portion = refl }

-- a message, if there is one, has no components
abbrev pub IsBare : Option Message → Type 0
IsBare None = Unit {0}
IsBare (Some m) = portion_of m ≡ []

abort-bare : (state : State) (reason : Reason) → IsBare (abort_message state reason)
abort-bare State.fresh reason = tt
abort-bare State.sent reason = tt
abort-bare (State.received peer) reason = refl
abort-bare (State.active peer) reason = refl

refusing-bare : (state : State) (context : Option (List ℕ)) (info : List ℕ) →
    IsBare (refusing_message state context info)
refusing-bare state None info = tt
refusing-bare state (Some context) info = abort-bare state (refusing_abort context info)

abort-request-bare : (d : Standing) (why : AbortReason) (info : List ℕ) →
    IsBare (message_of d (Request.dialogue (DialogueRequest.u_abort why info)))
abort-request-bare d AbortReason.by_user info = abort-bare d.state (user_abort d.context info)
abort-request-bare d AbortReason.not_supported info = refusing-bare d.state d.context info

-- what doesn't send what waits
pub others-bare : (d : Standing) (request : Request) → sends_components request ≡ false → IsBare (message_of d request)
others-bare d (Request.component (ComponentRequest.invoke id class code parameter linked timeout)) none = tt
others-bare d (Request.component (ComponentRequest.result_last id body)) none = tt
others-bare d (Request.component (ComponentRequest.result_more id body)) none = tt
others-bare d (Request.component (ComponentRequest.error_back id code parameter)) none = tt
others-bare d (Request.component (ComponentRequest.u_reject id problem)) none = tt
others-bare d (Request.component (ComponentRequest.u_cancel id)) none = tt
others-bare d (Request.dialogue (DialogueRequest.uni to context info)) none = absurd (true≢false none)
others-bare d (Request.dialogue (DialogueRequest.begin to context info)) none = absurd (true≢false none)
others-bare d (Request.dialogue (DialogueRequest.go_on context info)) none = absurd (true≢false none)
others-bare d (Request.dialogue (DialogueRequest.finish Ending.basic context info)) none = absurd (true≢false none)
others-bare d (Request.dialogue (DialogueRequest.finish Ending.prearranged context info)) none = tt
others-bare d (Request.dialogue (DialogueRequest.u_abort why info)) none = abort-request-bare d why info

-- ---- components and octets

pub none-bare : (bytes : List ℕ) (m : Message) → SpellsFrame m bytes → portion_of m ≡ [] → HasComponents bytes []
none-bare bytes m spelled bare = record { message = m; spelled = spelled; read = all-first [] (portion_of m) bare }

have-one : (bytes : List ℕ) (cs : List ComponentParts) → HasComponents bytes cs → HaveComponents (bytes ∷ []) cs
have-one bytes cs has = (cs, [], has, refl, sym (append-nil cs))

-- what sends nothing has no components
pub none-have : (messages : List (List ℕ)) → messages ≡ [] → HaveComponents messages []
none-have messages none = subst (λ (ms : List (List ℕ)). HaveComponents ms []) (sym none) refl

pub have-append : (messages later : List (List ℕ)) (cs ds : List ComponentParts) → HaveComponents messages cs →
    HaveComponents later ds → HaveComponents (messages ++ later) (cs ++ ds)
have-append [] later cs ds have others = subst (λ x. HaveComponents later (x ++ ds)) (sym have) others
have-append (bytes ∷ messages) later cs ds have others =
    let behind = have-append messages later have.1 ds have.3 others in
    let same = ap (λ (x : List ComponentParts). x ++ ds) have.4 ∙ append_assoc have.0 have.1 ds in
    (have.0, have.1 ++ ds, have.2, behind, same)

-- messages have no other components
has-same : (bytes : List ℕ) (cs ds : List ComponentParts) → HasComponents bytes cs → HasComponents bytes ds → cs ≡ ds
has-same bytes cs ds has also =
    let portion = ap portion_of (one_frame has.message also.message bytes has.spelled also.spelled) in
    let mine = first_fault_again cs None (portion_of has.message) has.read in
    let its = first_fault_again ds None (portion_of also.message) also.read in
    (same-items cs ds None (sym mine ∙ (ap components_of portion ∙ its))).0

pub have-same : (messages : List (List ℕ)) (cs ds : List ComponentParts) →
    HaveComponents messages cs → HaveComponents messages ds → cs ≡ ds
have-same [] cs ds have also = have ∙ sym also
have-same (bytes ∷ messages) cs ds have also =
    have.4
    ∙ (ap (λ (first : List ComponentParts). first ++ have.1) (has-same bytes have.0 also.0 have.2 also.2)
    ∙ (ap (λ (others : List ComponentParts). also.0 ++ others) (have-same messages have.1 also.1 have.3 also.3)
    ∙ sym also.4))

-- ---- an accepted request

state-id : (before : Life) (state : State) (context : Option (List ℕ)) → before ≡ Life.standing state context →
    LifeId before → StateId state
state-id before state context lives id = subst LifeId lives id

flip : (b : Bool) → not b ≡ false → b ≡ true
flip true e = refl
flip false e = absurd (true≢false e)

module _ (h : History) (dialogue : ℕ) (state : State) (context : Option (List ℕ))
    (lives : life dialogue h.pairs ≡ Life.standing state context) (waits : WaitsUnsent dialogue h.pairs) where
  abbrev d : Standing
  d = standing_of dialogue h.pairs state context

  abbrev situation : Request → Situation
  situation request = situation_of h dialogue d request

  abbrev IsDue : Request → Type 0
  IsDue request = due_on (situation request) request ≡ None

  -- to where the message of a request goes
  abbrev goes_to : Request → Address
  goes_to request = request_address (kept_address dialogue h.pairs) request

  abbrev waiting : List ComponentParts
  waiting = components (unsent dialogue [] h.pairs)

  abbrev Sends : List Output → List ComponentParts → Type 0
  Sends outputs cs = HaveComponents (flat_map octets_of outputs) cs

  goes : (request : Request) → IsDue request → IfGoes (message_of d request)
  goes request due =
      let id = state-id (life dialogue h.pairs) state context lives (life-id dialogue h.pairs) in
      request-goes (situation request) request id due

  -- a message with all that waits
  all-sent : (to : Address) (asked : Option Message) (later : List Output) → IfGoes asked → TakesAll d asked →
      AreTold later →
      Sends (sent_if_any to asked ++ later) waiting
  all-sent to asked later can takes told =
      let m : Message = takes.message in
      let go : IfGoes (Some m) = subst IfGoes takes.is_asked can in
      let queued : SpellsComponents waiting (joined (queue dialogue h.pairs)) =
      joined-spelled (unsent dialogue [] h.pairs) (queue dialogue h.pairs) (waits-now dialogue h.pairs waits) in
      let portion : SpellsComponents waiting (portion_of m) =
      subst (SpellsComponents waiting) (sym takes.is_portion) queued in
      let octets : flat_map octets_of (sent_if_any to asked ++ later) ≡ written_frame m ∷ [] =
      ap (λ (o : Option Message). flat_map octets_of (sent_if_any to o ++ later)) takes.is_asked
      ∙ ap (λ (os : List (List ℕ)). written_frame m ∷ os) (none-sent later told) in
      let has : HasComponents (written_frame m) waiting =
      record {
        message = m;
        spelled = (goes-spelled m go).spelled;
        read = all-first waiting (portion_of m) portion;
      } in
      subst (λ os. HaveComponents os waiting) (sym octets) (have-one (written_frame m) waiting has)

  -- a message without components
  none-with : (to : Address) (asked : Option Message) (later : List Output) → IfGoes asked → IsBare asked →
      AreTold later →
      Sends (sent_if_any to asked ++ later) []
  none-with to None later can bare told = none-have (flat_map octets_of later) (none-sent later told)
  none-with to (Some m) later can bare told =
      let has = none-bare (written_frame m) m (goes-spelled m can).spelled bare in
      subst (λ os. HaveComponents (written_frame m ∷ os) []) (sym (none-sent later told))
      (have-one (written_frame m) [] has)

  abbrev ended : List Output
  ended = ended_in dialogue h.pairs []

  all-told : AreTold ended
  all-told = ended-told dialogue h.pairs []

  cancel-sends : (given : Option ℕ) → octets_in (given_up_answer given) ≡ []
  cancel-sends None = refl
  cancel-sends (Some n) = refl

  right : (request : Request) → holds (situation request) request Fault.wrong_state ≡ false →
      has_request state context request ≡ true
  right request none = flip (has_request state context request) none

  pub accepted-sends : (request : Request) → IsDue request →
      HaveComponents (octets_in (accepted_answer h d request)) (if sends_components request then waiting else [])
  accepted-sends (Request.component (ComponentRequest.invoke id class code parameter linked timeout)) due = refl
  accepted-sends (Request.component (ComponentRequest.result_last id body)) due = refl
  accepted-sends (Request.component (ComponentRequest.result_more id body)) due = refl
  accepted-sends (Request.component (ComponentRequest.error_back id code parameter)) due = refl
  accepted-sends (Request.component (ComponentRequest.u_reject id problem)) due = refl
  accepted-sends (Request.component (ComponentRequest.u_cancel id)) due =
      none-have (octets_in (given_up_answer (pending dialogue id h.pairs))) (cancel-sends (pending dialogue id h.pairs))
  accepted-sends (Request.dialogue (DialogueRequest.uni to asked info)) due =
      let r : Request = Request.dialogue (DialogueRequest.uni to asked info) in
      let takes : TakesAll d (message_of d r) = record { message = _; is_asked = refl; is_portion = refl } in
      all-sent (goes_to r) (message_of d r) ended (goes r due) takes all-told
  accepted-sends (Request.dialogue (DialogueRequest.begin to asked info)) due =
      let r : Request = Request.dialogue (DialogueRequest.begin to asked info) in
      let takes : TakesAll d (message_of d r) = record { message = _; is_asked = refl; is_portion = refl } in
      all-sent (goes_to r) (message_of d r) [] (goes r due) takes tt
  accepted-sends (Request.dialogue (DialogueRequest.go_on asked info)) due =
      let r : Request = Request.dialogue (DialogueRequest.go_on asked info) in
      let none = first_that-none (holds (situation r) r) (faults_of r) due in
      let takes = continue-sent_takes d state (answer_portion state context asked info) (right r none.1.0) in
      subst (λ (os : List Output). Sends os waiting) (append-nil (request_sent h.pairs d r))
      (all-sent (goes_to r) (message_of d r) [] (goes r due) takes tt)
  accepted-sends (Request.dialogue (DialogueRequest.finish Ending.basic asked info)) due =
      let r : Request = Request.dialogue (DialogueRequest.finish Ending.basic asked info) in
      let none = first_that-none (holds (situation r) r) (faults_of r) due in
      let takes = end-sent_takes d state (answer_portion state context asked info) (right r none.1.0) in
      all-sent (goes_to r) (message_of d r) ended (goes r due) takes all-told
  accepted-sends (Request.dialogue (DialogueRequest.finish Ending.prearranged asked info)) due =
      none-have (flat_map octets_of ended) (none-sent ended all-told)
  accepted-sends (Request.dialogue (DialogueRequest.u_abort why info)) due =
      let r : Request = Request.dialogue (DialogueRequest.u_abort why info) in
      none-with (goes_to r) (message_of d r) ended (goes r due) (abort-request-bare d why info) all-told
