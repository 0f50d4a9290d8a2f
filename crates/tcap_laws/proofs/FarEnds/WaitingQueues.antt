-- At each place of a legal history: what waits in the queue of a dialogue that stands.
use Rattle.std.proofs.Common.{◌≡◌, ℕ, ℤ, Bool, true, false, eqb, List, [], ◌∷◌, ◌++◌, Option, Some, None, refl, sym, ap, subst, ◌∙◌, IsTrue, if◌then◌else◌}
use Rattle.std.proofs.lemmas.Bool.{and_parts, eqb-true, eq-eqb, true≢false}
use Rattle.tcap_component.specs.Component.{ComponentParts}
use Rattle.tcap_component.specs.Component.ComponentParts.{invoke, result_last, error_back, reject_back, result_more}
use Rattle.tcap_model.specs.Words.Answer.{Answer, is_accepted}
use Rattle.tcap_model.specs.Histories.Birth.{is_birth_of}
use Rattle.tcap_model.specs.Procedures.ComponentRequest.{component_of}
use Rattle.tcap_model.specs.Replies.Due.{due, standing_of}
use Rattle.tcap_model.specs.Words.Event.{Event}
use Rattle.tcap_model.specs.Replies.Held.{pending}
use Rattle.tcap_model.specs.Histories.History.{History, Start}
use Rattle.tcap_model.specs.Words.InRange.{is_in_range, is_request, is_short}
use Rattle.tcap_model.specs.Invocations.Invocation.{next_number}
use Rattle.tcap_model.specs.Replies.Legal.{AreReplies}
use Rattle.tcap_model.specs.Histories.Life.{Life, life, life_at_birth, life_after, life_by_event, life_by_request, life_if_accepted, life_if_named, touched}
use Rattle.tcap_model.specs.Histories.Names.{names}
use Rattle.tcap_model.specs.Histories.Pair.{Pair, Past}
use Rattle.tcap_model.specs.Replies.Queue.{queue_born, queue_by_bytes, queue_after_cancel, queue_by_request, queue_if_accepted, queue_by_event, queue_after, queue}
use Rattle.tcap_model.specs.Procedures.QueueRules.{Queued, queued}
use Rattle.tcap_model.specs.Replies.Reply.{accepted_answer, given_up_answer, request_answer, reply}
use Rattle.tcap_model.specs.Words.Request.{Request, ComponentRequest, DialogueRequest}
use Rattle.tcap_model.specs.Words.State.{State}
use Rattle.tcap_laws.proofs.Queues.QueuedComponents.{accepted-parts, accepted-good}
use Rattle.tcap_laws.proofs.Spans.QueuedMarks.{IsStanding, SparesAt, Spares}
use Rattle.tcap_laws.proofs.Queues.RequestedComponents.{IfGood}
use Rattle.tcap_laws.proofs.FarEnds.WaitingInvokes.{IsNoInvoke, IsWaiting, AllWait, born-waits, bytes-wait, IsLeft, all-later}
use Rattle.tcap_laws.proofs.ListLemmas.{each-append, either}
use Rattle.tcap_laws.proofs.FarEnds.WaitingSteps.{cancel-waits, new-waits, other-waits, unnamed-left, named-left}

-- ---- a request on a dialogue that stands

module _ (h : History) (dialogue : ℕ) (answer : Answer) (idle_ms : ℕ) (s : State) (c : Option (List ℕ))
    (lives : life dialogue h.pairs ≡ Life.standing s c) (all : AllWait dialogue h.pairs (queue dialogue h.pairs)) where
  abbrev with_answer : Request → Answer → Pair
  with_answer request a =
      record { event = Event.on_dialogue dialogue request; answer = a; idle_ms = idle_ms }

  abbrev IsLegalWith : Request → Answer → Type 0
  IsLegalWith request a = AreReplies h.start (with_answer request a ∷ h.pairs)

  abbrev waits : List Queued
  waits = queue dialogue h.pairs

  -- what the answer to an accepted request is
  answer-is : (request : Request) → answer ≡ reply h (Event.on_dialogue dialogue request) → is_accepted answer ≡ true
      → answer ≡ accepted_answer h (standing_of dialogue h.pairs s c) request
  answer-is request is accepted =
      let parts = accepted-parts h dialogue request (life dialogue h.pairs) (due h dialogue request)
      (sym (ap is_accepted is) ∙ accepted) in
      is ∙ (ap (λ (f : Option _). request_answer h dialogue request (life dialogue h.pairs) f) parts.3
      ∙ ap (λ (l : Life). request_answer h dialogue request l None) lives)

  same-dialogue : eqb dialogue dialogue ≡ true
  same-dialogue = eq-eqb dialogue dialogue refl

  left : (request : Request) (a : Answer) → is_accepted a ≡ true → IsStanding (life_by_request s c request) → (id : ℤ)
      → SparesAt id request → IsLeft dialogue id (with_answer request a) h.pairs
  left request a accepted stands id spares =
      named-left dialogue (Event.on_dialogue dialogue request) a idle_ms h.pairs s c lives same-dialogue
      (subst (λ (b : Bool). IsStanding (life_if_accepted b s c request)) (sym accepted) stands) id
      (subst (λ (b : Bool). Spares id (Event.on_dialogue dialogue request) b) (sym accepted) spares)

  plain : (request : Request) (component : ComponentParts) → is_accepted answer ≡ true
      → IsStanding (life_by_request s c request) → ((id : ℤ) → SparesAt id request) → IsNoInvoke component
      → IfGood (Some component) →
      AllWait dialogue (with_answer request answer ∷ h.pairs) (waits ++ queued None component ∷ [])
  plain request component accepted stands spares none good =
      each-append (IsWaiting dialogue (with_answer request answer ∷ h.pairs)) waits (queued None component ∷ [])
      (all-later dialogue (with_answer request answer) h.pairs waits
      (λ id. left request answer accepted stands id (spares id)) all)
      (other-waits dialogue (with_answer request answer ∷ h.pairs) component none good, tt)

  cancelled : (named : ℤ) (given : Option ℕ) → AreReplies h.start h.pairs → pending dialogue named h.pairs ≡ given
      → is_accepted (given_up_answer given) ≡ true →
      AllWait dialogue (with_answer (Request.component (ComponentRequest.u_cancel named)) (given_up_answer given)
      ∷ h.pairs) (queue_after_cancel (given_up_answer given) waits)
  cancelled named None legal is accepted = absurd (true≢false (sym accepted))
  cancelled named (Some number) legal is accepted =
      cancel-waits h.start h.pairs legal dialogue named number idle_ms is
      (λ id differs. left (Request.component (ComponentRequest.u_cancel named)) (Answer.given_up number) refl tt id
      differs) waits all

  request-waits : (request : Request) → IsLegalWith request answer → IfGood (component_of request)
      → is_accepted answer ≡ true → IsStanding (life_by_request s c request) →
      AllWait dialogue (with_answer request answer ∷ h.pairs) (queue_by_request waits request answer)
  request-waits (Request.component (ComponentRequest.invoke id class code parameter linked timeout)) legal good accepted
      stands =
      let r : Request = Request.component (ComponentRequest.invoke id class code parameter linked timeout) in
      let is : answer ≡ Answer.number (next_number h) = answer-is r legal.1 accepted in
      subst (λ (a : Answer). AllWait dialogue (with_answer r a ∷ h.pairs) (queue_by_request waits r a)) (sym is)
      (each-append (IsWaiting dialogue (with_answer r (Answer.number (next_number h)) ∷ h.pairs)) waits
      (queued (Some (record { number = next_number h; class = class })) (invoke id linked code parameter) ∷ [])
      (all-later dialogue (with_answer r (Answer.number (next_number h))) h.pairs waits
      (λ other. left r (Answer.number (next_number h)) refl tt other tt) all) (
        new-waits h.start dialogue (next_number h) idle_ms h.pairs id class code parameter linked timeout
            (subst (λ (a : Answer). IsLegalWith r a) is legal) good,
        tt,
      ))
  request-waits (Request.component (ComponentRequest.result_last id body)) legal good accepted stands =
      plain (Request.component (ComponentRequest.result_last id body)) (result_last id body) accepted tt (λ other. tt)
      tt good
  request-waits (Request.component (ComponentRequest.result_more id body)) legal good accepted stands =
      plain (Request.component (ComponentRequest.result_more id body)) (result_more id body) accepted tt (λ other. tt)
      tt good
  request-waits (Request.component (ComponentRequest.error_back id code parameter)) legal good accepted stands =
      plain (Request.component (ComponentRequest.error_back id code parameter)) (error_back id code parameter) accepted
      tt (λ other. tt) tt good
  request-waits (Request.component (ComponentRequest.u_reject id problem)) legal good accepted stands =
      plain (Request.component (ComponentRequest.u_reject id problem)) (reject_back id problem) accepted tt
      (λ other. tt) tt good
  request-waits (Request.component (ComponentRequest.u_cancel id)) legal good accepted stands =
      let r : Request = Request.component (ComponentRequest.u_cancel id) in
      let is : answer ≡ given_up_answer (pending dialogue id h.pairs) = answer-is r legal.1 accepted in
      subst (λ (a : Answer). AllWait dialogue (with_answer r a ∷ h.pairs) (queue_by_request waits r a)) (sym is)
      (cancelled id (pending dialogue id h.pairs) legal.2 refl (sym (ap is_accepted is) ∙ accepted))
  request-waits (Request.dialogue (DialogueRequest.uni to context info)) legal good accepted stands = tt
  request-waits (Request.dialogue (DialogueRequest.begin to context info)) legal good accepted stands = tt
  request-waits (Request.dialogue (DialogueRequest.go_on context info)) legal good accepted stands = tt
  request-waits (Request.dialogue (DialogueRequest.finish ending context info)) legal good accepted stands =
      absurd stands
  request-waits (Request.dialogue (DialogueRequest.u_abort why info)) legal good accepted stands = absurd stands

  refused-left : (request : Request) → is_accepted answer ≡ false → (id : ℤ)
      → IsLeft dialogue id (with_answer request answer) h.pairs
  refused-left request refused id =
      named-left dialogue (Event.on_dialogue dialogue request) answer idle_ms h.pairs s c lives same-dialogue
      (subst (λ (b : Bool). IsStanding (life_if_accepted b s c request)) (sym refused) tt) id
      (subst (λ (b : Bool). Spares id (Event.on_dialogue dialogue request) b) (sym refused) tt)

  pub asked-waits : (request : Request) → IsTrue (is_request request) → IsLegalWith request answer → (accepted : Bool)
      → is_accepted answer ≡ accepted → IsStanding (life_if_accepted accepted s c request) →
      AllWait dialogue (with_answer request answer ∷ h.pairs) (queue_if_accepted accepted waits request answer)
  asked-waits request range legal true e stands =
      request-waits request legal (accepted-good h dialogue request range (sym (ap is_accepted legal.1) ∙ e)) e stands
  asked-waits request range legal false e stands =
      all-later dialogue (with_answer request answer) h.pairs waits (refused-left request e) all

-- ---- one pair

module _ (h : History) (dialogue : ℕ) (answer : Answer) (idle_ms : ℕ) (s : State) (c : Option (List ℕ))
    (lives : life dialogue h.pairs ≡ Life.standing s c) (all : AllWait dialogue h.pairs (queue dialogue h.pairs)) where
  abbrev at : Event → Pair
  at event = record { event = event; answer = answer; idle_ms = idle_ms }

  abbrev after : Event → Life
  after event = life_by_event idle_ms (touched dialogue h.pairs) s c event (is_accepted answer)

  event-waits : (event : Event) → IsTrue (is_in_range event) → AreReplies h.start (at event ∷ h.pairs)
      → names event dialogue ≡ true → IsStanding (after event) →
      AllWait dialogue (at event ∷ h.pairs) (queue_by_event dialogue h.pairs (queue dialogue h.pairs) event answer)
  event-waits Event.new_dialogue range legal named stands = absurd (true≢false (sym named))
  event-waits (Event.on_dialogue asked request) range legal named stands =
      let in_parts = (and_parts (is_short asked) (is_request request) range).1 in
      let same : asked ≡ dialogue = eqb-true asked dialogue named in
      let here : AreReplies h.start (at (Event.on_dialogue dialogue request) ∷ h.pairs) =
      subst (λ (d : ℕ). AreReplies h.start (at (Event.on_dialogue d request) ∷ h.pairs)) same legal in
      subst (λ (d : ℕ). AllWait dialogue (at (Event.on_dialogue d request) ∷ h.pairs)
      (queue_if_accepted (is_accepted answer) (queue dialogue h.pairs) request answer)) (sym same)
      (asked-waits h dialogue answer idle_ms s c lives all request in_parts here (is_accepted answer) refl stands)
  event-waits (Event.received from bytes) range legal named stands =
      let e : Event = Event.received from bytes in
      subst (λ (l : Life). AllWait dialogue (at e ∷ h.pairs)
      (queue_by_bytes dialogue h.pairs l (queue dialogue h.pairs) bytes)) (sym lives)
      (bytes-wait dialogue (at e ∷ h.pairs) h.pairs s c (queue dialogue h.pairs) bytes
      (all-later dialogue (at e) h.pairs (queue dialogue h.pairs)
      (λ id. named-left dialogue e answer idle_ms h.pairs s c lives named stands id tt) all))
  event-waits (Event.moment now) range legal named stands =
      let e : Event = Event.moment now in
      all-later dialogue (at e) h.pairs (queue dialogue h.pairs)
      (λ id. named-left dialogue e answer idle_ms h.pairs s c lives named stands id (spared now (is_accepted answer) id)) all
    where
      spared : (now : ℕ) (accepted : Bool) (id : ℤ) → Spares id (Event.moment now) accepted
      spared now accepted id = tt

  pub pair-waits : (event : Event) → IsTrue (is_in_range event) → AreReplies h.start (at event ∷ h.pairs)
      → IsStanding (life_if_named (names event dialogue) (touched dialogue h.pairs) s c (at event)) →
      AllWait dialogue (at event ∷ h.pairs) (queue_after dialogue h.pairs (queue dialogue h.pairs) (at event))
  pair-waits event range legal stands =
      either (IsWaiting dialogue (at event ∷ h.pairs)) (is_birth_of dialogue (at event))
      (queue_born dialogue h.pairs event) (if names event dialogue then queue_by_event dialogue h.pairs
      (queue dialogue h.pairs) event answer else queue dialogue h.pairs)
      (λ birth. born-waits dialogue (at event ∷ h.pairs) h.pairs event)
      (λ none. either (IsWaiting dialogue (at event ∷ h.pairs)) (names event dialogue)
      (queue_by_event dialogue h.pairs (queue dialogue h.pairs) event answer) (queue dialogue h.pairs)
      (λ named. event-waits event range legal named
      (subst (λ (b : Bool). IsStanding (life_if_named b (touched dialogue h.pairs) s c (at event))) named stands))
      (λ unnamed. all-later dialogue (at event) h.pairs (queue dialogue h.pairs)
      (unnamed-left dialogue event answer idle_ms h.pairs s c lives unnamed) all))

-- a birth, or a pair after it
step-waits : (h : History) (dialogue : ℕ) (here : Pair) → IsTrue (is_in_range here.event)
    → AreReplies h.start (here ∷ h.pairs) →
    (IsStanding (life dialogue h.pairs) → AllWait dialogue h.pairs (queue dialogue h.pairs)) → (before : Life)
    → life dialogue h.pairs ≡ before → IsStanding (life_after dialogue (touched dialogue h.pairs) before here) →
    AllWait dialogue (here ∷ h.pairs) (queue_after dialogue h.pairs (queue dialogue h.pairs) here)
step-waits h dialogue here range legal before_it Life.over lives stands = absurd stands
step-waits h dialogue here range legal before_it (Life.standing s c) lives stands =
    pair-waits h dialogue here.answer here.idle_ms s c lives (before_it (subst IsStanding (sym lives) tt)) here.event
    range legal stands
step-waits h dialogue here range legal before_it Life.unborn lives stands =
    either (IsWaiting dialogue (here ∷ h.pairs)) (is_birth_of dialogue here)
    (queue_born dialogue h.pairs here.event)
    (if names here.event dialogue then queue_by_event dialogue h.pairs (queue dialogue h.pairs) here.event here.answer
    else queue dialogue h.pairs)
    (λ birth. born-waits dialogue (here ∷ h.pairs) h.pairs here.event)
    (λ none. absurd (subst (λ (b : Bool). IsStanding (life_at_birth b here.event)) none stands))

pub queue-waits : (start : Start) (dialogue : ℕ) (past : Past) → AreReplies start past → IsStanding (life dialogue past)
    → AllWait dialogue past (queue dialogue past)
queue-waits start dialogue [] legal stands = tt
queue-waits start dialogue (pair ∷ past) legal stands =
    step-waits (record { start = start; pairs = past }) dialogue pair legal.0.in_range legal
    (queue-waits start dialogue past legal.2) (life dialogue past) refl stands
