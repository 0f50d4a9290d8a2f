-- The queue at each place of a legal history: each component in it comes from its dialogue.
use Rattle.std.proofs.Common.{◌≡◌, ℕ, true, false, Bool, ◌==◌, List, [], ◌∷◌, ◌++◌, Option, Some, None, if◌then◌else◌, refl, sym, ap, subst, ◌∙◌, inl, IsTrue, arith}
use Rattle.std.specs.List.{AllByRecursion}
use Rattle.std.proofs.lemmas.Bool.{and_parts, eqb-true}
use Rattle.tcap_component.specs.Component.{ComponentParts, InRange}
use Rattle.tcap_component.specs.Component.ComponentParts.{invoke, result_last, error_back, reject_back, result_more}
use Rattle.tcap_component.specs.Written.{CanWriteComponent}
use Rattle.tcap_model.specs.Words.Answer.{Answer, is_accepted}
use Rattle.tcap_model.specs.Histories.Birth.{is_birth_of}
use Rattle.tcap_model.specs.Procedures.ComponentRequest.{component_of, invoking_of}
use Rattle.tcap_model.specs.Replies.Due.{due, due_by, standing_of, situation_of}
use Rattle.tcap_model.specs.Words.Event.{Event}
use Rattle.tcap_model.specs.Words.Fault.{Fault}
use Rattle.tcap_model.specs.Histories.History.{History, Start}
use Rattle.tcap_model.specs.Words.InRange.{is_in_range, is_request, is_short}
use Rattle.tcap_model.specs.Replies.Legal.{AreReplies}
use Rattle.tcap_model.specs.Histories.Life.{Life, life}
use Rattle.tcap_model.specs.Histories.Names.{names}
use Rattle.tcap_model.specs.Histories.Pair.{Pair, Past}
use Rattle.tcap_model.specs.Replies.Queue.{number_in, queue_after_cancel, queue_by_request, queue_if_accepted, queue_by_event, queue_born, queue_after, queue}
use Rattle.tcap_model.specs.Procedures.QueueRules.{Invoking, Queued, queued}
use Rattle.tcap_model.specs.Replies.Reply.{reply, request_answer}
use Rattle.tcap_model.specs.Words.Request.{Request, Ending, ComponentRequest, DialogueRequest}
use Rattle.tcap_model.specs.Words.State.{State}
use Rattle.tcap_laws.proofs.Queues.KeptQueues.{IsKept, AllKept, kept-later, without-each}
use Rattle.tcap_laws.proofs.Queues.ReceivedQueues.{born-queue, named-queue}
use Rattle.tcap_laws.proofs.Queues.RequestedComponents.{IfGood, request-good}
use Rattle.tcap_laws.proofs.ListLemmas.{each-append}

-- ---- requests

pub accepted-parts : (h : History) (dialogue : ℕ) (request : Request) (before : Life) (fault : Option Fault)
    → is_accepted (request_answer h dialogue request before fault) ≡ true
    → (state : State) × (context : Option (List ℕ)) × (before ≡ Life.standing state context) × (fault ≡ None)
accepted-parts h dialogue request before (Some f) e = absurd cc
accepted-parts h dialogue request Life.unborn None e = absurd cc
accepted-parts h dialogue request Life.over None e = absurd cc
accepted-parts h dialogue request (Life.standing state context) None e = (state, context, refl, refl)

pub accepted-good : (h : History) (dialogue : ℕ) (request : Request) → IsTrue (is_request request)
    → is_accepted (reply h (Event.on_dialogue dialogue request)) ≡ true → IfGood (component_of request)
accepted-good h dialogue request is accepted =
    let parts = accepted-parts h dialogue request (life dialogue h.pairs) (due h dialogue request) accepted in
    let none : due_by h dialogue request (Life.standing parts.0 parts.1) ≡ None =
    ap (λ (l : Life). due_by h dialogue request l) (sym parts.2) ∙ parts.3 in
    request-good (situation_of h dialogue (standing_of dialogue h.pairs parts.0 parts.1) request) request (omega arith)
    is none

abbrev pair_of : Event → Answer → ℕ → Pair
pair_of event answer idle_ms = record { event = event; answer = answer; idle_ms = idle_ms }

module _ (dialogue : ℕ) (request : Request) (answer : Answer) (idle_ms : ℕ) (past : Past)
    (accepted : is_accepted answer ≡ true) where
  abbrev here : Pair
  here = pair_of (Event.on_dialogue dialogue request) answer idle_ms

  abbrev Keeps : List Queued → Type 0
  Keeps queue = AllKept dialogue (here ∷ past) queue

  appended : (queue : List Queued) (invoking : Option Invoking) (c : ComponentParts) → component_of request ≡ Some c
      → InRange c × CanWriteComponent c → Keeps queue → Keeps (queue ++ queued invoking c ∷ [])
  appended queue invoking c is good kept =
      each-append (IsKept dialogue (here ∷ past)) queue (queued invoking c ∷ []) kept (
        record {
          component = c;
          is_octets = refl;
          comes = inl (record {
            pair = here;
            before = past;
            request = request;
            stands = record { later = []; is_past = refl };
            is_event = refl;
            accepted = accepted;
            is_component = is;
          });
          in_range = good.0;
          can = good.1;
        },
        tt,
      )

cancelled : (P : Queued → Type 0) (answer : Answer) (queue : List Queued) → AllByRecursion P queue
    → AllByRecursion P (queue_after_cancel answer queue)
cancelled P (Answer.given_up number) queue kept = without-each P number queue kept
cancelled P (Answer.new_dialogue dialogue) queue kept = kept
cancelled P (Answer.number number) queue kept = kept
cancelled P Answer.done queue kept = kept
cancelled P (Answer.outputs outputs) queue kept = kept
cancelled P (Answer.refused fault) queue kept = kept

by-request : (dialogue : ℕ) (request : Request) (answer : Answer) (idle_ms : ℕ) (past : Past) (queue : List Queued)
    → is_accepted answer ≡ true → IfGood (component_of request) →
    AllKept dialogue (pair_of (Event.on_dialogue dialogue request) answer idle_ms ∷ past) queue
    → AllKept dialogue (pair_of (Event.on_dialogue dialogue request) answer idle_ms ∷ past)
    (queue_by_request queue request answer)
by-request dialogue (Request.component (ComponentRequest.invoke id class code parameter linked timeout)) answer idle_ms past
    queue accepted good kept =
    let r : Request = Request.component (ComponentRequest.invoke id class code parameter linked timeout) in
    appended dialogue r answer idle_ms past accepted queue (invoking_of (number_in answer) r) (invoke id linked code parameter)
    refl good kept
by-request dialogue (Request.component (ComponentRequest.result_last id body)) answer idle_ms past queue accepted good kept =
    appended dialogue (Request.component (ComponentRequest.result_last id body)) answer idle_ms past accepted queue None
    (result_last id body) refl good kept
by-request dialogue (Request.component (ComponentRequest.result_more id body)) answer idle_ms past queue accepted good kept =
    appended dialogue (Request.component (ComponentRequest.result_more id body)) answer idle_ms past accepted queue None
    (result_more id body) refl good kept
by-request dialogue (Request.component (ComponentRequest.error_back id code parameter)) answer idle_ms past queue accepted good
    kept = appended dialogue (Request.component (ComponentRequest.error_back id code parameter)) answer idle_ms past accepted
    queue None (error_back id code parameter) refl good kept
by-request dialogue (Request.component (ComponentRequest.u_reject id problem)) answer idle_ms past queue accepted good kept =
    appended dialogue (Request.component (ComponentRequest.u_reject id problem)) answer idle_ms past accepted queue None
    (reject_back id problem) refl good kept
by-request dialogue (Request.component (ComponentRequest.u_cancel id)) answer idle_ms past queue accepted good kept =
    cancelled (IsKept dialogue (pair_of (Event.on_dialogue dialogue (Request.component (ComponentRequest.u_cancel id)))
    answer idle_ms ∷ past)) answer queue kept
by-request dialogue
    (Request.dialogue (DialogueRequest.uni to context info)) answer idle_ms past queue accepted good kept = tt
by-request dialogue
    (Request.dialogue (DialogueRequest.begin to context info)) answer idle_ms past queue accepted good kept = tt
by-request dialogue (Request.dialogue (DialogueRequest.go_on context info)) answer idle_ms past queue accepted good kept = tt
by-request dialogue (Request.dialogue (DialogueRequest.finish Ending.basic context info)) answer idle_ms past queue accepted
    good kept = tt
by-request dialogue (Request.dialogue (DialogueRequest.finish Ending.prearranged context info)) answer idle_ms past queue
    accepted good kept = kept
by-request dialogue (Request.dialogue (DialogueRequest.u_abort why info)) answer idle_ms past queue accepted good kept = kept

if-accepted : (h : History) (dialogue : ℕ) (request : Request) (answer : Answer) (idle_ms : ℕ) (queue : List Queued)
    → IsTrue (is_request request) → answer ≡ reply h (Event.on_dialogue dialogue request) →
    AllKept dialogue (pair_of (Event.on_dialogue dialogue request) answer idle_ms ∷ h.pairs) queue
    → (accepted : Bool) → is_accepted answer ≡ accepted →
    AllKept dialogue (pair_of (Event.on_dialogue dialogue request) answer idle_ms ∷ h.pairs)
    (queue_if_accepted accepted queue request answer)
if-accepted h dialogue request answer idle_ms queue is is_reply kept false e = kept
if-accepted h dialogue request answer idle_ms queue is is_reply kept true e =
    by-request dialogue request answer idle_ms h.pairs queue e
    (accepted-good h dialogue request is (subst (λ (a : Answer). is_accepted a ≡ true) is_reply e)) kept

-- ---- one pair

either-kept : (P : Queued → Type 0) (test : Bool) (x y : List Queued) → (test ≡ true → AllByRecursion P x)
    → AllByRecursion P y → AllByRecursion P (if test then x else y)
either-kept P true x y p q = p refl
either-kept P false x y p q = q

after-pair : (h : History) (dialogue : ℕ) (event : Event) (answer : Answer) (idle_ms : ℕ) → IsTrue (is_in_range event)
    → answer ≡ reply h event → AllKept dialogue h.pairs (queue dialogue h.pairs) →
    AllKept dialogue (pair_of event answer idle_ms ∷ h.pairs)
    (queue_after dialogue h.pairs (queue dialogue h.pairs) (pair_of event answer idle_ms))
after-pair h dialogue Event.new_dialogue answer idle_ms range is kept =
    let here : Pair = pair_of Event.new_dialogue answer idle_ms in
    let waits = queue dialogue h.pairs in
    either-kept (IsKept dialogue (here ∷ h.pairs)) (is_birth_of dialogue here) [] waits (λ birth. tt)
    (kept-later dialogue here h.pairs waits kept)
after-pair h dialogue (Event.moment now) answer idle_ms range is kept =
    let here : Pair = pair_of (Event.moment now) answer idle_ms in
    kept-later dialogue here h.pairs (queue dialogue h.pairs) kept
after-pair h dialogue (Event.received from bytes) answer idle_ms range is kept =
    let here : Pair = pair_of (Event.received from bytes) answer idle_ms in
    let waits = queue dialogue h.pairs in
    let before = kept-later dialogue here h.pairs waits kept in
    either-kept (IsKept dialogue (here ∷ h.pairs)) (is_birth_of dialogue here)
    (queue_born dialogue h.pairs (Event.received from bytes))
    (if names (Event.received from bytes) dialogue then queue_by_event dialogue h.pairs waits
    (Event.received from bytes)
    answer else waits)
    (λ birth. born-queue h dialogue from bytes answer idle_ms is birth)
    (either-kept (IsKept dialogue (here ∷ h.pairs)) (names (Event.received from bytes) dialogue)
    (queue_by_event dialogue h.pairs waits (Event.received from bytes) answer) waits
    (λ named. named-queue h dialogue from bytes answer idle_ms is waits named before
    (life dialogue h.pairs) refl) before)
after-pair h dialogue (Event.on_dialogue asked request) answer idle_ms range is kept =
    let here : Pair = pair_of (Event.on_dialogue asked request) answer idle_ms in
    let waits = queue dialogue h.pairs in
    let before = kept-later dialogue here h.pairs waits kept in
    either-kept (IsKept dialogue (here ∷ h.pairs)) (asked == dialogue)
    (queue_if_accepted (is_accepted answer) waits request answer) waits
    (λ same. subst (λ (d : ℕ). AllKept d (here ∷ h.pairs) waits
    → AllKept d (here ∷ h.pairs) (queue_if_accepted (is_accepted answer) waits request answer))
    (eqb-true asked dialogue same)
    (λ all. if-accepted h asked request answer idle_ms waits (and_parts (is_short asked) (is_request request) range).1 is all
    (is_accepted answer) refl) before)
    before

pub queue-kept : (start : Start) (dialogue : ℕ) (past : Past) → AreReplies start past
    → AllKept dialogue past (queue dialogue past)
queue-kept start dialogue [] legal = tt
queue-kept start dialogue (pair ∷ past) legal =
    after-pair (record { start = start; pairs = past }) dialogue pair.event pair.answer pair.idle_ms
    legal.0.in_range legal.1
    (queue-kept start dialogue past legal.2)
