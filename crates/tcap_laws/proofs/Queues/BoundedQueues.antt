-- The queue of a dialogue stays within its limit.
use Rattle.std.proofs.Common.{◌≡◌, ℕ, ◌+◌, ◌≤◌, Bool, true, false, cond, not, nat_le, ◌||◌, List, [], ◌∷◌, ◌++◌, length, filter, Option, Some, None, Result, Ok, Err, if◌then◌else◌, refl, sym, ap, ◌∙◌, arith, length-append}
use Rattle.std.proofs.lemmas.Bool.{or_parts}
use Rattle.std.proofs.lemmas.Bool.Decides.{nat_tests, Decides-eqb}
use Rattle.std.proofs.lemmas.List.{append-nil}
use Rattle.std.specs.List.{AllByRecursion}
use Rattle.tcap_pdu.specs.declared.fault.FrameFault.{FrameFault}
use Rattle.tcap_pdu.specs.FrameSpelling.{Message}
use Rattle.tcap_pdu.specs.FrameReading.{frame_at}
use Rattle.tcap_component.specs.Component.{ComponentParts}
use Rattle.tcap_model.specs.Words.Answer.{Answer, is_accepted}
use Rattle.tcap_model.specs.Histories.Birth.{is_birth_of}
use Rattle.tcap_model.specs.Procedures.ComponentHandling.{Handled}
use Rattle.tcap_model.specs.Procedures.ComponentRequest.{queued_for}
use Rattle.tcap_model.specs.Replies.Due.{situation_of, standing_of}
use Rattle.tcap_model.specs.Words.Event.{Event}
use Rattle.tcap_model.specs.Words.Fault.{Fault}
use Rattle.tcap_model.specs.Histories.History.{History, Start}
use Rattle.tcap_model.specs.Invocations.Invocation.{next_number}
use Rattle.tcap_model.specs.Replies.Legal.{AreReplies}
use Rattle.tcap_model.specs.Histories.Life.{Life, life}
use Rattle.tcap_model.specs.Histories.Names.{names}
use Rattle.tcap_model.specs.Histories.Pair.{Past}
use Rattle.tcap_model.specs.Procedures.PortionRules.{PortionVerdict, portion_verdict}
use Rattle.tcap_model.specs.Replies.Queue.{number_in, rejects_of, handled_in, queue_by_verdict, queue_by_message, queue_at_birth, queue_after_cancel, queue_by_request, queue_if_accepted, queue_by_bytes, queue_by_event, queue_born, queue}
use Rattle.tcap_model.specs.Procedures.QueueRules.{Queued, queue_limit, queued, joined, fits, queue_if_fits, queue_each, asks_for}
use Rattle.tcap_model.specs.Procedures.Refusals.{faults_of, holds, passes_message, passes_queue}
use Rattle.tcap_model.specs.Replies.Reply.{reply}
use Rattle.tcap_model.specs.Words.Request.{Request, Ending, ComponentRequest, DialogueRequest}
use Rattle.tcap_model.specs.Procedures.RequestMessage.{message_of}
use Rattle.tcap_model.specs.Words.State.{State, is_live}
use Rattle.tcap_laws.proofs.Receptions.AcceptedRequests.{IsAccepted, accepted-request}
use Rattle.tcap_laws.proofs.Receptions.NothingDue.{first_that-none}

-- a queue within a limit
abbrev IsWithin : ℕ → List Queued → Type 0
IsWithin limit queue = length (joined queue) ≤ limit

-- ---- a component more

joined-append : (xs ys : List Queued) → length (joined (xs ++ ys)) ≡ length (joined xs) + length (joined ys)
joined-append [] ys = omega arith
joined-append (x ∷ xs) ys =
    let more = joined-append xs ys in
    let whole = length-append x.octets (joined (xs ++ ys)) in
    let first = length-append x.octets (joined xs) in
    omega (arith, more, whole, first)

joined-more : (queue : List Queued) (c : Queued)
    → length (joined (queue ++ c ∷ [])) ≡ length (joined queue) + length c.octets
joined-more queue c =
    joined-append queue (c ∷ []) ∙ ap (λ (octets : List ℕ). length (joined queue) + length octets) (append-nil c.octets)

fits-within : (limit : ℕ) (queue : List Queued) (c : Queued) → fits limit queue c ≡ true
    → IsWithin limit (queue ++ c ∷ [])
fits-within limit queue c e = let more = joined-more queue c in grind (arith, nat_tests)

if_fits-within : (limit : ℕ) (queue : List Queued) (c : Queued) → IsWithin limit queue
    → IsWithin limit (queue_if_fits limit queue c)
if_fits-within limit queue c within = go (fits limit queue c) refl
  where
    go : (b : Bool) → fits limit queue c ≡ b → IsWithin limit (cond b (queue ++ c ∷ []) queue)
    go true e = fits-within limit queue c e
    go false e = within

each-within : (limit : ℕ) (queue cs : List Queued) → IsWithin limit queue → IsWithin limit (queue_each limit queue cs)
each-within limit queue [] within = within
each-within limit queue (c ∷ cs) within =
    each-within limit (queue_if_fits limit queue c) cs (if_fits-within limit queue c within)

-- ---- an Invoke less

filter-within : (test : Queued → Bool) (queue : List Queued)
    → length (joined (filter test queue)) ≤ length (joined queue)
filter-within test [] = omega arith
filter-within test (c ∷ cs) = go (test c) (filter-within test cs)
  where
    go : (b : Bool) → length (joined (filter test cs)) ≤ length (joined cs)
        → length (joined (cond b (c ∷ filter test cs) (filter test cs))) ≤ length (c.octets ++ joined cs)
    go true le = let kept = length-append c.octets (joined (filter test cs)) in let whole =
        length-append c.octets (joined cs) in omega (arith, le, kept, whole)
    go false le = let whole = length-append c.octets (joined cs) in omega (arith, le, whole)

cancel-within : (limit : ℕ) (answer : Answer) (queue : List Queued) → IsWithin limit queue
    → IsWithin limit (queue_after_cancel answer queue)
cancel-within limit (Answer.given_up number) queue within = let less =
    filter-within (λ c. not (asks_for number c.invoking)) queue in omega (arith, less, within)
cancel-within limit (Answer.new_dialogue dialogue) queue within = within
cancel-within limit (Answer.number number) queue within = within
cancel-within limit Answer.done queue within = within
cancel-within limit (Answer.outputs outputs) queue within = within
cancel-within limit (Answer.refused fault) queue within = within

-- ---- requests

not-passed : (limit : ℕ) (queue : List Queued) (c : Queued) (long : Bool)
    → (passes_queue limit queue (Some c) || long) ≡ false → fits limit queue c ≡ true
not-passed limit queue c long e = go (fits limit queue c) (or_parts (passes_queue limit queue (Some c)) long e).0
  where
    go : (b : Bool) → not b ≡ false → b ≡ true
    go true e = refl
    go false e = absurd cc

-- what an accepted request queues fits
module _ (h : History) (dialogue : ℕ) where
  abbrev queue_here : List Queued
  queue_here = queue dialogue h.pairs

  empty-within : IsWithin queue_limit []
  empty-within = omega arith

  -- where TooLong doesn't hold
  queued-within : (request : Request) (accepted : IsAccepted h dialogue request) (c : Queued)
      → queued_for (next_number h) request ≡ Some c
      → holds (situation_of h dialogue (standing_of dialogue h.pairs accepted.state accepted.context) request) request
      Fault.too_long ≡ false → fits queue_limit queue_here c ≡ true
  queued-within request accepted c e none =
      let long : Bool = passes_message (message_of (standing_of dialogue h.pairs accepted.state accepted.context)
      request) in
      not-passed queue_limit queue_here c long (ap (λ o. passes_queue queue_limit queue_here o || long) (sym e) ∙ none)

  -- the queue with what the request appends; the number of an Invoke doesn't count
  with-queued : (request : Request) (accepted : IsAccepted h dialogue request) (c made : Queued)
      → queued_for (next_number h) request ≡ Some c → c.octets ≡ made.octets
      → holds (situation_of h dialogue (standing_of dialogue h.pairs accepted.state accepted.context) request) request
      Fault.too_long ≡ false → IsWithin queue_limit (queue_here ++ made ∷ [])
  with-queued request accepted c made e same none =
      fits-within queue_limit queue_here made (ap (λ (octets : List ℕ).
      nat_le (length (joined queue_here) + length octets) queue_limit) (sym same)
      ∙ queued-within request accepted c e none)

  -- none of the faults of a request holds that was accepted
  faultless : (request : Request) (accepted : IsAccepted h dialogue request)
      → AllByRecursion (λ fault. holds (situation_of h dialogue
      (standing_of dialogue h.pairs accepted.state accepted.context) request) request fault ≡ false)
      (faults_of request)
  faultless request accepted =
      first_that-none (holds (situation_of h dialogue (standing_of dialogue h.pairs accepted.state accepted.context)
      request) request) (faults_of request) accepted.faultless

  request-within : (request : Request) (answer : Answer) → IsAccepted h dialogue request
      → IsWithin queue_limit queue_here → IsWithin queue_limit (queue_by_request queue_here request answer)
  request-within (Request.component (ComponentRequest.invoke id class code parameter linked timeout)) answer accepted
      within =
      let component = ComponentParts.invoke id linked code parameter in
      with-queued (Request.component (ComponentRequest.invoke id class code parameter linked timeout)) accepted
      (queued (Some (record { number = next_number h; class = class })) component)
      (queued (Some (record { number = number_in answer; class = class })) component) refl refl
      (faultless (Request.component (ComponentRequest.invoke id class code parameter linked timeout))
      accepted).1.1.1.1.1.1.0
  request-within (Request.component (ComponentRequest.result_last id body)) answer accepted within =
      let made = queued None (ComponentParts.result_last id body) in
      with-queued (Request.component (ComponentRequest.result_last id body)) accepted made made refl refl
      (faultless (Request.component (ComponentRequest.result_last id body)) accepted).1.1.1.1.0
  request-within (Request.component (ComponentRequest.result_more id body)) answer accepted within =
      let made = queued None (ComponentParts.result_more id body) in
      with-queued (Request.component (ComponentRequest.result_more id body)) accepted made made refl refl
      (faultless (Request.component (ComponentRequest.result_more id body)) accepted).1.1.1.1.0
  request-within (Request.component (ComponentRequest.error_back id code parameter)) answer accepted within =
      let made = queued None (ComponentParts.error_back id code parameter) in
      with-queued (Request.component (ComponentRequest.error_back id code parameter)) accepted made made refl refl
      (faultless (Request.component (ComponentRequest.error_back id code parameter)) accepted).1.1.1.1.0
  request-within (Request.component (ComponentRequest.u_reject id problem)) answer accepted within =
      let made = queued None (ComponentParts.reject_back id problem) in
      with-queued (Request.component (ComponentRequest.u_reject id problem)) accepted made made refl refl
      (faultless (Request.component (ComponentRequest.u_reject id problem)) accepted).1.1.0
  request-within (Request.component (ComponentRequest.u_cancel id)) answer accepted within =
      cancel-within queue_limit answer queue_here within
  request-within (Request.dialogue (DialogueRequest.uni to context info)) answer accepted within = empty-within
  request-within (Request.dialogue (DialogueRequest.begin to context info)) answer accepted within = empty-within
  request-within (Request.dialogue (DialogueRequest.go_on context info)) answer accepted within = empty-within
  request-within (Request.dialogue (DialogueRequest.finish Ending.basic context info)) answer accepted within =
      empty-within
  request-within (Request.dialogue (DialogueRequest.finish Ending.prearranged context info)) answer accepted within =
      within
  request-within (Request.dialogue (DialogueRequest.u_abort why info)) answer accepted within = within

  if_accepted-within : (request : Request) (answer : Answer) (accepted : Bool) → is_accepted answer ≡ accepted
      → answer ≡ reply h (Event.on_dialogue dialogue request) → IsWithin queue_limit queue_here
      → IsWithin queue_limit (queue_if_accepted accepted queue_here request answer)
  if_accepted-within request answer false e same within = within
  if_accepted-within request answer true e same within =
      request-within request answer (accepted-request h dialogue request (ap is_accepted (sym same) ∙ e)) within

-- ---- messages

verdict-within : (verdict : PortionVerdict) (queue : List Queued) (components : List Handled)
    → IsWithin queue_limit queue → IsWithin queue_limit (queue_by_verdict verdict queue components)
verdict-within (PortionVerdict.normal context info) queue components within =
    each-within queue_limit queue (rejects_of components) within
verdict-within PortionVerdict.abnormal queue components within = within

message-within : (dialogue : ℕ) (past : Past) (state : State) (context : Option (List ℕ)) (queue : List Queued)
    (read : Result Message FrameFault) → IsWithin queue_limit queue
    → IsWithin queue_limit (queue_by_message dialogue past (Life.standing state context) queue read)
message-within dialogue past state context queue (Ok (Message.go_on origin to portion components)) within =
    verdict-within (portion_verdict state context portion) queue (handled_in dialogue past components) within
message-within dialogue past state context queue (Ok (Message.unidirectional portion components)) within = within
message-within dialogue past state context queue (Ok (Message.begin origin portion components)) within = within
message-within dialogue past state context queue (Ok (Message.end to portion components)) within = within
message-within dialogue past state context queue (Ok (Message.abort to reason)) within = within
message-within dialogue past state context queue (Err fault) within = within

bytes-within : (dialogue : ℕ) (past : Past) (before : Life) (queue : List Queued) (bytes : List ℕ)
    → IsWithin queue_limit queue → IsWithin queue_limit (queue_by_bytes dialogue past before queue bytes)
bytes-within dialogue past Life.unborn queue bytes within = within
bytes-within dialogue past Life.over queue bytes within = within
bytes-within dialogue past (Life.standing state context) queue bytes within = go (is_live state)
  where
    go : (live : Bool) → IsWithin queue_limit (if live then queue_by_message dialogue past (Life.standing state context)
        queue (frame_at bytes) else queue)
    go true = message-within dialogue past state context queue (frame_at bytes) within
    go false = within

-- ---- births

birth-within : (dialogue : ℕ) (past : Past) (read : Result Message FrameFault)
    → IsWithin queue_limit (queue_at_birth dialogue past read)
birth-within dialogue past (Ok (Message.begin origin portion components)) =
    each-within queue_limit [] (rejects_of (handled_in dialogue past components)) (omega arith)
birth-within dialogue past (Ok (Message.unidirectional portion components)) = omega arith
birth-within dialogue past (Ok (Message.go_on origin to portion components)) = omega arith
birth-within dialogue past (Ok (Message.end to portion components)) = omega arith
birth-within dialogue past (Ok (Message.abort to reason)) = omega arith
birth-within dialogue past (Err fault) = omega arith

born-within : (dialogue : ℕ) (past : Past) (event : Event) → IsWithin queue_limit (queue_born dialogue past event)
born-within dialogue past Event.new_dialogue = omega arith
born-within dialogue past (Event.on_dialogue named request) = omega arith
born-within dialogue past (Event.received from bytes) = birth-within dialogue past (frame_at bytes)
born-within dialogue past (Event.moment now) = omega arith

-- ---- the queue

event-within : (h : History) (dialogue : ℕ) (event : Event) (answer : Answer) → names event dialogue ≡ true
    → answer ≡ reply h event → IsWithin queue_limit (queue dialogue h.pairs)
    → IsWithin queue_limit (queue_by_event dialogue h.pairs (queue dialogue h.pairs) event answer)
event-within h dialogue Event.new_dialogue answer named e within = within
event-within h dialogue (Event.on_dialogue asked request) answer named e within =
    let same : asked ≡ dialogue = (Decides-eqb asked dialogue).0 named in
    if_accepted-within h dialogue request answer (is_accepted answer) refl
    (e ∙ ap (λ d. reply h (Event.on_dialogue d request)) same) within
event-within h dialogue (Event.received from bytes) answer named e within =
    bytes-within dialogue h.pairs (life dialogue h.pairs) (queue dialogue h.pairs) bytes within
event-within h dialogue (Event.moment now) answer named e within = within

pub queues-bounded : (start : Start) (past : Past) → AreReplies start past → (dialogue : ℕ)
    → length (joined (queue dialogue past)) ≤ queue_limit
queues-bounded start [] legal dialogue = omega arith
queues-bounded start (pair ∷ past) legal dialogue =
    go (is_birth_of dialogue pair) (names pair.event dialogue) refl (queues-bounded start past legal.2 dialogue)
  where
    go : (born named : Bool) → names pair.event dialogue ≡ named → IsWithin queue_limit (queue dialogue past)
        → IsWithin queue_limit (if born then queue_born dialogue past pair.event else
        (if named then queue_by_event dialogue past (queue dialogue past) pair.event pair.answer else queue dialogue
        past))
    go true named e within = born-within dialogue past pair.event
    go false true e within =
        event-within (record { start = start; pairs = past }) dialogue pair.event pair.answer e legal.1 within
    go false false e within = within
