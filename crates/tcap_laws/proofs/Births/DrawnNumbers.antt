-- The numbers that answers carry: each goes to an Invoke, and is the next one.
use Rattle.std.proofs.Common.{◌≡◌, ℕ, ◌+◌, ◌<◌, true, false, Bool, List, [], ◌∷◌, ◌++◌, map, length, AllPairs, nat_lt, Option, Some, None, is_some, option_map, option_to_list, if◌then◌else◌, refl, sym, ap, ap₂, subst, ◌∙◌, inl, inr, arith, append-nil, length-append}
use Rattle.std.specs.List.{range_with_len}
use Rattle.std.proofs.lemmas.List.{map-append}
use Rattle.tcap_model.specs.Words.Answer.{Answer}
use Rattle.tcap_model.specs.Histories.Clock.{clock}
use Rattle.tcap_model.specs.Replies.Due.{due, birth_due, standing_of}
use Rattle.tcap_model.specs.Words.Event.{Event}
use Rattle.tcap_model.specs.Words.Fault.{Fault}
use Rattle.tcap_model.specs.Replies.Held.{pending}
use Rattle.tcap_model.specs.Histories.History.{History, Start}
use Rattle.tcap_model.specs.Invocations.Invocation.{Invocation, invoked_of, invoked_by, invokes, invocations, next_number}
use Rattle.tcap_model.specs.Replies.Legal.{AreReplies}
use Rattle.tcap_model.specs.Histories.Life.{Life, life}
use Rattle.tcap_model.specs.Invocations.Numbers.{number_of, numbers}
use Rattle.tcap_model.specs.Histories.Pair.{Pair, Past}
use Rattle.tcap_model.specs.Replies.Reply.{reply, birth_answer, request_answer, accepted_answer, given_up_answer, moment_answer, moment_outputs}
use Rattle.tcap_model.specs.Words.Request.{Request, ComponentRequest, DialogueRequest}
use Rattle.tcap_model.specs.Procedures.Standing.{Standing}
use Rattle.tcap_model.specs.Words.Time.{moment_fault}
use Rattle.tcap_laws.proofs.Births.DrawnCounters.{IsDrawnNext, drawn-step, range-rises}

abbrev pub number : Invocation → ℕ
number i = i.number

-- the number that an answer carries is that of the invocation, and the next one
abbrev pub IsNumbered : ℕ → Event → Answer → Type 0
IsNumbered next event answer =
    (number_of answer ≡ option_map number (invoked_of event answer)) × IsDrawnNext next (number_of answer)

-- ---- the answers

birth-numbered : (h : History) (fault : Option Fault)
    → IsNumbered (next_number h) Event.new_dialogue (birth_answer h fault)
birth-numbered h (Some f) = (refl, inl refl)
birth-numbered h None = (refl, inl refl)

given_up-numbered : (next dialogue : ℕ) (request : Request) (number : Option ℕ)
    → IsNumbered next (Event.on_dialogue dialogue request) (given_up_answer number)
given_up-numbered next dialogue request None = (refl, inl refl)
given_up-numbered next dialogue request (Some n) = (refl, inl refl)

accepted-numbered : (h : History) (dialogue : ℕ) (d : Standing) (request : Request)
    → IsNumbered (next_number h) (Event.on_dialogue dialogue request) (accepted_answer h d request)
accepted-numbered h dialogue d (Request.component (ComponentRequest.invoke id class code parameter linked timeout)) =
    (refl, inr refl)
accepted-numbered h dialogue d (Request.component (ComponentRequest.result_last id body)) = (refl, inl refl)
accepted-numbered h dialogue d (Request.component (ComponentRequest.result_more id body)) = (refl, inl refl)
accepted-numbered h dialogue d (Request.component (ComponentRequest.error_back id code parameter)) = (refl, inl refl)
accepted-numbered h dialogue d (Request.component (ComponentRequest.u_reject id problem)) = (refl, inl refl)
accepted-numbered h dialogue d (Request.component (ComponentRequest.u_cancel id)) =
    given_up-numbered (next_number h) dialogue (Request.component (ComponentRequest.u_cancel id))
    (pending d.identifier id h.pairs)
accepted-numbered h dialogue d (Request.dialogue (DialogueRequest.uni to context info)) = (refl, inl refl)
accepted-numbered h dialogue d (Request.dialogue (DialogueRequest.begin to context info)) = (refl, inl refl)
accepted-numbered h dialogue d (Request.dialogue (DialogueRequest.go_on context info)) = (refl, inl refl)
accepted-numbered h dialogue d (Request.dialogue (DialogueRequest.finish ending context info)) = (refl, inl refl)
accepted-numbered h dialogue d (Request.dialogue (DialogueRequest.u_abort why info)) = (refl, inl refl)

request-numbered : (h : History) (dialogue : ℕ) (request : Request) (before : Life) (fault : Option Fault)
    → IsNumbered (next_number h) (Event.on_dialogue dialogue request) (request_answer h dialogue request before fault)
request-numbered h dialogue request before (Some f) = (refl, inl refl)
request-numbered h dialogue request Life.unborn None = (refl, inl refl)
request-numbered h dialogue request Life.over None = (refl, inl refl)
request-numbered h dialogue request (Life.standing state context) None =
    accepted-numbered h dialogue (standing_of dialogue h.pairs state context) request

moment-numbered : (next idle_ms : ℕ) (past : Past) (now : ℕ) (fault : Option Fault)
    → IsNumbered next (Event.moment now) (moment_answer idle_ms past now fault)
moment-numbered next idle_ms past now (Some f) = (refl, inl refl)
moment-numbered next idle_ms past now None = chosen (nat_lt now (clock past))
  where
    chosen : (early : Bool) → IsNumbered next (Event.moment now)
        (if early then Answer.outputs [] else Answer.outputs (moment_outputs idle_ms past now))
    chosen true = (refl, inl refl)
    chosen false = (refl, inl refl)

pub reply-numbered : (h : History) (event : Event) → IsNumbered (next_number h) event (reply h event)
reply-numbered h Event.new_dialogue = birth-numbered h (birth_due h)
reply-numbered h (Event.on_dialogue dialogue request) =
    request-numbered h dialogue request (life dialogue h.pairs) (due h dialogue request)
reply-numbered h (Event.received from bytes) = (refl, inl refl)
reply-numbered h (Event.moment now) = moment-numbered (next_number h) h.start.idle_ms h.pairs now (moment_fault now)

-- ---- legal histories

pub pair-numbered : (start : Start) (pair : Pair) (past : Past) → AreReplies start (pair ∷ past)
    → IsNumbered (start.next_number + invokes past) pair.event pair.answer
pair-numbered start pair past legal =
    subst (λ (answer : Answer). IsNumbered (start.next_number + invokes past) pair.event answer) (sym legal.1)
    (reply-numbered (record { start = start; pairs = past }) pair.event)

same-some : (i : Option Invocation) → is_some i ≡ is_some (option_map number i)
same-some None = refl
same-some (Some i) = refl

pub numbers-drawn : (start : Start) (past : Past) → AreReplies start past
    → numbers past ≡ range_with_len start.next_number (invokes past)
numbers-drawn start [] legal = refl
numbers-drawn start (pair ∷ past) legal =
    let numbered = pair-numbered start pair past legal in
    ap (λ (ns : List ℕ). ns ++ option_to_list (number_of pair.answer)) (numbers-drawn start past legal.2)
    ∙ drawn-step start.next_number (invokes past) (number_of pair.answer) (is_some (invoked_by pair))
    (same-some (invoked_by pair) ∙ ap is_some (sym numbered.0)) numbered.1

listed : (i : Option Invocation) → option_to_list (option_map number i) ≡ map number (option_to_list i)
listed None = refl
listed (Some i) = refl

pub numbers-invocations : (start : Start) (past : Past) → AreReplies start past
    → numbers past ≡ map number (invocations past)
numbers-invocations start [] legal = refl
numbers-invocations start (pair ∷ past) legal =
    let numbered = pair-numbered start pair past legal in
    ap₂ ◌++◌ (numbers-invocations start past legal.2) (ap option_to_list numbered.0 ∙ listed (invoked_by pair))
    ∙ sym (map-append number (invocations past) (option_to_list (invoked_by pair)))

counted-by : (n : ℕ) (i : Option Invocation) (xs : List Invocation) → n ≡ length xs
    → (if is_some i then n + 1 else n) ≡ length (xs ++ option_to_list i)
counted-by n None xs e = e ∙ sym (ap length (append-nil xs))
counted-by n (Some i) xs e = let a = length-append xs (i ∷ []) in omega (arith, a, e)

pub invokes-length : (past : Past) → invokes past ≡ length (invocations past)
invokes-length [] = refl
invokes-length (pair ∷ past) = counted-by (invokes past) (invoked_by pair) (invocations past) (invokes-length past)

pub numbers-rise : (start : Start) (past : Past) → AreReplies start past → AllPairs (λ m n. m < n) (numbers past)
numbers-rise start past legal =
    subst (λ (ns : List ℕ). AllPairs (λ m n. m < n) ns) (sym (numbers-drawn start past legal))
    (range-rises start.next_number (invokes past))

pub number-next : (h : History) (event : Event) (n : ℕ) → number_of (reply h event) ≡ Some n → n ≡ next_number h
number-next h event n e = next (number_of (reply h event)) (reply-numbered h event).1 e
  where
    next : (drawn : Option ℕ) → IsDrawnNext (next_number h) drawn → drawn ≡ Some n → n ≡ next_number h
    next drawn (inl none) e = absurd cc
    next drawn (inr some) e = cc
