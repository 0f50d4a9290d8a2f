-- Each invocation of a legal history is found by its number, and the counter never passes its end.
use Rattle.std.proofs.Common.{◌≡◌, ℕ, zero, suc, ◌+◌, ◌<◌, ◌≤◌, true, false, Bool, eqb, List, [], ◌∷◌, map, find, get_or, length, Contains, nat_lt, Option, Some, None, is_some, option_map, if◌then◌else◌, refl, sym, ap, ◌∙◌, arith}
use Rattle.std.specs.List.{range_with_len}
use Rattle.std.proofs.lemmas.Bool.{eq-eqb, ne_eqb, eqb-false}
use Rattle.std.proofs.lemmas.List.{get_or-map}
use Rattle.std.proofs.lemmas.List.FromFn.{get_or-range_with_len}
use Rattle.tcap_model.specs.Words.Answer.{Answer}
use Rattle.tcap_model.specs.Histories.Clock.{clock}
use Rattle.tcap_model.specs.Replies.Due.{due, due_by, birth_due, standing_of, situation_of}
use Rattle.tcap_model.specs.Words.Event.{Event}
use Rattle.tcap_model.specs.Words.Fault.{Fault}
use Rattle.tcap_model.specs.Replies.Held.{pending}
use Rattle.tcap_model.specs.Histories.History.{History, Start}
use Rattle.tcap_model.specs.Words.Identifiers.{last_number, are_numbers_spent}
use Rattle.tcap_model.specs.Invocations.Invocation.{Invocation, invoked_by, invokes, invocations, invocation_of, next_number}
use Rattle.tcap_model.specs.Replies.Legal.{AreReplies}
use Rattle.tcap_model.specs.Histories.Life.{Life, life}
use Rattle.tcap_model.specs.Invocations.Numbers.{number_of}
use Rattle.tcap_model.specs.Histories.Pair.{Past}
use Rattle.tcap_model.specs.Procedures.Refusals.{holds, faults_of, due_on}
use Rattle.tcap_model.specs.Replies.Reply.{reply, birth_answer, request_answer, accepted_answer, given_up_answer, moment_answer, moment_outputs}
use Rattle.tcap_model.specs.Words.Request.{Request, ComponentRequest, DialogueRequest}
use Rattle.tcap_model.specs.Words.State.{State}
use Rattle.tcap_model.specs.Words.Time.{moment_fault}
use Rattle.tcap_laws.proofs.Receptions.NothingDue.{first_that-none}
use Rattle.tcap_laws.proofs.Births.DrawnNumbers.{number, pair-numbered, numbers-drawn, numbers-invocations, invokes-length}

-- ---- by its number

found-at : (xs : List Invocation) (a k : ℕ) (i : Invocation) → map number xs ≡ range_with_len a (length xs)
    → k < length xs → get_or xs k i ≡ i → find (λ (j : Invocation). eqb j.number i.number) xs ≡ Some i
found-at [] a k i e within at = absurd (omega arith)
found-at (x ∷ xs) a zero i e within at =
    rw (eq-eqb x.number i.number (ap number at)) (ap (λ (j : Invocation). Some j) at)
found-at (x ∷ xs) a (suc k) i e within at =
    let first : x.number ≡ a = cc in
    let others : map number xs ≡ range_with_len (a + 1) (length xs) = cc in
    let it : get_or (map number xs) k 0 ≡ i.number = get_or-map number xs k i 0 (omega arith) ∙ ap number at in
    let there = get_or-range_with_len (a + 1) (length xs) k 0 (omega arith) in
    let place : i.number ≡ a + 1 + k = sym it ∙ (ap (λ (ns : List ℕ). get_or ns k 0) others ∙ there) in
    rw (ne_eqb x.number i.number (λ same. omega (arith, first, place, same)))
    (found-at xs (a + 1) k i others (omega arith) at)

pub invocation_of-found : (start : Start) (past : Past) → AreReplies start past → (i : Invocation)
    → Contains (invocations past) i → invocation_of i.number past ≡ Some i
invocation_of-found start past legal i at =
    found-at (invocations past) start.next_number at.0 i
    (sym (numbers-invocations start past legal) ∙ (numbers-drawn start past legal
    ∙ ap (range_with_len start.next_number) (invokes-length past)))
    at.1 at.2

-- ---- the end of the numbers

accepted-unspent : (h : History) (dialogue : ℕ) (state : State) (context : Option (List ℕ)) (request : Request) (n : ℕ)
    → due_on (situation_of h dialogue (standing_of dialogue h.pairs state context) request) request ≡ None
    → number_of (accepted_answer h (standing_of dialogue h.pairs state context) request) ≡ Some n
    → are_numbers_spent (next_number h) ≡ false
accepted-unspent h dialogue state context (Request.component
    (ComponentRequest.invoke id class code parameter linked timeout)) n due e =
    let request : Request = Request.component (ComponentRequest.invoke id class code parameter linked timeout) in
    let none = first_that-none (holds (situation_of h dialogue (standing_of dialogue h.pairs state context) request)
    request) (faults_of request) due in
    none.1.1.1.1.1.0
accepted-unspent h dialogue state context (Request.component (ComponentRequest.result_last id body)) n due e = absurd cc
accepted-unspent h dialogue state context (Request.component (ComponentRequest.result_more id body)) n due e = absurd cc
accepted-unspent h dialogue state context (Request.component (ComponentRequest.error_back id code parameter)) n due e =
    absurd cc
accepted-unspent h dialogue state context (Request.component (ComponentRequest.u_reject id problem)) n due e = absurd cc
accepted-unspent h dialogue state context (Request.component (ComponentRequest.u_cancel id)) n due e =
    absurd (given_up-none (pending dialogue id h.pairs) n e)
  where
    given_up-none : (found : Option ℕ) (n : ℕ) → number_of (given_up_answer found) ≡ Some n → ⊥
    given_up-none None n e = cc
    given_up-none (Some m) n e = cc
accepted-unspent h dialogue state context (Request.dialogue (DialogueRequest.uni to context' info)) n due e = absurd cc
accepted-unspent h dialogue state context (Request.dialogue (DialogueRequest.begin to context' info)) n due e =
    absurd cc
accepted-unspent h dialogue state context (Request.dialogue (DialogueRequest.go_on context' info)) n due e = absurd cc
accepted-unspent h dialogue state context (Request.dialogue (DialogueRequest.finish ending context' info)) n due e =
    absurd cc
accepted-unspent h dialogue state context (Request.dialogue (DialogueRequest.u_abort why info)) n due e = absurd cc

request-unspent : (h : History) (dialogue : ℕ) (request : Request) (before : Life) (fault : Option Fault) (n : ℕ)
    → due_by h dialogue request before ≡ fault → number_of (request_answer h dialogue request before fault) ≡ Some n
    → are_numbers_spent (next_number h) ≡ false
request-unspent h dialogue request before (Some f) n due e = absurd cc
request-unspent h dialogue request Life.unborn None n due e = absurd cc
request-unspent h dialogue request Life.over None n due e = absurd cc
request-unspent h dialogue request (Life.standing state context) None n due e =
    accepted-unspent h dialogue state context request n due e

birth-none : (h : History) (fault : Option Fault) (n : ℕ) → number_of (birth_answer h fault) ≡ Some n → ⊥
birth-none h (Some f) n e = cc
birth-none h None n e = cc

moment-none : (idle_ms : ℕ) (past : Past) (now : ℕ) (fault : Option Fault) (n : ℕ)
    → number_of (moment_answer idle_ms past now fault) ≡ Some n → ⊥
moment-none idle_ms past now (Some f) n e = cc
moment-none idle_ms past now None n e = chosen (nat_lt now (clock past)) e
  where
    chosen : (early : Bool) → number_of (if early then Answer.outputs [] else Answer.outputs (moment_outputs idle_ms past now))
        ≡ Some n → ⊥
    chosen true e = cc
    chosen false e = cc

reply-unspent : (h : History) (event : Event) (n : ℕ) → number_of (reply h event) ≡ Some n
    → are_numbers_spent (next_number h) ≡ false
reply-unspent h Event.new_dialogue n e = absurd (birth-none h (birth_due h) n e)
reply-unspent h (Event.on_dialogue dialogue request) n e =
    request-unspent h dialogue request (life dialogue h.pairs) (due h dialogue request) n refl e
reply-unspent h (Event.received from bytes) n e = absurd cc
reply-unspent h (Event.moment now) n e = absurd (moment-none h.start.idle_ms h.pairs now (moment_fault now) n e)

number_counter-below : (a n : ℕ) (i : Option Invocation) (drawn : Option ℕ) → drawn ≡ option_map number i
    → ((m : ℕ) → drawn ≡ Some m → are_numbers_spent (a + n) ≡ false) → a + n ≤ last_number
    → a + (if is_some i then n + 1 else n) ≤ last_number
number_counter-below a n None drawn same unspent within = within
number_counter-below a n (Some i) drawn same unspent within =
    let apart = eqb-false (a + n) last_number (unspent i.number same) in
    omega arith

pub numbers-below : (start : Start) (past : Past) → AreReplies start past → start.next_number ≤ last_number
    → start.next_number + invokes past ≤ last_number
numbers-below start [] legal within = omega arith
numbers-below start (pair ∷ past) legal within =
    let numbered = pair-numbered start pair past legal in
    number_counter-below start.next_number (invokes past) (invoked_by pair) (number_of pair.answer) numbered.0
    (λ n e. reply-unspent (record { start = start; pairs = past }) pair.event n (ap number_of (sym legal.1) ∙ e))
    (numbers-below start past legal.2 within)
