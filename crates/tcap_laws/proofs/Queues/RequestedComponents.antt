-- The component of an accepted request is one, and it can be written.
use Rattle.std.proofs.Common.{◌≡◌, ℕ, ℤ, ◌+◌, ◌≤◌, pos, negsuc, true, false, List, length, Option, Some, None, refl, subst, IsTrue, arith}
use Rattle.std.specs.Prelude.{int_le}
use Rattle.std.proofs.lemmas.Bool.{and_parts, or_parts, leb-true, le-ltb}
use Rattle.tcap_component.specs.Problem.{problem_limit}
use Rattle.tcap_component.specs.Component.{ComponentParts, CodeParts, BodyParts, IsIdentifier, IsIdentifierIfAny, IsCode, IsBody, InRange}
use Rattle.tcap_component.specs.Component.CodeParts.{local, global}
use Rattle.tcap_component.specs.Component.ComponentParts.{invoke, result_last, error_back, reject_back, result_more}
use Rattle.tcap_component.specs.Written.{coded_part, written_component, HasCode, CanCode, CanWriteComponent, has_code, has_parameter, write_fault}
use Rattle.tcap_component.proofs.CallerLemmas.{Judged, write_fault-judged}
use Rattle.tcap_model.specs.Procedures.ComponentRequest.{component_of, invoking_of, queued_for}
use Rattle.tcap_model.specs.Words.Fault.{Fault}
use Rattle.tcap_model.specs.Words.InRange.{is_identifier, is_identifier_if_any, is_code, is_body, is_request}
use Rattle.tcap_model.specs.Procedures.QueueRules.{Invoking, Queued, queued, joined}
use Rattle.tcap_model.specs.Procedures.Refusals.{Situation, can_name, can_code, can_hold, context_given, information_given, has_bad_oid, has_bad_parameter, passes_queue, passes_message, holds, faults_of, due_on}
use Rattle.tcap_model.specs.Words.Request.{Request, ComponentRequest, DialogueRequest}
use Rattle.tcap_model.specs.Procedures.RequestMessage.{message_of}
use Rattle.tcap_pdu.specs.DialoguePartsReading.{is_information}
use Rattle.tcap_laws.proofs.Receptions.NothingDue.{first_that-none}
use Rattle.tcap_laws.proofs.BoolLemmas.{if_not_false}

-- ---- the numbers

identifier-is : (id : ℤ) → is_identifier id ≡ true → IsIdentifier id
identifier-is (pos n) e = let within =
    leb-true n 127 (and_parts (int_le (negsuc 127) (pos n)) (int_le (pos n) (pos 127)) e).1 in
    record { sfits = omega (arith, within) }
identifier-is (negsuc n) e = let within =
    leb-true n 127 (and_parts (int_le (negsuc 127) (negsuc n)) (int_le (negsuc n) (pos 127)) e).0 in
    record { sfits = omega (arith, within) }

identifier-any : (id : Option ℤ) → is_identifier_if_any id ≡ true → IsIdentifierIfAny id
identifier-any None e = tt
identifier-any (Some id) e = identifier-is id e

code-is : (code : CodeParts) → is_code code ≡ true → CanCode code → IsCode code
code-is (local (pos n)) e can = let within =
    leb-true n 2147483647 (and_parts (int_le (negsuc 2147483647) (pos n)) (int_le (pos n) (pos 2147483647)) e).1 in
    record { sfits = omega (arith, within) }
code-is (local (negsuc n)) e can = let within =
    leb-true n 2147483647 (and_parts (int_le (negsuc 2147483647) (negsuc n)) (int_le (negsuc n) (pos 2147483647)) e).0
    in record { sfits = omega (arith, within) }
code-is (global octets) e can = can

body-is : (body : Option BodyParts) → is_body body ≡ true → HasCode body → IsBody body
body-is None e can = tt
body-is (Some body) e can = code-is body.code (and_parts _ _ e).0 can

-- the component of a request whose numbers are in range
abbrev IsInRange : Option ComponentParts → Type 0
IsInRange None = Unit {0}
IsInRange (Some c) = HasCode (coded_part c) → InRange c

request-range : (request : Request) → is_request request ≡ true → IsInRange (component_of request)
request-range (Request.component (ComponentRequest.invoke id class code parameter linked timeout)) e = λ can.
    let timed = and_parts _ _ e in
    let linked-to = and_parts _ _ timed.0 in
    let held = and_parts _ _ linked-to.0 in
    let coded = and_parts _ _ held.0 in
    (identifier-is id coded.0, identifier-any linked linked-to.1, code-is code coded.1 can)
request-range (Request.component (ComponentRequest.result_last id body)) e = λ can. let both =
    and_parts _ _ e in (identifier-is id both.0, body-is body both.1 can)
request-range (Request.component (ComponentRequest.result_more id body)) e = λ can. let both =
    and_parts _ _ e in (identifier-is id both.0, body-is body both.1 can)
request-range (Request.component (ComponentRequest.error_back id code parameter)) e = λ can.
    let held = and_parts _ _ e in
    let coded = and_parts _ _ held.0 in
    (identifier-is id coded.0, code-is code coded.1 can)
request-range (Request.component (ComponentRequest.u_reject id problem)) e = λ can. let both =
    and_parts _ _ e in (identifier-any id both.0, leb-true problem.code problem_limit both.1)
request-range (Request.component (ComponentRequest.u_cancel id)) e = tt
request-range (Request.dialogue asked) e = tt

-- ---- no fault is due

code-can : (request : Request) → has_bad_oid request ≡ false → can_code (component_of request) ≡ true
code-can request e =
    (and_parts (can_name (context_given request)) (can_code (component_of request)) (if_not_false _ e)).1

parameter-can : (request : Request) → has_bad_parameter request ≡ false → can_hold (component_of request) ≡ true
parameter-can request e =
    (and_parts (is_information (information_given request)) (can_hold (component_of request)) (if_not_false _ e)).1

-- a component that fits into a queue is short
queued-short : (limit : ℕ) (queue : List Queued) (invoking : Option Invoking) (c : ComponentParts) → limit ≤ 65535
    → passes_queue limit queue (Some (queued invoking c)) ≡ false → length (written_component c) ≤ 65535
queued-short limit queue invoking c within e =
    let fit = leb-true (length (joined queue) + length (written_component c)) limit (if_not_false _ e) in
    omega (arith, within, fit)

no-fault : (c : ComponentParts) → has_code (coded_part c) ≡ true → has_parameter (coded_part c) ≡ true
    → length (written_component c) ≤ 65535 → write_fault c ≡ None
unfolding write_fault
no-fault c coded held short = rw (coded, held, le-ltb 65535 (length (written_component c)) short) refl

can-be : (c : ComponentParts) → has_code (coded_part c) ≡ true → has_parameter (coded_part c) ≡ true
    → length (written_component c) ≤ 65535 → CanWriteComponent c
can-be c coded held short = subst (Judged c) (no-fault c coded held short) (write_fault-judged c)

-- the component of a request, if it has one, can be written
abbrev IfCan : Option ComponentParts → Type 0
IfCan None = Unit {0}
IfCan (Some c) = CanWriteComponent c

module _ (s : Situation) (within : s.limit ≤ 65535) where
  in-queue : (request : Request) → holds s request Fault.too_long ≡ false
      → passes_queue s.limit s.standing.queue (queued_for s.number request) ≡ false
  in-queue request e =
      (or_parts (passes_queue s.limit s.standing.queue (queued_for s.number request))
      (passes_message (message_of s.standing request)) e).0

  request-can : (request : Request) → due_on s request ≡ None → IfCan (component_of request)
  request-can (Request.component (ComponentRequest.invoke id class code parameter linked timeout)) due =
      let r : Request = Request.component (ComponentRequest.invoke id class code parameter linked timeout) in
      let none = first_that-none (holds s r) (faults_of r) due in
      can-be (invoke id linked code parameter) (code-can r none.1.1.0) (parameter-can r none.1.1.1.0)
      (queued-short s.limit s.standing.queue (invoking_of s.number r) (invoke id linked code parameter) within
      (in-queue r none.1.1.1.1.1.1.0))
  request-can (Request.component (ComponentRequest.result_last id body)) due =
      let r : Request = Request.component (ComponentRequest.result_last id body) in
      let none = first_that-none (holds s r) (faults_of r) due in
      can-be (result_last id body) (code-can r none.1.1.0) (parameter-can r none.1.1.1.0)
      (queued-short s.limit s.standing.queue None (result_last id body) within (in-queue r none.1.1.1.1.0))
  request-can (Request.component (ComponentRequest.result_more id body)) due =
      let r : Request = Request.component (ComponentRequest.result_more id body) in
      let none = first_that-none (holds s r) (faults_of r) due in
      can-be (result_more id body) (code-can r none.1.1.0) (parameter-can r none.1.1.1.0)
      (queued-short s.limit s.standing.queue None (result_more id body) within (in-queue r none.1.1.1.1.0))
  request-can (Request.component (ComponentRequest.error_back id code parameter)) due =
      let r : Request = Request.component (ComponentRequest.error_back id code parameter) in
      let none = first_that-none (holds s r) (faults_of r) due in
      can-be (error_back id code parameter) (code-can r none.1.1.0) (parameter-can r none.1.1.1.0)
      (queued-short s.limit s.standing.queue None (error_back id code parameter) within (in-queue r none.1.1.1.1.0))
  request-can (Request.component (ComponentRequest.u_reject id problem)) due =
      let r : Request = Request.component (ComponentRequest.u_reject id problem) in
      let none = first_that-none (holds s r) (faults_of r) due in
      record {
        has_code = tt;
        has_parameter = tt;
        is_short = queued-short s.limit s.standing.queue None (reject_back id problem) within (in-queue r none.1.1.0);
      }
  request-can (Request.component (ComponentRequest.u_cancel id)) due = tt
  request-can (Request.dialogue (DialogueRequest.uni to context info)) due = tt
  request-can (Request.dialogue (DialogueRequest.begin to context info)) due = tt
  request-can (Request.dialogue (DialogueRequest.go_on context info)) due = tt
  request-can (Request.dialogue (DialogueRequest.finish ending context info)) due = tt
  request-can (Request.dialogue (DialogueRequest.u_abort why info)) due = tt

-- it is one, and it can be written
abbrev pub IfGood : Option ComponentParts → Type 0
IfGood None = Unit {0}
IfGood (Some c) = InRange c × CanWriteComponent c

good : (c : Option ComponentParts) → IsInRange c → IfCan c → IfGood c
good None range can = tt
good (Some c) range can = (range can.has_code, can)

pub request-good : (s : Situation) (request : Request) → s.limit ≤ 65535 → IsTrue (is_request request)
    → due_on s request ≡ None → IfGood (component_of request)
request-good s request within is due =
    good (component_of request) (request-range request is) (request-can s within request due)
