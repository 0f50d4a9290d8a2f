-- The components that requests queue, and the Rejects of received ones, are octets.
use Rattle.std.proofs.Common.{◌≡◌, ℕ, ℤ, pos, negsuc, Bool, true, false, List, [], ◌∷◌, ◌++◌, map, flat_map, option_to_list, Option, Some, None, Ok, Err, if◌then◌else◌, sym, subst, arith}
use Rattle.std.specs.Prelude.{int_le}
use Rattle.std.specs.List.{AllByRecursion}
use Rattle.std.proofs.lemmas.Bool.{and_parts, leb-true}
use Rattle.ber_core.specs.Element.{Parts}
use Rattle.tcap_component.specs.Component.{CodeParts, BodyParts, ComponentParts, InRange as HasNumbers, IsIdentifier, IsIdentifierIfAny}
use Rattle.tcap_component.specs.Component.CodeParts.{local, global}
use Rattle.tcap_component.specs.Component.ComponentParts.{invoke, result_last, error_back, reject_back, result_more}
use Rattle.tcap_component.specs.ComponentFault.{FaultParts, TellsIdentifier, IsComponentFault}
use Rattle.tcap_component.specs.ComponentFault.IsComponentFault.{unreadable, unrecognized, unstructured, mistyped}
use Rattle.tcap_component.specs.ComponentList.{SpellsComponents, EndsIn, items}
use Rattle.tcap_component.specs.ComponentReading.{components_of}
use Rattle.tcap_component.specs.Problem.{ProblemParts, IsProblem, problem_limit, unexpected_error, unexpected_result, unrecognized_error, unrecognized_linked_id, unrecognized_result}
use Rattle.tcap_component.specs.Written.{written_component}
use Rattle.tcap_component.proofs.CallerLemmas.{first_fault_is}
use Rattle.tcap_invocation.specs.Class.{reports_success, reports_failure}
use Rattle.tcap_model.specs.Histories.Pair.{Past}
use Rattle.tcap_model.specs.Invocations.SentThere.{sent_there}
use Rattle.tcap_model.specs.Procedures.ComponentHandling.{Item, SentInvocation, Handled, handled, last_by, more_by, error_by, reject_by, subject_of}
use Rattle.tcap_model.specs.Procedures.ComponentRequest.{queued_for}
use Rattle.tcap_model.specs.Procedures.Problems.{is_of_answer}
use Rattle.tcap_model.specs.Procedures.QueueRules.{Queued, queued}
use Rattle.tcap_model.specs.Replies.Queue.{handled_after, handled_in, rejects_of}
use Rattle.tcap_model.specs.Words.InRange.{are_octets_if_any, is_body, is_code, is_identifier, is_identifier_if_any, is_request}
use Rattle.tcap_model.specs.Words.Request.{Request, ComponentRequest}
use Rattle.tcap_play.proofs.Octets.OctetLists.{Fine}
use Rattle.tcap_play.proofs.Octets.WrittenOctets.{FineIfAny, CodeFine, BodyFine, component-fine}

abbrev pub QueuedFine : Queued → Type 0
QueuedFine q = Fine q.octets

abbrev pub AllFine : List Queued → Type 0
AllFine waits = AllByRecursion QueuedFine waits

-- ---- requests

identifier-is : (id : ℤ) → is_identifier id ≡ true → IsIdentifier id
identifier-is (pos n) e =
    let within = leb-true n 127 (and_parts (int_le (negsuc 127) (pos n)) (int_le (pos n) (pos 127)) e).1 in
    record { sfits = omega (arith, within) }
identifier-is (negsuc n) e =
    let within = leb-true n 127 (and_parts (int_le (negsuc 127) (negsuc n)) (int_le (negsuc n) (pos 127)) e).0 in
    record { sfits = omega (arith, within) }

identifier-any : (id : Option ℤ) → is_identifier_if_any id ≡ true → IsIdentifierIfAny id
identifier-any None e = tt
identifier-any (Some id) e = identifier-is id e

code-is : (code : CodeParts) → is_code code ≡ true → CodeFine code
code-is (local (pos n)) e =
    let within = leb-true n 2147483647 (and_parts (int_le (negsuc 2147483647) (pos n)) (int_le (pos n) (pos 2147483647)) e).1 in
    record { sfits = omega (arith, within) }
code-is (local (negsuc n)) e =
    let within = leb-true n 2147483647 (and_parts (int_le (negsuc 2147483647) (negsuc n)) (int_le (negsuc n) (pos 2147483647)) e).0 in
    record { sfits = omega (arith, within) }
code-is (global octets) e = λ short. e

any-is : (parameter : Option (List ℕ)) → are_octets_if_any parameter ≡ true → FineIfAny parameter
any-is None e = tt
any-is (Some octets) e = λ short. e

body-is : (body : Option BodyParts) → is_body body ≡ true → BodyFine body
body-is None e = tt
body-is (Some body) e =
    let both = and_parts (is_code body.code) (are_octets_if_any body.parameter) e in
    (code-is body.code both.0, any-is body.parameter both.1)

pub request-queues : (number : ℕ) (request : Request) → is_request request ≡ true → AllFine (option_to_list (queued_for number request))
request-queues number (Request.component (ComponentRequest.invoke id class code parameter linked timeout)) e =
    let timed = and_parts _ _ e in
    let linked-to = and_parts _ _ timed.0 in
    let held = and_parts _ _ linked-to.0 in
    let coded = and_parts _ _ held.0 in (
      component-fine (invoke id linked code parameter)
          (identifier-is id coded.0, identifier-any linked linked-to.1, code-is code coded.1, any-is parameter held.1),
      tt,
    )
request-queues number (Request.component (ComponentRequest.result_last id body)) e =
    let both = and_parts _ _ e in (component-fine (result_last id body) (identifier-is id both.0, body-is body both.1), tt)
request-queues number (Request.component (ComponentRequest.result_more id body)) e =
    let both = and_parts _ _ e in (component-fine (result_more id body) (identifier-is id both.0, body-is body both.1), tt)
request-queues number (Request.component (ComponentRequest.error_back id code parameter)) e =
    let held = and_parts _ _ e in
    let coded = and_parts _ _ held.0 in
    (component-fine (error_back id code parameter) (identifier-is id coded.0, code-is code coded.1, any-is parameter held.1), tt)
request-queues number (Request.component (ComponentRequest.u_reject id problem)) e =
    let both = and_parts _ _ e in
    (component-fine (reject_back id problem) (identifier-any id both.0, leb-true problem.code problem_limit both.1), tt)
request-queues number (Request.component (ComponentRequest.u_cancel id)) e = tt
request-queues number (Request.dialogue asked) e = tt

-- ---- what was received

abbrev ItemFine : Item → Type 0
ItemFine (Ok c) = HasNumbers c
ItemFine (Err f) = IsIdentifierIfAny f.id × IsProblem f.problem

tells-id : (e : Parts) (id : Option ℤ) → TellsIdentifier e id → IsIdentifierIfAny id
tells-id e None tells = tt
tells-id e (Some id) tells = tells.is_identifier

fault-fine : (bytes : List ℕ) (f : FaultParts) → IsComponentFault bytes f → IsIdentifierIfAny f.id × IsProblem f.problem
fault-fine _ _ (unreadable bytes none) = (tt, omega arith)
fault-fine _ _ (unrecognized e rest id is none tells) = (tells-id e id tells, omega arith)
fault-fine _ _ (unstructured e rest id is has none tells) = (tells-id e id tells, omega arith)
fault-fine _ _ (mistyped e rest id is has structured none tells) = (tells-id e id tells, omega arith)

ends-fine : (f : Option FaultParts) (rest : List ℕ) → EndsIn f rest → AllByRecursion ItemFine (items [] f)
ends-fine None rest ends = tt
ends-fine (Some f) rest ends = (fault-fine rest f ends.1, tt)

items-fine : (cs : List ComponentParts) (fault : Option FaultParts) (front rest : List ℕ) → SpellsComponents cs front
    → EndsIn fault rest → AllByRecursion ItemFine (items cs fault)
items-fine [] fault front rest spelled ends = ends-fine fault rest ends
items-fine (c ∷ cs) fault front rest spelled ends =
    (spelled.2.is_component.in_range, items-fine cs fault spelled.1 rest spelled.4 ends)

components-fine : (content : List ℕ) → AllByRecursion ItemFine (components_of content)
components-fine content =
    let t = first_fault_is content in
    let first = t.2 in
    subst (λ (all : List Item). AllByRecursion ItemFine all) (sym t.3)
    (items-fine t.0 t.1 first.front first.rest first.spelled first.ends)

-- ---- the Rejects

abbrev RejectFine : Option ComponentParts → Type 0
RejectFine None = Unit {0}
RejectFine (Some c) = Fine (written_component c)

reject-fine : (id : ℤ) (problem : ProblemParts) → IsIdentifier id → IsProblem problem → RejectFine (Some (reject_back (Some id) problem))
reject-fine id problem is low = component-fine (reject_back (Some id) problem) (is, low)

fault_reject-fine : (was_reject : Bool) (id : Option ℤ) (problem : ProblemParts) → IsIdentifierIfAny id → IsProblem problem
    → RejectFine (if was_reject then None else Some (reject_back id problem))
fault_reject-fine true id problem is low = tt
fault_reject-fine false id problem is low = component-fine (reject_back id problem) (is, low)

last-fine : (sent : SentInvocation) (id : ℤ) (body : Option BodyParts) (reports : Bool) → IsIdentifier id
    → RejectFine (last_by sent id body reports).reject
last-fine sent id body true is = tt
last-fine sent id body false is = reject-fine id unexpected_result is (omega arith)

more-fine : (sent : SentInvocation) (id : ℤ) (body : Option BodyParts) (reports : Bool) → IsIdentifier id
    → RejectFine (more_by sent id body reports).reject
more-fine sent id body true is = tt
more-fine sent id body false is = reject-fine id unexpected_result is (omega arith)

error-fine : (sent : SentInvocation) (id : ℤ) (code : CodeParts) (parameter : Option (List ℕ)) (reports : Bool) → IsIdentifier id
    → RejectFine (error_by sent id code parameter reports).reject
error-fine sent id code parameter true is = tt
error-fine sent id code parameter false is = reject-fine id unexpected_error is (omega arith)

rejected-fine : (sent : SentInvocation) (id : ℤ) (problem : ProblemParts) (of_answer : Bool)
    → RejectFine (reject_by sent id problem of_answer).reject
rejected-fine sent id problem true = tt
rejected-fine sent id problem false = tt

handled-fine : (dialogue : Option ℕ) (sent : Option SentInvocation) (item : Item) → ItemFine item
    → RejectFine (handled dialogue sent item).reject
handled-fine dialogue sent (Ok (invoke id None code parameter)) fine = tt
handled-fine dialogue (Some sent) (Ok (invoke id (Some linked) code parameter)) fine = tt
handled-fine dialogue None (Ok (invoke id (Some linked) code parameter)) fine =
    reject-fine id unrecognized_linked_id fine.0 (omega arith)
handled-fine dialogue None (Ok (result_last id body)) fine = reject-fine id unrecognized_result fine.0 (omega arith)
handled-fine dialogue (Some sent) (Ok (result_last id body)) fine = last-fine sent id body (reports_success sent.class) fine.0
handled-fine dialogue None (Ok (result_more id body)) fine = reject-fine id unrecognized_result fine.0 (omega arith)
handled-fine dialogue (Some sent) (Ok (result_more id body)) fine = more-fine sent id body (reports_success sent.class) fine.0
handled-fine dialogue None (Ok (error_back id code parameter)) fine = reject-fine id unrecognized_error fine.0 (omega arith)
handled-fine dialogue (Some sent) (Ok (error_back id code parameter)) fine =
    error-fine sent id code parameter (reports_failure sent.class) fine.0
handled-fine dialogue sent (Ok (reject_back None problem)) fine = tt
handled-fine dialogue None (Ok (reject_back (Some id) problem)) fine = tt
handled-fine dialogue (Some sent) (Ok (reject_back (Some id) problem)) fine =
    rejected-fine sent id problem (is_of_answer problem.kind)
handled-fine dialogue sent (Err f) fine = fault_reject-fine f.was_reject f.id f.problem fine.0 fine.1

after-fine : (dialogue : ℕ) (past : Past) (earlier all : List Item) → AllByRecursion ItemFine all
    → AllByRecursion (λ (h : Handled). RejectFine h.reject) (handled_after dialogue past earlier all)
after-fine dialogue past earlier [] fine = tt
after-fine dialogue past earlier (item ∷ all) fine = (
  handled-fine (Some dialogue) (sent_there dialogue past earlier (subject_of item)) item fine.0,
  after-fine dialogue past (earlier ++ item ∷ []) all fine.1,
)

first-rejects : (reject : Option ComponentParts) (others : List ComponentParts) → RejectFine reject
    → AllFine (map (queued None) others)
    → AllFine (map (queued None) (option_to_list reject ++ others))
first-rejects None others fine rest = rest
first-rejects (Some c) others fine rest = (fine, rest)

rejects-fine : (hs : List Handled) → AllByRecursion (λ (h : Handled). RejectFine h.reject) hs → AllFine (rejects_of hs)
rejects-fine [] fine = tt
rejects-fine (h ∷ hs) fine =
    first-rejects h.reject (flat_map (λ (x : Handled). option_to_list x.reject) hs) fine.0 (rejects-fine hs fine.1)

pub received-rejects : (dialogue : ℕ) (past : Past) (components : List ℕ) → AllFine (rejects_of (handled_in dialogue past components))
received-rejects dialogue past components =
    rejects-fine (handled_in dialogue past components)
    (after-fine dialogue past [] (components_of components) (components-fine components))
