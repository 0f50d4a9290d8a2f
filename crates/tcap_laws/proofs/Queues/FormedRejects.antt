-- The Rejects that received components get: each is told as a local Reject, and it can be written.
use Rattle.std.proofs.Common.{◌≡◌, ℕ, ℤ, ◌≤◌, true, false, Bool, eqb, List, [], ◌∷◌, length, Option, Some, None, Ok, Err, if◌then◌else◌, refl, ap, subst, inl, inr, arith}
use Rattle.std.specs.List.{AllByRecursion}
use Rattle.std.specs.Option.{option_or}
use Rattle.std.specs.Ordering.{int_eq}
use Rattle.std.proofs.lemmas.Bool.{cases_Bool, and_parts, eqb-true}
use Rattle.ber_core.specs.Element.{Parts}
use Rattle.ber_core.specs.Written.{written_fields}
use Rattle.ber_core.proofs.CallerLemmas.{element_length-most, length-written as length-element}
use Rattle.ber_core.specs.Sequence.Field.{must}
use Rattle.tcap_component.specs.Problem.{ProblemParts, IsProblem, problem_tag}
use Rattle.tcap_component.specs.Component.{ComponentParts, rejected_field, IsIdentifierIfAny}
use Rattle.tcap_component.specs.Component.ComponentParts.{invoke, result_last, error_back, reject_back, result_more}
use Rattle.tcap_component.specs.ComponentFault.{FaultParts, IsComponentFault, TellsIdentifier}
use Rattle.tcap_component.specs.ComponentFault.IsComponentFault.{unreadable, unrecognized, unstructured, mistyped}
use Rattle.tcap_component.specs.Written.{written_component, CanWriteComponent}
use Rattle.tcap_model.specs.Procedures.ComponentHandling.{Item, SentInvocation, Handled, subject_of, handled}
use Rattle.tcap_model.specs.Invocations.Invocation.{Invocation, has_id, with_id, invoked_by, latest}
use Rattle.tcap_model.specs.Invocations.Outcome.{is_sent_in}
use Rattle.tcap_model.specs.Words.Output.{Output, Closing, Rejector, ComponentIndication}
use Rattle.tcap_model.specs.Histories.Pair.{Past}
use Rattle.tcap_model.specs.Replies.Queue.{handled_in}
use Rattle.tcap_laws.proofs.Receptions.EachComponent.{IsReadIn, each-handled}
use Rattle.tcap_laws.proofs.Receptions.HandledComponents.{identifier_of, ComesOf, comes_of}
use Rattle.tcap_model.specs.Invocations.SentThere.{if_sent, marks_up_to, sent_there}
use Rattle.tcap_model.specs.Statements.SentFrom.{IsLocalReject}

-- ---- the identifiers and problems of what was received

tells-id : (e : Parts) (id : Option ℤ) → TellsIdentifier e id → IsIdentifierIfAny id
tells-id e None tells = tt
tells-id e (Some id) tells = tells.is_identifier

-- what can't be read has an identifier in range, if any, and a problem
fault-formed : (bytes : List ℕ) (f : FaultParts) → IsComponentFault bytes f
    → IsIdentifierIfAny f.id × IsProblem f.problem
fault-formed _ _ (unreadable bytes none) = (tt, omega arith)
fault-formed _ _ (unrecognized e rest id is none tells) = (tells-id e id tells, omega arith)
fault-formed _ _ (unstructured e rest id is has none tells) = (tells-id e id tells, omega arith)
fault-formed _ _ (mistyped e rest id is has structured none tells) = (tells-id e id tells, omega arith)

identifier-read : (content : List ℕ) (item : Item) → IsReadIn content item → IsIdentifierIfAny (identifier_of item)
identifier-read content (Ok (invoke id linked code parameter)) read = read.in_range.0
identifier-read content (Ok (result_last id body)) read = read.in_range.0
identifier-read content (Ok (error_back id code parameter)) read = read.in_range.0
identifier-read content (Ok (reject_back id problem)) read = read.in_range.0
identifier-read content (Ok (result_more id body)) read = read.in_range.0
identifier-read content (Err f) read = (fault-formed read.0 f read.1).0

-- ---- the invocation that is Sent for an identifier is one of the dialogue

abbrev IsOfDialogue : ℕ → Option Invocation → Type 0
IsOfDialogue dialogue None = Unit {0}
IsOfDialogue dialogue (Some i) = i.dialogue ≡ dialogue

first-of : (dialogue : ℕ) (a b : Option Invocation) → IsOfDialogue dialogue a → IsOfDialogue dialogue b
    → IsOfDialogue dialogue (option_or a b)
first-of dialogue None b p q = q
first-of dialogue (Some i) b p q = p

with_id-of : (dialogue : ℕ) (id : ℤ) (i : Option Invocation) → IsOfDialogue dialogue (with_id dialogue id i)
with_id-of dialogue id None = tt
with_id-of dialogue id (Some i) = elim (cases_Bool (has_id dialogue id i)) [
  | inl has ↦ rw has (eqb-true i.dialogue dialogue (and_parts (eqb i.dialogue dialogue) (int_eq i.id id) has).0)
  | inr lacks ↦ rw lacks tt
]

latest-of : (dialogue : ℕ) (id : ℤ) (past : Past) → IsOfDialogue dialogue (latest dialogue id past)
latest-of dialogue id [] = tt
latest-of dialogue id (pair ∷ past) =
    first-of dialogue (with_id dialogue id (invoked_by pair)) (latest dialogue id past)
    (with_id-of dialogue id (invoked_by pair)) (latest-of dialogue id past)

abbrev pub IsSentOf : ℕ → Option SentInvocation → Type 0
IsSentOf dialogue None = Unit {0}
IsSentOf dialogue (Some sent) = sent.dialogue ≡ dialogue

if_sent-of : (dialogue : ℕ) (past : Past) (earlier : List Item) (i : Option Invocation) → IsOfDialogue dialogue i
    → IsSentOf dialogue (if_sent past earlier i)
if_sent-of dialogue past earlier None of = tt
if_sent-of dialogue past earlier (Some i) of =
    elim (cases_Bool (is_sent_in i.class i.timeout (marks_up_to past earlier i))) [
      | inl is ↦ rw is of
      | inr isnt ↦ rw isnt tt
    ]

pub sent_there-of : (dialogue : ℕ) (past : Past) (earlier : List Item) (id : Option ℤ)
    → IsSentOf dialogue (sent_there dialogue past earlier id)
sent_there-of dialogue past earlier None = tt
sent_there-of dialogue past earlier (Some id) =
    if_sent-of dialogue past earlier (latest dialogue id past) (latest-of dialogue id past)

-- ---- the Reject of a component

-- a Reject, if there is one, is told as a local Reject of the dialogue, and its numbers are in range
abbrev pub IsFormed : ℕ → Output → Option ComponentParts → Type 0
IsFormed dialogue told None = Unit {0}
IsFormed dialogue told (Some c) =
    (id : Option ℤ) × (problem : ProblemParts) × (c ≡ reject_back id problem) × IsLocalReject dialogue id problem told
    × IsIdentifierIfAny id × IsProblem problem

-- the same, of what comes of a component
abbrev pub HasFormed : ℕ → Handled → Type 0
HasFormed dialogue h = IsFormed dialogue h.told h.reject

carried-range : (content : List ℕ) (item : Item) (id : ℤ) → IsReadIn content item → identifier_of item ≡ Some id
    → IsIdentifierIfAny (Some id)
carried-range content item id read carries = subst IsIdentifierIfAny carries (identifier-read content item read)

of-fault : (dialogue : ℕ) (was_reject : Bool) (id : Option ℤ) (problem : ProblemParts)
    → IsIdentifierIfAny id × IsProblem problem
    → IsFormed dialogue (Output.component (ComponentIndication.local_reject (Some dialogue) id problem))
    (if was_reject then None else Some (reject_back id problem))
of-fault dialogue true id problem range = tt
of-fault dialogue false id problem range = (id, problem, refl, inl refl, range.0, range.1)

is-formed : (dialogue : ℕ) (content : List ℕ) (sent : Option SentInvocation) (item : Item) (h : Handled)
    → ComesOf (Some dialogue) sent item h → IsSentOf dialogue sent → IsReadIn content item → HasFormed dialogue h
is-formed dialogue content _ _ _ (ComesOf.an_invoke sent id linked code parameter) of read = tt
is-formed dialogue content _ _ _ (ComesOf.not_sent item id problem carries here) of read =
    (Some id, problem, refl, inl refl, carried-range content item id read carries, here.is_problem)
is-formed dialogue content _ _ _ (ComesOf.a_result_last sent id body) of read = tt
is-formed dialogue content _ _ _ (ComesOf.a_result_more sent id body) of read = tt
is-formed dialogue content _ _ _ (ComesOf.an_error sent id code parameter) of read = tt
is-formed dialogue content _ _ _ (ComesOf.unexpected sent item id problem carries here) of read =
    let how = Closing.rejected problem Rejector.local in
    let closed = λ (d : ℕ). Output.component (ComponentIndication.closed d sent.number id how) in
    let told = inr (sent.number, id, refl, ap closed of) in
    (Some id, problem, refl, told, carried-range content item id read carries, here.is_problem)
is-formed dialogue content _ _ _ (ComesOf.by_provider sent id problem kind provided) of read = tt
is-formed dialogue content _ _ _ (ComesOf.by_user sent id problem kind provided) of read = tt
is-formed dialogue content _ _ _ (ComesOf.of_none sent named id problem) of read = tt
is-formed dialogue content _ _ _ (ComesOf.of_fault sent f) of read =
    of-fault dialogue f.was_reject f.id f.problem (fault-formed read.0 f read.1)

pub handled_in-formed : (dialogue : ℕ) (past : Past) (content : List ℕ)
    → AllByRecursion (HasFormed dialogue) (handled_in dialogue past content)
handled_in-formed dialogue past content = each-handled dialogue past content (HasFormed dialogue) (λ earlier item read.
    let sent = sent_there dialogue past earlier (subject_of item) in
    is-formed dialogue content sent item (handled (Some dialogue) sent item) (comes_of (Some dialogue) sent item)
    (sent_there-of dialogue past earlier (subject_of item)) read)

-- ---- a Reject can be written

pub reject-short : (id : Option ℤ) (problem : ProblemParts)
    → length (written_component (reject_back id problem)) ≤ 65535
reject-short id problem =
    let contents = written_fields (rejected_field id ∷ must (problem_tag problem.kind) (problem.code ∷ []) ∷ []) in
    let all = length-element 0xa4 contents in
    let most = element_length-most (length contents) in
    let within = short id in
    omega (arith, all, most, within)
  where
    short : (id : Option ℤ) → length (written_fields
        (rejected_field id ∷ must (problem_tag problem.kind) (problem.code ∷ []) ∷ [])) ≤ 20
    short None = omega arith
    short (Some id) = omega arith

pub reject-can : (id : Option ℤ) (problem : ProblemParts) → CanWriteComponent (reject_back id problem)
reject-can id problem = record { has_code = tt; has_parameter = tt; is_short = reject-short id problem }
