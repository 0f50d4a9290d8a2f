-- A component, read from left to right: it and what follows it, or its fault.
use Rattle.std.specs.Prelude.{ℕ, zero, suc, ℤ, List, [], ◌∷◌, length, Bool, true, false, Option, Some, None, Result, Ok, Err, nat_lt, ◌==◌, is_ok, ok_or, if◌then◌else◌}
use Rattle.std.specs.List.{list_all}
use Rattle.ber_core.specs.declared.fault.BerFault.{BerFault}
use Rattle.ber_core.specs.Options.{◌>>=◌}
use Rattle.ber_core.specs.Tag.{is_constructor}
use Rattle.ber_core.specs.Element.{Parts, depth_limit}
use Rattle.ber_core.specs.ElementReading.{element_at}
use Rattle.ber_core.specs.Integer.{signed_octet, integer_at}
use Rattle.ber_core.specs.ListReading.{items_of}
use Rattle.ber_core.specs.ObjectIdentifier.{is_object_identifier}
use Rattle.ber_core.specs.SequenceReading.{tagged, content_at, first_whole, ending}
use Rattle.tcap_component.specs.declared.problem.Kind.{Kind}
use Rattle.tcap_component.specs.declared.problem.Kind.TheVariants as kind
use Rattle.tcap_component.specs.declared.component.Form.{Form}
use Rattle.tcap_component.specs.declared.component.Form.TheVariants as form
use Rattle.tcap_component.specs.Problem.{ProblemParts, problem_limit, problem_tag}
use Rattle.tcap_component.specs.Component.{CodeParts, BodyParts, ComponentParts}
use Rattle.tcap_component.specs.Component.CodeParts.{local, global}
use Rattle.tcap_component.specs.Component.ComponentParts.{invoke, result_last, error_back, reject_back, result_more}
use Rattle.tcap_component.specs.ComponentFault.{FaultParts, fault}

-- ---- the parts

-- A value, with what follows it (own).
abbrev pub with_rest : {A : Type 0} → A → List ℕ → A × List ℕ
with_rest x rest = (x, rest)

-- The identifier that one octet is (Q.773, Invoke ID).
unfoldable pub identifier_of : List ℕ → Option ℤ
identifier_of [] = None
identifier_of (b ∷ []) = if nat_lt b 0x100 then Some (signed_octet b) else None
identifier_of (b ∷ c ∷ more) = None

-- 02 with an identifier, and what follows it (Q.773, Invoke ID).
unfoldable pub identifier_at : List ℕ → Option (ℤ × List ℕ)
identifier_at bytes = content_at 0x02 bytes >>= (λ c. identifier_of c.0 >>= (λ id. Some (with_rest id c.1)))

-- An identifier that may be there (own).
abbrev pub some_identifier : List ℕ → List ℕ → Option (Option ℤ × List ℕ)
some_identifier content rest = identifier_of content >>= (λ id. Some (with_rest (Some id) rest))

-- What a linked identifier is, from the content of an 80 that may stand here (own).
abbrev pub linked_from : Option (List ℕ) → List ℕ → Option (Option ℤ × List ℕ)
linked_from None rest = Some (with_rest None rest)
linked_from (Some content) rest = some_identifier content rest

-- [80 linked identifier], and what follows it (Q.773, Linked ID).
unfoldable pub linked_at : List ℕ → Option (Option ℤ × List ℕ)
linked_at bytes = linked_from (tagged 0x80 bytes).0 (tagged 0x80 bytes).1

-- A global code from its contents octets (own).
abbrev pub global_from : List ℕ × List ℕ → Option (CodeParts × List ℕ)
global_from c = if is_object_identifier c.0 then Some (with_rest (global c.0) c.1) else None

-- A code, from the content of a 02 that may stand first in the bytes (own).
abbrev pub code_from : List ℕ → Option (List ℕ) → List ℕ → Option (CodeParts × List ℕ)
code_from bytes None rest = content_at 0x06 bytes >>= global_from
code_from bytes (Some content) rest = integer_at content >>= (λ number. Some (with_rest (local number) rest))

-- 02 with an integer or 06 with an object identifier, and what follows it
-- (Q.773, Operation Code; Q.773, Error Code).
unfoldable pub code_at : List ℕ → Option (CodeParts × List ℕ)
code_at bytes = code_from bytes (tagged 0x02 bytes).0 (tagged 0x02 bytes).1

-- A code and a parameter (own).
abbrev pub coded : CodeParts → Option (List ℕ) → BodyParts
coded code parameter = record { code = code; parameter = parameter }

-- Code, [parameter], and nothing after them (Q.773, Return Result component).
unfoldable pub body_at : List ℕ → Option BodyParts
body_at bytes = code_at bytes >>= (λ c. ending (coded c.0 (first_whole c.1).0) (first_whole c.1).1)

-- The body in a 30 that may be there (own).
abbrev pub body_in : Option (List ℕ) → Option (Option BodyParts)
body_in None = Some None
body_in (Some inner) = body_at inner >>= (λ body. Some (Some body))

-- An identifier and a body (own).
abbrev pub answered : ℤ → Option BodyParts → ℤ × Option BodyParts
answered id body = (id, body)

-- 02 identifier, [30], and nothing after them (Q.773, Return Result component).
unfoldable pub result_at : List ℕ → Option (ℤ × Option BodyParts)
result_at bytes = identifier_at bytes >>= (λ i. body_in (tagged 0x30 i.1).0 >>= (λ body. ending (answered i.0 body) (tagged 0x30 i.1).1))

-- No identifier, where 05 holds nothing (own).
abbrev pub null_from : List ℕ × List ℕ → Option (Option ℤ × List ℕ)
null_from c = if length c.0 == 0 then Some (with_rest None c.1) else None

-- A Reject's identifier, from the content of a 02 that may stand first in the bytes (own).
abbrev pub rejected_from : List ℕ → Option (List ℕ) → List ℕ → Option (Option ℤ × List ℕ)
rejected_from bytes None rest = content_at 0x05 bytes >>= null_from
rejected_from bytes (Some content) rest = some_identifier content rest

-- 02 identifier or 05 with nothing, and what follows it (Q.773, Reject component).
unfoldable pub rejected_at : List ℕ → Option (Option ℤ × List ℕ)
rejected_at bytes = rejected_from bytes (tagged 0x02 bytes).0 (tagged 0x02 bytes).1

-- The kind of problem that the first octet is the tag of (Q.773, Problem).
unfoldable pub problem_kind : List ℕ → Option Kind
problem_kind [] = None
problem_kind (b ∷ bytes) =
    if b == 0x80 then Some kind.General
    else if b == 0x81 then Some kind.Invoke
    else if b == 0x82 then Some kind.Result
    else if b == 0x83 then Some kind.Error
    else None

-- The code of a problem: one octet, at most 7F (Q.773, Problem; the limit is own).
unfoldable pub problem_code : List ℕ → Option ℕ
problem_code [] = None
problem_code (n ∷ []) = if nat_lt problem_limit n then None else Some n
problem_code (n ∷ m ∷ more) = None

-- A problem of this kind (own).
abbrev pub problem_of : Kind → ℕ → ProblemParts
problem_of k n = record { kind = k; code = n }

-- 80, 81, 82 or 83 with a problem's code, and nothing after it (Q.773, Problem).
unfoldable pub problem_at : List ℕ → Option ProblemParts
problem_at bytes = problem_kind bytes >>= (λ k. content_at (problem_tag k) bytes >>= (λ c. problem_code c.0 >>= (λ n. ending (problem_of k n) c.1)))

-- ---- the components

-- Invoke: 02 identifier, [80 linked identifier], code, [parameter] (Q.773, Invoke component).
unfoldable pub invoke_at : List ℕ → Option ComponentParts
invoke_at bytes = identifier_at bytes >>= (λ i. linked_at i.1 >>= (λ l. body_at l.1 >>= (λ b. Some (invoke i.0 l.0 b.code b.parameter))))

-- Return Result Last (Q.773, Return Result component).
unfoldable pub result_last_at : List ℕ → Option ComponentParts
result_last_at bytes = result_at bytes >>= (λ r. Some (result_last r.0 r.1))

-- Return Error: 02 identifier, code, [parameter] (Q.773, Return Error component).
unfoldable pub error_at : List ℕ → Option ComponentParts
error_at bytes = identifier_at bytes >>= (λ i. body_at i.1 >>= (λ b. Some (error_back i.0 b.code b.parameter)))

-- Reject: 02 identifier or 05, then the problem (Q.773, Reject component).
unfoldable pub reject_at : List ℕ → Option ComponentParts
reject_at bytes = rejected_at bytes >>= (λ i. problem_at i.1 >>= (λ p. Some (reject_back i.0 p)))

-- Return Result Not Last (Q.773, Return Result component).
unfoldable pub result_more_at : List ℕ → Option ComponentParts
result_more_at bytes = result_at bytes >>= (λ r. Some (result_more r.0 r.1))

-- The component that the contents are, by its form (Q.773, Component portion).
abbrev pub contents_at : Form → List ℕ → Option ComponentParts
contents_at form.Invoke bytes = invoke_at bytes
contents_at form.ResultLast bytes = result_last_at bytes
contents_at form.ErrorBack bytes = error_at bytes
contents_at form.RejectBack bytes = reject_at bytes
contents_at form.ResultMore bytes = result_more_at bytes

-- ---- the faults

-- The form of component that a tag names (Q.773, Component Type Tag).
unfoldable pub form_at : List ℕ → Option Form
form_at [] = None
form_at (n ∷ []) =
    if n == 0xa1 then Some form.Invoke
    else if n == 0xa2 then Some form.ResultLast
    else if n == 0xa3 then Some form.ErrorBack
    else if n == 0xa4 then Some form.RejectBack
    else if n == 0xa7 then Some form.ResultMore
    else None
form_at (n ∷ m ∷ more) = None

-- Whether the form is a result (Q.773, Return Result component).
abbrev pub is_result : Form → Bool
is_result form.Invoke = false
is_result form.ResultLast = true
is_result form.ErrorBack = false
is_result form.RejectBack = false
is_result form.ResultMore = true

-- Whether bytes that may be there are a list of elements (own).
abbrev pub listed_if_any : Option (List ℕ) → Bool
listed_if_any None = true
listed_if_any (Some bytes) = list_all is_ok (items_of bytes)

-- Whether a 30 that stands second holds a list of elements (own).
unfoldable pub second_is_listed : List ℕ → Bool
second_is_listed content = listed_if_any (tagged 0x30 (first_whole content).1).0

-- Whether the contents are a list of elements, and so those of a 30 that stands second in a result
-- (own).
unfoldable pub is_structured : Form → List ℕ → Bool
is_structured f content =
    if list_all is_ok (items_of content) then (if is_result f then second_is_listed content else true) else false

-- The component that an element is, or the code of the general problem (own).
abbrev pub verdict_by : Option Form → List ℕ → Result ComponentParts ℕ
verdict_by None content = Err 0
verdict_by (Some f) content = if is_structured f content then ok_or (contents_at f content) 1 else Err 2

-- The identifier in the content of a 02 that may be there (own).
abbrev pub identifier_if_any : Option (List ℕ) → Option ℤ
identifier_if_any None = None
identifier_if_any (Some content) = identifier_of content

-- The identifier that a constructed element begins with (own).
unfoldable pub front_identifier : Parts → Option ℤ
front_identifier e = if is_constructor e.tag then identifier_if_any (tagged 0x02 e.content).0 else None

-- The component that was read and what follows it, or the fault (own).
abbrev pub judged : List ℕ → Parts × List ℕ → Result ComponentParts ℕ → Result (ComponentParts × List ℕ) FaultParts
judged bytes r (Ok c) = Ok (with_rest c r.1)
judged bytes r (Err code) = Err (fault code (front_identifier r.0) bytes)

-- The component that bytes begin with, or its fault, from the element that was read (own).
abbrev pub component_from : List ℕ → Result (Parts × List ℕ) BerFault → Result (ComponentParts × List ℕ) FaultParts
component_from bytes (Err f) = Err (fault 2 None bytes)
component_from bytes (Ok r) = judged bytes r (verdict_by (form_at r.0.tag) r.0.content)

-- The first component and what follows it, or its fault (Q.773, Component portion).
unfoldable pub component_at : List ℕ → Result (ComponentParts × List ℕ) FaultParts
component_at bytes = component_from bytes (element_at depth_limit bytes)

-- ---- the list

-- The component that was read and those that follow it, or the fault and nothing more (own).
abbrev pub components_from : (List ℕ → List (Result ComponentParts FaultParts)) → Result (ComponentParts × List ℕ) FaultParts → List (Result ComponentParts FaultParts)
components_from others (Ok r) = Ok r.0 ∷ others r.1
components_from others (Err f) = Err f ∷ []

-- The components up to the first fault, and that fault; at most n of them (own).
unfoldable pub components_by : ℕ → List ℕ → List (Result ComponentParts FaultParts)
components_by n [] = []
components_by zero (b ∷ bytes) = []
components_by (suc n) (b ∷ bytes) = components_from (components_by n) (component_at (b ∷ bytes))

-- The components up to the first fault, and that fault (Q.773, Component portion).
abbrev pub components_of : List ℕ → List (Result ComponentParts FaultParts)
components_of content = components_by (length content) content

-- The item that was read, and what is left behind it (own).
abbrev pub item_of : Result (ComponentParts × List ℕ) FaultParts → Option (Result ComponentParts FaultParts) × List ℕ
item_of (Ok r) = (Some (Ok r.0), r.1)
item_of (Err f) = (Some (Err f), [])

-- Nothing is left (own).
abbrev pub no_item : Option (Result ComponentParts FaultParts) × List ℕ
no_item = (None, [])

-- The first item, and what is left behind it: after a fault, nothing (own).
unfoldable pub item_at : List ℕ → Option (Result ComponentParts FaultParts) × List ℕ
item_at bytes = if length bytes == 0 then no_item else item_of (component_at bytes)
