-- A component names no more octets than were read for it.
use Rattle.std.proofs.Common.{◌≡◌, ℕ, zero, suc, ◌+◌, ◌≤◌, ℤ, Bool, true, false, cond, List, [], ◌∷◌, ◌++◌, length, Option, Some, None, Ok, Err, Result, refl, ap, subst, arith, inl, inr, length-append}
use Rattle.std.specs.Prelude.{ok_or}
use Rattle.ber_core.specs.declared.fault.BerFault.{BerFault}
use Rattle.ber_core.specs.Options.{◌>>=◌}
use Rattle.ber_core.specs.Element.{Parts, IsDefinite, IsIndefinite, IsElement}
use Rattle.ber_core.specs.ElementReading.{element_at}
use Rattle.ber_core.specs.Integer.{integer_at}
use Rattle.ber_core.specs.ObjectIdentifier.{is_object_identifier}
use Rattle.ber_core.specs.SequenceReading.{is_tag, tagged_of, tagged, content_at, whole_of, first_whole, ending}
use Rattle.ber_core.proofs.CallerLemmas.{some, some_is, bind_some, test_some, ending-is, content_at-is, read_is, not_read, element_takes}
use Rattle.tcap_component.specs.declared.component.Form.{Form}
use Rattle.tcap_component.specs.declared.component.Form.TheVariants as form
use Rattle.tcap_component.specs.Component.{CodeParts, BodyParts, ComponentParts}
use Rattle.tcap_component.specs.Component.CodeParts.{local, global}
use Rattle.tcap_component.specs.Component.ComponentParts.{invoke, result_last, error_back, reject_back, result_more}
use Rattle.tcap_component.specs.ComponentFault.{FaultParts}
use Rattle.tcap_component.specs.ComponentReading.{with_rest, identifier_of, identifier_at, linked_from, linked_at, global_from, code_from, code_at, coded, body_at, body_in, answered, result_at, rejected_at, problem_at, invoke_at, result_last_at, error_at, reject_at, result_more_at, contents_at, form_at, is_structured, verdict_by, judged, component_from, component_at}

-- ---- how many octets a component names: those of a global code and of a parameter

abbrev pub code-named : CodeParts → ℕ
code-named (local number) = 0
code-named (global octets) = length octets

abbrev pub option-named : Option (List ℕ) → ℕ
option-named None = 0
option-named (Some octets) = length octets

abbrev pub body-named : Option BodyParts → ℕ
body-named None = 0
body-named (Some b) = code-named b.code + option-named b.parameter

abbrev pub part-named : ComponentParts → ℕ
part-named (invoke id linked c parameter) = code-named c + option-named parameter
part-named (result_last id body) = body-named body
part-named (error_back id c parameter) = code-named c + option-named parameter
part-named (reject_back id problem) = 0
part-named (result_more id body) = body-named body

-- ---- an element

definite-within : (e : Parts) → IsDefinite e → length e.content ≤ length e.whole
definite-within e h = omega (arith, ap length h.is_whole, length-append e.tag (h.octets ++ e.content), length-append h.octets e.content)

indefinite-within : (Inner : Parts → Type 0) (e : Parts) → IsIndefinite Inner e → length e.content ≤ length e.whole
indefinite-within Inner e h = omega (arith, ap length h.is_whole, length-append e.tag (0x80 ∷ (e.content ++ (0x00 ∷ 0x00 ∷ []))), length-append e.content (0x00 ∷ 0x00 ∷ []))

-- the content of an element is within its whole
content-within : (depth : ℕ) (e : Parts) → IsElement depth e → length e.content ≤ length e.whole
unfolding IsElement
content-within zero e h = definite-within e h
content-within (suc depth) e (inl h) = definite-within e h
content-within (suc depth) e (inr h) = indefinite-within (IsElement depth) e h

-- an element and what follows it are the bytes
element-within : (bytes : List ℕ) (p : Parts × List ℕ) → element_at 32 bytes ≡ Ok p → (length p.0.content + length p.1 ≤ length bytes) × (length p.0.whole + length p.1 ≤ length bytes)
element-within bytes p e =
    let t = element_takes 32 bytes p e in
    let all = ap length t.1 in
    let both = length-append p.0.whole p.1 in
    let inner = content-within 32 p.0 t.0 in
    (omega (arith, all, both, inner), omega (arith, all, both))

-- ---- parts of a sequence

-- what may have been found and what follows it are no longer than the bytes
abbrev Within : List ℕ → Option (List ℕ) × List ℕ → Type 0
Within bytes p = option-named p.0 + length p.1 ≤ length bytes

abbrev found : List ℕ → List ℕ → Option (List ℕ) × List ℕ
found octets rest = (Some octets, rest)

abbrev missing : List ℕ → Option (List ℕ) × List ℕ
missing bytes = (None, bytes)

chosen-within : (b : Bool) (octets rest bytes : List ℕ) → length octets + length rest ≤ length bytes → Within bytes (cond b (found octets rest) (missing bytes))
chosen-within true octets rest bytes h = h
chosen-within false octets rest bytes h = omega arith

tagged_of-within : (tag : ℕ) (bytes : List ℕ) (r : Result (Parts × List ℕ) BerFault) → element_at 32 bytes ≡ r → Within bytes (tagged_of tag bytes r)
tagged_of-within tag bytes (Err f) is = omega arith
tagged_of-within tag bytes (Ok p) is = chosen-within (is_tag tag p.0.tag) p.0.content p.1 bytes (element-within bytes p is).0

tagged-within : (tag : ℕ) (bytes : List ℕ) → Within bytes (tagged tag bytes)
unfolding tagged
tagged-within tag bytes = tagged_of-within tag bytes (element_at 32 bytes) refl

whole_of-within : (bytes : List ℕ) (r : Result (Parts × List ℕ) BerFault) → element_at 32 bytes ≡ r → Within bytes (whole_of bytes r)
whole_of-within bytes (Err f) is = omega arith
whole_of-within bytes (Ok p) is = (element-within bytes p is).1

first_whole-within : (bytes : List ℕ) → Within bytes (first_whole bytes)
unfolding first_whole
first_whole-within bytes = whole_of-within bytes (element_at 32 bytes) refl

content_at-within : (tag : ℕ) (bytes : List ℕ) (c : List ℕ × List ℕ) → content_at tag bytes ≡ Some c → length c.0 + length c.1 ≤ length bytes
content_at-within tag bytes c e =
    let m = content_at-is tag bytes c e in
    let all = tagged-within tag bytes in
    let first : option-named (tagged tag bytes).0 ≡ length c.0 = ap option-named m.0 in
    let rest : length (tagged tag bytes).1 ≡ length c.1 = ap length m.1 in
    omega (arith, all, first, rest)

-- ---- identifiers

identifier_at-within : (bytes : List ℕ) (p : ℤ × List ℕ) → identifier_at bytes ≡ Some p → length p.1 ≤ length bytes
unfolding identifier_at
identifier_at-within bytes p e =
    let c = bind_some (content_at 0x02 bytes) (λ c. identifier_of c.0 >>= (λ id. some (with_rest id c.1))) p e in
    let i = bind_some (identifier_of c.0.0) (λ id. some (with_rest id c.0.1)) p c.2 in
    let same = some_is (with_rest i.0 c.0.1) p i.2 in
    let all = content_at-within 0x02 bytes c.0 c.1 in
    subst (λ (q : ℤ × List ℕ). length q.1 ≤ length bytes) same (omega (arith, all))

linked_from-within : (bytes : List ℕ) (o : Option (List ℕ)) (rest : List ℕ) (p : Option ℤ × List ℕ) → length rest ≤ length bytes → linked_from o rest ≡ Some p → length p.1 ≤ length bytes
linked_from-within bytes None rest p h e = subst (λ (q : Option ℤ × List ℕ). length q.1 ≤ length bytes) (some_is (with_rest None rest) p e) h
linked_from-within bytes (Some content) rest p h e =
    let i = bind_some (identifier_of content) (λ id. some (with_rest (some id) rest)) p e in
    subst (λ (q : Option ℤ × List ℕ). length q.1 ≤ length bytes) (some_is (with_rest (some i.0) rest) p i.2) h

linked_at-within : (bytes : List ℕ) (p : Option ℤ × List ℕ) → linked_at bytes ≡ Some p → length p.1 ≤ length bytes
unfolding linked_at
linked_at-within bytes p e = linked_from-within bytes (tagged 0x80 bytes).0 (tagged 0x80 bytes).1 p (omega (arith, tagged-within 0x80 bytes)) e

-- ---- codes

abbrev CodeWithin : List ℕ → CodeParts × List ℕ → Type 0
CodeWithin bytes p = code-named p.0 + length p.1 ≤ length bytes

code_from-within : (bytes : List ℕ) (o : Option (List ℕ)) (rest : List ℕ) (p : CodeParts × List ℕ) → length rest ≤ length bytes → code_from bytes o rest ≡ Some p → CodeWithin bytes p
code_from-within bytes None rest p h e =
    let c = bind_some (content_at 0x06 bytes) global_from p e in
    let t = test_some (is_object_identifier c.0.0) (some (with_rest (global c.0.0) c.0.1)) p c.2 in
    subst (CodeWithin bytes) (some_is (with_rest (global c.0.0) c.0.1) p t.1) (content_at-within 0x06 bytes c.0 c.1)
code_from-within bytes (Some content) rest p h e =
    let n = bind_some (integer_at content) (λ number. some (with_rest (local number) rest)) p e in
    subst (CodeWithin bytes) (some_is (with_rest (local n.0) rest) p n.2) (omega (arith, h))

code_at-within : (bytes : List ℕ) (p : CodeParts × List ℕ) → code_at bytes ≡ Some p → CodeWithin bytes p
unfolding code_at
code_at-within bytes p e = code_from-within bytes (tagged 0x02 bytes).0 (tagged 0x02 bytes).1 p (omega (arith, tagged-within 0x02 bytes)) e

-- ---- bodies

abbrev BodyWithin : List ℕ → BodyParts → Type 0
BodyWithin bytes b = code-named b.code + option-named b.parameter ≤ length bytes

body_at-within : (bytes : List ℕ) (b : BodyParts) → body_at bytes ≡ Some b → BodyWithin bytes b
unfolding body_at
body_at-within bytes b e =
    let c = bind_some (code_at bytes) (λ c. ending (coded c.0 (first_whole c.1).0) (first_whole c.1).1) b e in
    let z = ending-is (coded c.0.0 (first_whole c.0.1).0) b (first_whole c.0.1).1 c.2 in
    let first = code_at-within bytes c.0 c.1 in
    let second = first_whole-within c.0.1 in
    subst (BodyWithin bytes) z.1 (omega (arith, first, second))

body_in-within : (o : Option (List ℕ)) (body : Option BodyParts) → body_in o ≡ Some body → body-named body ≤ option-named o
body_in-within None body e = subst (λ (b : Option BodyParts). body-named b ≤ 0) (some_is None body e) (omega arith)
body_in-within (Some inner) body e =
    let b = bind_some (body_at inner) (λ b. some (some b)) body e in
    subst (λ (x : Option BodyParts). body-named x ≤ length inner) (some_is (some b.0) body b.2) (body_at-within inner b.0 b.1)

result_at-within : (bytes : List ℕ) (r : ℤ × Option BodyParts) → result_at bytes ≡ Some r → body-named r.1 ≤ length bytes
unfolding result_at
result_at-within bytes r e =
    let i = bind_some (identifier_at bytes) (λ i. body_in (tagged 0x30 i.1).0 >>= (λ body. ending (answered i.0 body) (tagged 0x30 i.1).1)) r e in
    let b = bind_some (body_in (tagged 0x30 i.0.1).0) (λ body. ending (answered i.0.0 body) (tagged 0x30 i.0.1).1) r i.2 in
    let z = ending-is (answered i.0.0 b.0) r (tagged 0x30 i.0.1).1 b.2 in
    let first = identifier_at-within bytes i.0 i.1 in
    let second = tagged-within 0x30 i.0.1 in
    let third = body_in-within (tagged 0x30 i.0.1).0 b.0 b.1 in
    subst (λ (x : ℤ × Option BodyParts). body-named x.1 ≤ length bytes) z.1 (omega (arith, first, second, third))

-- ---- the components

abbrev PartWithin : List ℕ → ComponentParts → Type 0
PartWithin bytes p = part-named p ≤ length bytes

kept : (bytes : List ℕ) (c p : ComponentParts) → some c ≡ some p → PartWithin bytes c → PartWithin bytes p
kept bytes c p e h = subst (PartWithin bytes) (some_is c p e) h

invoke_at-within : (bytes : List ℕ) (p : ComponentParts) → invoke_at bytes ≡ Some p → PartWithin bytes p
unfolding invoke_at
invoke_at-within bytes p e =
    let i = bind_some (identifier_at bytes) (λ i. linked_at i.1 >>= (λ l. body_at l.1 >>= (λ b. some (invoke i.0 l.0 b.code b.parameter)))) p e in
    let l = bind_some (linked_at i.0.1) (λ l. body_at l.1 >>= (λ b. some (invoke i.0.0 l.0 b.code b.parameter))) p i.2 in
    let b = bind_some (body_at l.0.1) (λ b. some (invoke i.0.0 l.0.0 b.code b.parameter)) p l.2 in
    let first = identifier_at-within bytes i.0 i.1 in
    let second = linked_at-within i.0.1 l.0 l.1 in
    let third = body_at-within l.0.1 b.0 b.1 in
    kept bytes (invoke i.0.0 l.0.0 b.0.code b.0.parameter) p b.2 (omega (arith, first, second, third))

result_last_at-within : (bytes : List ℕ) (p : ComponentParts) → result_last_at bytes ≡ Some p → PartWithin bytes p
unfolding result_last_at
result_last_at-within bytes p e =
    let r = bind_some (result_at bytes) (λ r. some (result_last r.0 r.1)) p e in
    kept bytes (result_last r.0.0 r.0.1) p r.2 (result_at-within bytes r.0 r.1)

result_more_at-within : (bytes : List ℕ) (p : ComponentParts) → result_more_at bytes ≡ Some p → PartWithin bytes p
unfolding result_more_at
result_more_at-within bytes p e =
    let r = bind_some (result_at bytes) (λ r. some (result_more r.0 r.1)) p e in
    kept bytes (result_more r.0.0 r.0.1) p r.2 (result_at-within bytes r.0 r.1)

error_at-within : (bytes : List ℕ) (p : ComponentParts) → error_at bytes ≡ Some p → PartWithin bytes p
unfolding error_at
error_at-within bytes p e =
    let i = bind_some (identifier_at bytes) (λ i. body_at i.1 >>= (λ b. some (error_back i.0 b.code b.parameter))) p e in
    let b = bind_some (body_at i.0.1) (λ b. some (error_back i.0.0 b.code b.parameter)) p i.2 in
    let first = identifier_at-within bytes i.0 i.1 in
    let second = body_at-within i.0.1 b.0 b.1 in
    kept bytes (error_back i.0.0 b.0.code b.0.parameter) p b.2 (omega (arith, first, second))

reject_at-within : (bytes : List ℕ) (p : ComponentParts) → reject_at bytes ≡ Some p → PartWithin bytes p
unfolding reject_at
reject_at-within bytes p e =
    let i = bind_some (rejected_at bytes) (λ i. problem_at i.1 >>= (λ q. some (reject_back i.0 q))) p e in
    let q = bind_some (problem_at i.0.1) (λ q. some (reject_back i.0.0 q)) p i.2 in
    kept bytes (reject_back i.0.0 q.0) p q.2 (omega arith)

contents_at-within : (f : Form) (bytes : List ℕ) (p : ComponentParts) → contents_at f bytes ≡ Some p → PartWithin bytes p
contents_at-within form.Invoke bytes p e = invoke_at-within bytes p e
contents_at-within form.ResultLast bytes p e = result_last_at-within bytes p e
contents_at-within form.ErrorBack bytes p e = error_at-within bytes p e
contents_at-within form.RejectBack bytes p e = reject_at-within bytes p e
contents_at-within form.ResultMore bytes p e = result_more_at-within bytes p e

-- ---- one component

tested : {A E : Type 0} (b : Bool) (r : Result A E) (d : E) (y : A) → cond b r (Err d) ≡ Ok y → r ≡ Ok y
tested true r d y e = e
tested false r d y e = absurd (not_read d y e)

ok_or-is : {A E : Type 0} (o : Option A) (d : E) (y : A) → ok_or o d ≡ Ok y → o ≡ Some y
ok_or-is {A} {E} None d y e = absurd (not_read d y e)
ok_or-is {A} {E} (Some x) d y e = ap (λ (z : A). some z) (read_is {E = E} x y e)

verdict-within : (o : Option Form) (content : List ℕ) (p : ComponentParts) → verdict_by o content ≡ Ok p → PartWithin content p
verdict-within None content p e = absurd (not_read 0 p e)
verdict-within (Some f) content p e =
    let t = tested (is_structured f content) (ok_or (contents_at f content) 1) 2 p e in
    contents_at-within f content p (ok_or-is (contents_at f content) 1 p t)

abbrev Named : List ℕ → ComponentParts × List ℕ → Type 0
Named bytes q = part-named q.0 + length q.1 ≤ length bytes

judged-within : (bytes : List ℕ) (r : Parts × List ℕ) (v : Result ComponentParts ℕ) (q : ComponentParts × List ℕ) → length r.0.content + length r.1 ≤ length bytes → verdict_by (form_at r.0.tag) r.0.content ≡ v → judged bytes r v ≡ Ok q → Named bytes q
judged-within bytes r (Ok c) q h is e =
    let inner = verdict-within (form_at r.0.tag) r.0.content c is in
    subst (Named bytes) (read_is {E = FaultParts} (with_rest c r.1) q e) (omega (arith, h, inner))
judged-within bytes r (Err d) q h is e = absurd cc

component_from-within : (bytes : List ℕ) (r : Result (Parts × List ℕ) BerFault) (q : ComponentParts × List ℕ) → element_at 32 bytes ≡ r → component_from bytes r ≡ Ok q → Named bytes q
component_from-within bytes (Err f) q is e = absurd cc
component_from-within bytes (Ok r) q is e = judged-within bytes r (verdict_by (form_at r.0.tag) r.0.content) q (element-within bytes r is).0 refl e

-- a component names no more octets than were read for it
pub component-named : (bytes rest : List ℕ) (p : ComponentParts) → component_at bytes ≡ Ok (p, rest) → part-named p + length rest ≤ length bytes
unfolding component_at
component-named bytes rest p e = component_from-within bytes (element_at 32 bytes) (p, rest) refl e
