-- A component stands in the tables.
use Rattle.std.proofs.Common.{◌≡◌, ℕ, ℤ, ◌≤◌, true, leb, List, [], ◌∷◌, Option, Some, None, refl, sym, subst, ◌∙◌, arith, inl, inr}
use Rattle.std.specs.Option.{option_map}
use Rattle.std.proofs.lemmas.Bool.Decides.{nat_tests}
use Rattle.std.proofs.lemmas.List.{append-nil}
use Rattle.ber_core.specs.Element.{Parts, IsElement, joined}
use Rattle.ber_core.specs.Integer.{octet_of, integer_octets}
use Rattle.ber_core.specs.Sequence.{InOrder, SpellsSequence}
use Rattle.ber_core.specs.Sequence.Field.{must, may, any}
use Rattle.ber_core.proofs.CallerLemmas.{integer_again, integer_spelled, object_identifier_again, octet_of-below}
use Rattle.tcap_component.specs.declared.problem.Kind.{Kind}
use Rattle.tcap_component.specs.declared.problem.Kind.TheVariants as kind
use Rattle.tcap_component.specs.Problem.{ProblemParts, problem_tag, IsProblem}
use Rattle.tcap_component.specs.Component.{CodeParts, BodyParts, ComponentParts, identifier, code_field, rejected_field, body_fields, HoldsBody, IsIdentifier, IsIdentifierIfAny, IsCode, IsBody, IsComponent, SpellsComponent}
use Rattle.tcap_component.specs.Component.CodeParts.{local, global}
use Rattle.tcap_component.specs.Component.ComponentParts.{invoke, result_last, error_back, reject_back, result_more}
use Rattle.tcap_explain.specs.declared.contents.Contents.TheVariants as contents
use Rattle.tcap_explain.specs.declared.line.Line.{Line}
use Rattle.tcap_explain.specs.declared.line.Line.TheVariants as line
use Rattle.tcap_explain.specs.declared.line.ListLine.TheVariants as list
use Rattle.tcap_explain.specs.declared.line.ComponentLine.TheVariants as component
use Rattle.tcap_explain.specs.declared.table.Inside.TheVariants as inside
use Rattle.tcap_explain.specs.Choice.{leads}
use Rattle.tcap_explain.specs.Table.{next, may_end}
use Rattle.tcap_explain.specs.Unmet.{Holds, Stands}
use Rattle.tcap_explain.specs.Unmet.Holds.{elements, listed}
use Rattle.tcap_explain.specs.Unmet.Stands.{ends}
use Rattle.tcap_explain.proofs.MessageAgain.{All, nothing_more, taken, end-again, whatever, fitting}

abbrev anything : Line
anything = line.List list.Elements

abbrev parameter_line : Line
parameter_line = line.Component component.Parameter

abbrev code_line : Line
code_line = line.Component component.Code

-- ---- contents octets

small : (n most : ℕ) → n ≤ most → leb n most ≡ true
small n most h = grind (arith, nat_tests)

identified : (content : List ℕ) (id : ℤ) → content ≡ identifier id → IsIdentifier id → Holds (inside.Octets contents.Identifier) content
identified content id is h =
    let below = octet_of-below id h in
    fitting contents.Identifier content (identifier id) is (small (octet_of id) 0xff (omega (arith, below)))

local-fits : (content : List ℕ) (z : ℤ) → content ≡ integer_octets z → IsCode (local z) → Holds (inside.Octets contents.LocalCode) content
local-fits content z is h =
    let read = integer_again (integer_octets z) z (integer_spelled z h) in
    fitting contents.LocalCode content (integer_octets z) is (rw read refl)

global-fits : (content o : List ℕ) → content ≡ o → IsCode (global o) → Holds (inside.Octets contents.ObjectIdentifier) content
global-fits content o is h = fitting contents.ObjectIdentifier content o is (object_identifier_again o h)

-- ---- codes and parameters

parameters : (p : Option (List ℕ)) (es : List Parts) → All es → InOrder (any p ∷ []) es → Stands parameter_line (joined es)
unfolding InOrder next may_end
parameters p [] a h = ends parameter_line refl
parameters None (e ∷ es) a (inl h) = absurd h.0
parameters (Some w) (e ∷ es) a (inl h) = taken parameter_line nothing_more (inside.Octets contents.Any) e es a.0 refl (whatever e.content) (end-again es h.1)
parameters None (e ∷ es) a (inr h) = absurd h.1
parameters (Some w) (e ∷ es) a (inr h) = absurd cc

-- a line that has the codes
pub record HasCodes (l : Line) : Type 0 where
  pub local_code : (tag content : List ℕ) → tag ≡ 0x02 ∷ [] → next l tag content ≡ Some (leads (inside.Octets contents.LocalCode) parameter_line)
  pub global_code : (tag content : List ℕ) → tag ≡ 0x06 ∷ [] → next l tag content ≡ Some (leads (inside.Octets contents.ObjectIdentifier) parameter_line)

codes_of_code : HasCodes code_line
unfolding next
codes_of_code = record { local_code = λ tag content t. rw t refl; global_code = λ tag content t. rw t refl }

codes_of_linked : HasCodes (line.Component component.LinkedOrCode)
unfolding next
codes_of_linked = record { local_code = λ tag content t. rw t refl; global_code = λ tag content t. rw t refl }

coded : (l : Line) (c : CodeParts) (p : Option (List ℕ)) (es : List Parts) → HasCodes l → All es → IsCode c → InOrder (code_field c ∷ any p ∷ []) es → Stands l (joined es)
unfolding InOrder
coded l (local z) p [] k a i h = absurd h.0
coded l (global o) p [] k a i h = absurd h.0
coded l (local z) p (e ∷ es) k a i (inl h) = taken l parameter_line (inside.Octets contents.LocalCode) e es a.0 (k.local_code e.tag e.content h.0.0) (local-fits e.content z h.0.1 i) (parameters p es a.1 h.1)
coded l (local z) p (e ∷ es) k a i (inr h) = absurd h.0
coded l (global o) p (e ∷ es) k a i (inl h) = taken l parameter_line (inside.Octets contents.ObjectIdentifier) e es a.0 (k.global_code e.tag e.content h.0.0) (global-fits e.content o h.0.1 i) (parameters p es a.1 h.1)
coded l (global o) p (e ∷ es) k a i (inr h) = absurd h.0

linked : (l : Option ℤ) (c : CodeParts) (p : Option (List ℕ)) (es : List Parts) → All es → IsIdentifierIfAny l → IsCode c → InOrder (may 0x80 (option_map identifier l) ∷ code_field c ∷ any p ∷ []) es → Stands (line.Component component.LinkedOrCode) (joined es)
unfolding InOrder next
linked None c p [] a i k h = coded (line.Component component.LinkedOrCode) c p [] codes_of_linked a k h.1
linked (Some id) c p [] a i k h = absurd cc
linked None c p (e ∷ es) a i k (inl h) = absurd h.0
linked None c p (e ∷ es) a i k (inr h) = coded (line.Component component.LinkedOrCode) c p (e ∷ es) codes_of_linked a k h.1
linked (Some id) c p (e ∷ es) a i k (inl h) = taken (line.Component component.LinkedOrCode) code_line (inside.Octets contents.Identifier) e es a.0 (rw h.0.0 refl) (identified e.content id h.0.1 i) (coded code_line c p es codes_of_code a.1 k h.1)
linked (Some id) c p (e ∷ es) a i k (inr h) = absurd cc

-- ---- components

invokes : (id : ℤ) (l : Option ℤ) (c : CodeParts) (p : Option (List ℕ)) (es : List Parts) → All es → IsIdentifier id → IsIdentifierIfAny l → IsCode c → InOrder (must 0x02 (identifier id) ∷ may 0x80 (option_map identifier l) ∷ code_field c ∷ any p ∷ []) es → Stands (line.Component component.InvokeId) (joined es)
unfolding InOrder next
invokes id l c p [] a i j k h = absurd h.0
invokes id l c p (e ∷ es) a i j k (inl h) = taken (line.Component component.InvokeId) (line.Component component.LinkedOrCode) (inside.Octets contents.Identifier) e es a.0 (rw h.0.0 refl) (identified e.content id h.0.1 i) (linked l c p es a.1 j k h.1)
invokes id l c p (e ∷ es) a i j k (inr h) = absurd h.0

errors : (id : ℤ) (c : CodeParts) (p : Option (List ℕ)) (es : List Parts) → All es → IsIdentifier id → IsCode c → InOrder (must 0x02 (identifier id) ∷ code_field c ∷ any p ∷ []) es → Stands (line.Component component.ErrorId) (joined es)
unfolding InOrder next
errors id c p [] a i k h = absurd h.0
errors id c p (e ∷ es) a i k (inl h) = taken (line.Component component.ErrorId) code_line (inside.Octets contents.Identifier) e es a.0 (rw h.0.0 refl) (identified e.content id h.0.1 i) (coded code_line c p es codes_of_code a.1 k h.1)
errors id c p (e ∷ es) a i k (inr h) = absurd h.0

body-stands : (b : BodyParts) (content : List ℕ) → IsCode b.code → SpellsSequence (body_fields b) content → Stands code_line content
body-stands b content k s = subst (Stands code_line) (sym s.is_list.is_joined) (coded code_line b.code b.parameter s.elements codes_of_code s.is_list.each k s.in_order)

bodies : (b : Option BodyParts) (inner : Option (List ℕ)) (es : List Parts) → All es → HoldsBody b inner → IsBody b → InOrder (may 0x30 inner ∷ []) es → Stands (line.Component component.ResultBody) (joined es)
unfolding InOrder next may_end
bodies b inner [] a s k h = ends (line.Component component.ResultBody) refl
bodies b None (e ∷ es) a s k (inl h) = absurd h.0
bodies b None (e ∷ es) a s k (inr h) = absurd h.1
bodies None (Some inner) (e ∷ es) a s k (inl h) = absurd s
bodies (Some b) (Some inner) (e ∷ es) a s k (inl h) =
    taken (line.Component component.ResultBody) nothing_more (inside.Elements code_line) e es a.0 (rw h.0.0 refl) (elements code_line e.content (subst (Stands code_line) (sym h.0.1) (body-stands b inner k s))) (end-again es h.1)
bodies b (Some inner) (e ∷ es) a s k (inr h) = absurd cc

results : (id : ℤ) (b : Option BodyParts) (inner : Option (List ℕ)) (es : List Parts) → All es → IsIdentifier id → HoldsBody b inner → IsBody b → InOrder (must 0x02 (identifier id) ∷ may 0x30 inner ∷ []) es → Stands (line.Component component.ResultId) (joined es)
unfolding InOrder next
results id b inner [] a i s k h = absurd h.0
results id b inner (e ∷ es) a i s k (inl h) = taken (line.Component component.ResultId) (line.Component component.ResultBody) (inside.Octets contents.Identifier) e es a.0 (rw h.0.0 refl) (identified e.content id h.0.1 i) (bodies b inner es a.1 s k h.1)
results id b inner (e ∷ es) a i s k (inr h) = absurd h.0

problem-known : (k : Kind) (tag content : List ℕ) → tag ≡ problem_tag k ∷ [] → next (line.Component component.Problem) tag content ≡ Some (leads (inside.Octets contents.ProblemCode) nothing_more)
unfolding next
problem-known kind.General tag content t = rw t refl
problem-known kind.Invoke tag content t = rw t refl
problem-known kind.Result tag content t = rw t refl
problem-known kind.Error tag content t = rw t refl

problems : (p : ProblemParts) (es : List Parts) → All es → IsProblem p → InOrder (must (problem_tag p.kind) (p.code ∷ []) ∷ []) es → Stands (line.Component component.Problem) (joined es)
unfolding InOrder
problems p [] a k h = absurd h.0
problems p (e ∷ es) a k (inl h) = taken (line.Component component.Problem) nothing_more (inside.Octets contents.ProblemCode) e es a.0 (problem-known p.kind e.tag e.content h.0.0) (fitting contents.ProblemCode e.content (p.code ∷ []) h.0.1 (small p.code 0x7f k)) (end-again es h.1)
problems p (e ∷ es) a k (inr h) = absurd h.0

rejects : (id : Option ℤ) (p : ProblemParts) (es : List Parts) → All es → IsIdentifierIfAny id → IsProblem p → InOrder (rejected_field id ∷ must (problem_tag p.kind) (p.code ∷ []) ∷ []) es → Stands (line.Component component.RejectId) (joined es)
unfolding InOrder next
rejects None p [] a i k h = absurd h.0
rejects (Some id) p [] a i k h = absurd h.0
rejects None p (e ∷ es) a i k (inl h) = taken (line.Component component.RejectId) (line.Component component.Problem) (inside.Octets contents.Null) e es a.0 (rw h.0.0 refl) (fitting contents.Null e.content [] h.0.1 refl) (problems p es a.1 k h.1)
rejects None p (e ∷ es) a i k (inr h) = absurd h.0
rejects (Some id) p (e ∷ es) a i k (inl h) = taken (line.Component component.RejectId) (line.Component component.Problem) (inside.Octets contents.Identifier) e es a.0 (rw h.0.0 refl) (identified e.content id h.0.1 i) (problems p es a.1 k h.1)
rejects (Some id) p (e ∷ es) a i k (inr h) = absurd h.0

-- ---- lists

pub elements-again : (es : List Parts) → All es → Stands anything (joined es)
unfolding next may_end
elements-again [] a = ends anything refl
elements-again (e ∷ es) a = taken anything anything (inside.Octets contents.Any) e es a.0 refl (whatever e.content) (elements-again es a.1)

listed-body : (b : Option BodyParts) (inner : Option (List ℕ)) (es : List Parts) → All es → HoldsBody b inner → InOrder (may 0x30 inner ∷ []) es → Stands (line.Component component.ResultListSecond) (joined es)
unfolding InOrder next may_end
listed-body b inner [] a s h = ends (line.Component component.ResultListSecond) refl
listed-body b None (e ∷ es) a s (inl h) = absurd h.0
listed-body b None (e ∷ es) a s (inr h) = absurd h.1
listed-body None (Some inner) (e ∷ es) a s (inl h) = absurd s
listed-body (Some b) (Some inner) (e ∷ es) a s (inl h) =
    let inside_list = subst (Stands anything) (sym (h.0.1 ∙ s.is_list.is_joined)) (elements-again s.elements s.is_list.each) in
    taken (line.Component component.ResultListSecond) anything (inside.Elements anything) e es a.0 (rw h.0.0 refl) (elements anything e.content inside_list) (elements-again es a.1)
listed-body b (Some inner) (e ∷ es) a s (inr h) = absurd cc

listed-result : (id : ℤ) (b : Option BodyParts) (inner : Option (List ℕ)) (es : List Parts) → All es → HoldsBody b inner → InOrder (must 0x02 (identifier id) ∷ may 0x30 inner ∷ []) es → Stands (line.Component component.ResultList) (joined es)
unfolding InOrder next
listed-result id b inner [] a s h = absurd h.0
listed-result id b inner (e ∷ es) a s (inl h) = taken (line.Component component.ResultList) (line.Component component.ResultListSecond) (inside.Octets contents.Any) e es a.0 refl (whatever e.content) (listed-body b inner es a.1 s h.1)
listed-result id b inner (e ∷ es) a s (inr h) = absurd h.0

-- ---- the component

abbrev type_line : Line
type_line = line.Component component.ComponentType

whole : (first second : Line) (e : Parts) (es : List Parts) → IsElement 32 e → next type_line e.tag e.content ≡ Some (leads (inside.Listed first second) anything) → e.content ≡ joined es → Stands first (joined es) → Stands second (joined es) → Stands type_line e.whole
whole first second e es i n is s t =
    subst (Stands type_line) (append-nil e.whole)
    (taken type_line anything (inside.Listed first second) e [] i n (listed first second e.content (subst (Stands first) (sym is) s) (subst (Stands second) (sym is) t)) (elements-again [] tt))

element-stands : (c : ComponentParts) (e : Parts) → IsElement 32 e → IsComponent c e → Stands type_line e.whole
unfolding next
element-stands (invoke id l code p) e i h =
    let s = h.in_sequence in let r = h.in_range in
    whole anything (line.Component component.InvokeId) e s.elements i (rw h.is_tag refl) s.is_list.is_joined (elements-again s.elements s.is_list.each) (invokes id l code p s.elements s.is_list.each r.0 r.1 r.2 s.in_order)
element-stands (result_last id b) e i h =
    let s = h.in_sequence in let r = h.in_range in
    whole (line.Component component.ResultList) (line.Component component.ResultId) e s.elements i (rw h.is_tag refl) s.is_list.is_joined (listed-result id b h.inner s.elements s.is_list.each h.holds_body s.in_order) (results id b h.inner s.elements s.is_list.each r.0 h.holds_body r.1 s.in_order)
element-stands (error_back id code p) e i h =
    let s = h.in_sequence in let r = h.in_range in
    whole anything (line.Component component.ErrorId) e s.elements i (rw h.is_tag refl) s.is_list.is_joined (elements-again s.elements s.is_list.each) (errors id code p s.elements s.is_list.each r.0 r.1 s.in_order)
element-stands (reject_back id p) e i h =
    let s = h.in_sequence in let r = h.in_range in
    whole anything (line.Component component.RejectId) e s.elements i (rw h.is_tag refl) s.is_list.is_joined (elements-again s.elements s.is_list.each) (rejects id p s.elements s.is_list.each r.0 r.1 s.in_order)
element-stands (result_more id b) e i h =
    let s = h.in_sequence in let r = h.in_range in
    whole (line.Component component.ResultList) (line.Component component.ResultId) e s.elements i (rw h.is_tag refl) s.is_list.is_joined (listed-result id b h.inner s.elements s.is_list.each h.holds_body s.in_order) (results id b h.inner s.elements s.is_list.each r.0 h.holds_body r.1 s.in_order)

pub component_again : (c : ComponentParts) (bytes : List ℕ) → SpellsComponent c bytes → Stands type_line bytes
component_again c bytes h = subst (Stands type_line) (sym h.is_whole) (element-stands c h.element h.is_element h.is_component)
