-- The contents of a component: what is read stands there, and what stands there is read.
use Rattle.std.proofs.Common.{◌≡◌, ℕ, ◌≤◌, ℤ, pos, cond, ltb, eqb, List, [], ◌∷◌, ◌++◌, Option, Some, None, refl, ap, subst, ◌∙◌, ◌⊎◌, inl, inr, eqb-true}
use Rattle.std.specs.Option.{option_map}
use Rattle.std.proofs.lemmas.Bool.{cases_Bool, le-ltb, ltb-false}
use Rattle.ber_core.specs.Options.{◌>>=◌}
use Rattle.ber_core.specs.Element.{Parts, IsElement, joined}
use Rattle.ber_core.specs.ElementList.{IsList}
use Rattle.ber_core.specs.Sequence.{InOrder, SpellsSequence}
use Rattle.ber_core.specs.Sequence.Field.{must, may, any}
use Rattle.ber_core.specs.SequenceReading.{tagged, content_at, ending}
use Rattle.ber_core.proofs.CallerLemmas.{some, some_is, bind_some, guard_some, ending-is, ending-again, must_takes, must_again, may_takes, may_again, end_takes, end_again}
use Rattle.tcap_component.specs.declared.problem.Kind.{Kind}
use Rattle.tcap_component.specs.declared.problem.Kind.TheVariants as kind
use Rattle.tcap_component.specs.declared.component.Form.{Form}
use Rattle.tcap_component.specs.declared.component.Form.TheVariants as form
use Rattle.tcap_component.specs.Problem.{ProblemParts, IsProblem, problem_tag}
use Rattle.tcap_component.specs.Component.{BodyParts, ComponentParts, component_tag, identifier, code_field, body_fields, fields, body_of, HoldsBody, IsIdentifier, IsBody, InRange}
use Rattle.tcap_component.specs.Component.CodeParts.{local}
use Rattle.tcap_component.specs.Component.ComponentParts.{invoke, result_last, error_back, reject_back, result_more}
use Rattle.tcap_component.specs.ComponentReading.{identifier_at, linked_at, body_at, body_in, answered, result_at, rejected_at, problem_kind, problem_code, problem_of, problem_at, invoke_at, result_last_at, error_at, reject_at, result_more_at, contents_at, form_at}
use Rattle.tcap_component.proofs.PartGrammar.{identifier_at-takes, identifier_at-again, linked_takes, linked_again, code-apart, body_takes, body_again, rejected_takes, rejected_again}

-- ---- a problem

problem_code-is : (c : List ℕ) (n : ℕ) → problem_code c ≡ Some n → (c ≡ n ∷ []) × (n ≤ 127)
unfolding problem_code
problem_code-is [] n e = absurd cc
problem_code-is (m ∷ []) n e =
    let g = guard_some (ltb 127 m) (some m) n e in
    let same = some_is m n g.1 in
    (ap (λ (k : ℕ). k ∷ []) same, subst (λ (k : ℕ). k ≤ 127) same (ltb-false 127 m g.0))
problem_code-is (m ∷ k ∷ more) n e = absurd cc

problem_code-again : (n : ℕ) → n ≤ 127 → problem_code (n ∷ []) ≡ Some n
unfolding problem_code
problem_code-again n h = rw (le-ltb 127 n h) refl

pub problem_takes : (bytes : List ℕ) (p : ProblemParts) → problem_at bytes ≡ Some p → SpellsSequence (must (problem_tag p.kind) (p.code ∷ []) ∷ []) bytes × IsProblem p
unfolding problem_at
problem_takes bytes p e =
    let k = bind_some (problem_kind bytes) (λ k. content_at (problem_tag k) bytes >>= (λ c. problem_code c.0 >>= (λ n. ending (problem_of k n) c.1))) p e in
    let c = bind_some (content_at (problem_tag k.0) bytes) (λ c. problem_code c.0 >>= (λ n. ending (problem_of k.0 n) c.1)) p k.2 in
    let n = bind_some (problem_code c.0.0) (λ n. ending (problem_of k.0 n) c.0.1) p c.2 in
    let z = ending-is (problem_of k.0 n.0) p c.0.1 n.2 in
    let t = problem_code-is c.0.0 n.0 n.1 in
    subst (λ (q : ProblemParts). SpellsSequence (must (problem_tag q.kind) (q.code ∷ []) ∷ []) bytes × IsProblem q) z.1
    (subst (λ (w : List ℕ). SpellsSequence (must (problem_tag k.0) w ∷ []) bytes) t.0 (must_takes (problem_tag k.0) [] bytes c.0 c.1 (end_takes c.0.1 z.0)), t.1)

begins_with_tag : (e : Parts) (tag : ℕ) → IsElement 32 e → e.tag ≡ tag ∷ [] → (more : List ℕ) × (e.whole ≡ tag ∷ more)
unfolding IsElement
begins_with_tag e tag (inl d) t = (d.octets ++ e.content, d.is_whole ∙ ap (λ (w : List ℕ). w ++ (d.octets ++ e.content)) t)
begins_with_tag e tag (inr d) t = (0x80 ∷ (e.content ++ (0 ∷ 0 ∷ [])), d.is_whole ∙ ap (λ (w : List ℕ). w ++ (0x80 ∷ (e.content ++ (0 ∷ 0 ∷ [])))) t)

first_octet : (tag : ℕ) (c : List ℕ) (es : List Parts) (bytes : List ℕ) → IsList es bytes → InOrder (must tag c ∷ []) es → (more : List ℕ) × (bytes ≡ tag ∷ more)
unfolding InOrder
first_octet tag c [] bytes l h = absurd h.0
first_octet tag c (e ∷ es) bytes l (inl h) =
    let b = begins_with_tag e tag l.each.0 h.0.0 in
    (b.0 ++ joined es, l.is_joined ∙ ap (λ (w : List ℕ). w ++ joined es) b.1)
first_octet tag c (e ∷ es) bytes l (inr h) = absurd h.0

kind_again : (k : Kind) (more : List ℕ) → problem_kind (problem_tag k ∷ more) ≡ Some k
unfolding problem_kind
kind_again kind.General more = refl
kind_again kind.Invoke more = refl
kind_again kind.Result more = refl
kind_again kind.Error more = refl

pub problem_again : (p : ProblemParts) (bytes : List ℕ) → IsProblem p → SpellsSequence (must (problem_tag p.kind) (p.code ∷ []) ∷ []) bytes → problem_at bytes ≡ Some p
unfolding problem_at
problem_again p bytes h s =
    let m = must_again (problem_tag p.kind) (p.code ∷ []) [] bytes s in
    let o = first_octet (problem_tag p.kind) (p.code ∷ []) s.elements bytes s.is_list s.in_order in
    let k : problem_kind bytes ≡ Some p.kind = ap problem_kind o.1 ∙ kind_again p.kind o.0 in
    rw k (rw m.1 (rw (problem_code-again p.code h) (ending-again p m.0 (end_again m.0 m.2))))

-- ---- a result

record IsResult (r : ℤ × Option BodyParts) (bytes : List ℕ) : Type 0 where
  pub inner : Option (List ℕ)
  pub in_sequence : SpellsSequence (must 0x02 (identifier r.0) ∷ may 0x30 inner ∷ []) bytes
  pub holds_body : HoldsBody r.1 inner
  pub is_identifier : IsIdentifier r.0
  pub is_body : IsBody r.1

body_in-takes : (o : Option (List ℕ)) (b : Option BodyParts) → body_in o ≡ Some b → HoldsBody b o × IsBody b
body_in-takes None b e = subst (λ (c : Option BodyParts). HoldsBody c None × IsBody c) (some_is None b e) (tt, tt)
body_in-takes (Some inner) b e =
    let i = bind_some (body_at inner) (λ body. some (some body)) b e in
    subst (λ (c : Option BodyParts). HoldsBody c (Some inner) × IsBody c) (some_is (some i.0) b i.2) (body_takes inner i.0 i.1)

body_in-again : (b : Option BodyParts) (o : Option (List ℕ)) → HoldsBody b o → IsBody b → body_in o ≡ Some b
body_in-again None None h i = refl
body_in-again None (Some inner) h i = absurd h
body_in-again (Some b) None h i = absurd h
body_in-again (Some b) (Some inner) h i = rw (body_again b inner i h) refl

result_takes : (bytes : List ℕ) (r : ℤ × Option BodyParts) → result_at bytes ≡ Some r → IsResult r bytes
unfolding result_at
result_takes bytes r e =
    let i = bind_some (identifier_at bytes) (λ i. body_in (tagged 0x30 i.1).0 >>= (λ body. ending (answered i.0 body) (tagged 0x30 i.1).1)) r e in
    let t = tagged 0x30 i.0.1 in
    let b = bind_some (body_in t.0) (λ body. ending (answered i.0.0 body) t.1) r i.2 in
    let z = ending-is (answered i.0.0 b.0) r t.1 b.2 in
    let s = identifier_at-takes (may 0x30 t.0 ∷ []) bytes i.0 i.1 (may_takes 0x30 [] i.0.1 (end_takes t.1 z.0)) in
    let h = body_in-takes t.0 b.0 b.1 in
    subst (λ (q : ℤ × Option BodyParts). IsResult q bytes) z.1
    (record { inner = t.0; in_sequence = s.0; holds_body = h.0; is_identifier = s.1; is_body = h.1 })

result_again : (id : ℤ) (b : Option BodyParts) (inner : Option (List ℕ)) (bytes : List ℕ) → SpellsSequence (must 0x02 (identifier id) ∷ may 0x30 inner ∷ []) bytes → HoldsBody b inner → IsIdentifier id → IsBody b → result_at bytes ≡ Some (id, b)
unfolding result_at
result_again id b inner bytes s h i j =
    let m = identifier_at-again id (may 0x30 inner ∷ []) bytes i s in
    let t = may_again 0x30 inner [] m.0 tt m.2 in
    rw m.1 (rw t.0 (rw (body_in-again b inner h j) (ending-again (answered id b) (tagged 0x30 m.0).1 (end_again _ t.1))))

-- ---- the five contents

unfoldable pub form_of_parts : ComponentParts → Form
form_of_parts (invoke id linked code parameter) = form.Invoke
form_of_parts (result_last id body) = form.ResultLast
form_of_parts (error_back id code parameter) = form.ErrorBack
form_of_parts (reject_back id problem) = form.RejectBack
form_of_parts (result_more id body) = form.ResultMore

-- the contents are this component, of this form
pub record IsContents (f : Form) (c : ComponentParts) (content : List ℕ) : Type 0 where
  pub inner : Option (List ℕ)
  pub has_form : form_of_parts c ≡ f
  pub in_sequence : SpellsSequence (fields c inner) content
  pub holds_body : HoldsBody (body_of c) inner
  pub in_range : InRange c

invoke_takes : (bytes : List ℕ) (c : ComponentParts) → invoke_at bytes ≡ Some c → IsContents form.Invoke c bytes
unfolding invoke_at form_of_parts
invoke_takes bytes c e =
    let i = bind_some (identifier_at bytes) (λ i. linked_at i.1 >>= (λ l. body_at l.1 >>= (λ b. some (invoke i.0 l.0 b.code b.parameter)))) c e in
    let l = bind_some (linked_at i.0.1) (λ l. body_at l.1 >>= (λ b. some (invoke i.0.0 l.0 b.code b.parameter))) c i.2 in
    let b = bind_some (body_at l.0.1) (λ b. some (invoke i.0.0 l.0.0 b.code b.parameter)) c l.2 in
    let t = body_takes l.0.1 b.0 b.1 in
    let k = linked_takes (body_fields b.0) i.0.1 l.0 l.1 t.0 in
    let s = identifier_at-takes (may 0x80 (option_map identifier l.0.0) ∷ body_fields b.0) bytes i.0 i.1 k.0 in
    subst (λ (d : ComponentParts). IsContents form.Invoke d bytes) (some_is (invoke i.0.0 l.0.0 b.0.code b.0.parameter) c b.2)
    (record { inner = None; has_form = refl; in_sequence = s.0; holds_body = tt; in_range = (s.1, k.1, t.1) })

result_last_takes : (bytes : List ℕ) (c : ComponentParts) → result_last_at bytes ≡ Some c → IsContents form.ResultLast c bytes
unfolding result_last_at form_of_parts
result_last_takes bytes c e =
    let r = bind_some (result_at bytes) (λ r. some (result_last r.0 r.1)) c e in
    let t = result_takes bytes r.0 r.1 in
    subst (λ (d : ComponentParts). IsContents form.ResultLast d bytes) (some_is (result_last r.0.0 r.0.1) c r.2)
    (record { inner = t.inner; has_form = refl; in_sequence = t.in_sequence; holds_body = t.holds_body; in_range = (t.is_identifier, t.is_body) })

error_takes : (bytes : List ℕ) (c : ComponentParts) → error_at bytes ≡ Some c → IsContents form.ErrorBack c bytes
unfolding error_at form_of_parts
error_takes bytes c e =
    let i = bind_some (identifier_at bytes) (λ i. body_at i.1 >>= (λ b. some (error_back i.0 b.code b.parameter))) c e in
    let b = bind_some (body_at i.0.1) (λ b. some (error_back i.0.0 b.code b.parameter)) c i.2 in
    let t = body_takes i.0.1 b.0 b.1 in
    let s = identifier_at-takes (body_fields b.0) bytes i.0 i.1 t.0 in
    subst (λ (d : ComponentParts). IsContents form.ErrorBack d bytes) (some_is (error_back i.0.0 b.0.code b.0.parameter) c b.2)
    (record { inner = None; has_form = refl; in_sequence = s.0; holds_body = tt; in_range = (s.1, t.1) })

reject_takes : (bytes : List ℕ) (c : ComponentParts) → reject_at bytes ≡ Some c → IsContents form.RejectBack c bytes
unfolding reject_at form_of_parts
reject_takes bytes c e =
    let i = bind_some (rejected_at bytes) (λ i. problem_at i.1 >>= (λ p. some (reject_back i.0 p))) c e in
    let p = bind_some (problem_at i.0.1) (λ p. some (reject_back i.0.0 p)) c i.2 in
    let t = problem_takes i.0.1 p.0 p.1 in
    let s = rejected_takes (must (problem_tag p.0.kind) (p.0.code ∷ []) ∷ []) bytes i.0 i.1 t.0 in
    subst (λ (d : ComponentParts). IsContents form.RejectBack d bytes) (some_is (reject_back i.0.0 p.0) c p.2)
    (record { inner = None; has_form = refl; in_sequence = s.0; holds_body = tt; in_range = (s.1, t.1) })

result_more_takes : (bytes : List ℕ) (c : ComponentParts) → result_more_at bytes ≡ Some c → IsContents form.ResultMore c bytes
unfolding result_more_at form_of_parts
result_more_takes bytes c e =
    let r = bind_some (result_at bytes) (λ r. some (result_more r.0 r.1)) c e in
    let t = result_takes bytes r.0 r.1 in
    subst (λ (d : ComponentParts). IsContents form.ResultMore d bytes) (some_is (result_more r.0.0 r.0.1) c r.2)
    (record { inner = t.inner; has_form = refl; in_sequence = t.in_sequence; holds_body = t.holds_body; in_range = (t.is_identifier, t.is_body) })

pub contents_takes : (f : Form) (bytes : List ℕ) (c : ComponentParts) → contents_at f bytes ≡ Some c → IsContents f c bytes
contents_takes form.Invoke bytes c e = invoke_takes bytes c e
contents_takes form.ResultLast bytes c e = result_last_takes bytes c e
contents_takes form.ErrorBack bytes c e = error_takes bytes c e
contents_takes form.RejectBack bytes c e = reject_takes bytes c e
contents_takes form.ResultMore bytes c e = result_more_takes bytes c e

pub contents_again : (c : ComponentParts) (inner : Option (List ℕ)) (bytes : List ℕ) → SpellsSequence (fields c inner) bytes → HoldsBody (body_of c) inner → InRange c → contents_at (form_of_parts c) bytes ≡ Some c
unfolding form_of_parts invoke_at result_last_at error_at reject_at result_more_at
contents_again (invoke id linked code parameter) inner bytes s h r =
    let i = identifier_at-again id (may 0x80 (option_map identifier linked) ∷ code_field code ∷ any parameter ∷ []) bytes r.0 s in
    let l = linked_again linked (code_field code ∷ any parameter ∷ []) i.0 (code-apart code (any parameter ∷ [])) r.1 i.2 in
    let b = body_again (record { code = code; parameter = parameter }) l.0 r.2 l.2 in
    rw i.1 (rw l.1 (rw b refl))
contents_again (result_last id body) inner bytes s h r = rw (result_again id body inner bytes s h r.0 r.1) refl
contents_again (error_back id code parameter) inner bytes s h r =
    let i = identifier_at-again id (code_field code ∷ any parameter ∷ []) bytes r.0 s in
    let b = body_again (record { code = code; parameter = parameter }) i.0 r.1 i.2 in
    rw i.1 (rw b refl)
contents_again (reject_back id problem) inner bytes s h r =
    let i = rejected_again id (must (problem_tag problem.kind) (problem.code ∷ []) ∷ []) bytes r.0 s in
    let p = problem_again problem i.0 r.1 i.2 in
    rw i.1 (rw p refl)
contents_again (result_more id body) inner bytes s h r = rw (result_again id body inner bytes s h r.0 r.1) refl

-- ---- the forms

pub form_again : (c : ComponentParts) → form_at (component_tag c ∷ []) ≡ Some (form_of_parts c)
unfolding form_at form_of_parts
form_again (invoke id linked code parameter) = refl
form_again (result_last id body) = refl
form_again (error_back id code parameter) = refl
form_again (reject_back id problem) = refl
form_again (result_more id body) = refl

unfoldable pub form_tag : Form → ℕ
form_tag form.Invoke = 0xa1
form_tag form.ResultLast = 0xa2
form_tag form.ErrorBack = 0xa3
form_tag form.RejectBack = 0xa4
form_tag form.ResultMore = 0xa7

turn : (n : ℕ) (j k : Form) (o : Option Form) → cond (eqb n (form_tag j)) (some j) o ≡ some k → (n ≡ form_tag k) ⊎ (o ≡ some k)
turn n j k o e = elim (cases_Bool (eqb n (form_tag j))) [
  | inl t ↦ let e = e in inl (eqb-true n (form_tag j) t ∙ ap form_tag (some_is j k (rw t at e)))
  | inr t ↦ let e = e in inr (rw t at e)
]

pub form_takes : (t : List ℕ) (f : Form) → form_at t ≡ Some f → t ≡ form_tag f ∷ []
unfolding form_at form_tag
form_takes [] f e = absurd cc
form_takes (n ∷ []) f e = ap (λ (m : ℕ). m ∷ []) (elim (turn n form.Invoke f _ e) [
  | inl p ↦ p
  | inr e ↦ elim (turn n form.ResultLast f _ e) [
    | inl p ↦ p
    | inr e ↦ elim (turn n form.ErrorBack f _ e) [
      | inl p ↦ p
      | inr e ↦ elim (turn n form.RejectBack f _ e) [
        | inl p ↦ p
        | inr e ↦ elim (turn n form.ResultMore f None e) [ inl p ↦ p | inr e ↦ absurd cc ]
      ]
    ]
  ]
])
form_takes (n ∷ m ∷ more) f e = absurd cc

-- a component of each form
pub sample : (f : Form) → (c : ComponentParts) × (component_tag c ≡ form_tag f)
unfolding form_tag
sample form.Invoke = (invoke (pos 0) None (local (pos 0)) None, refl)
sample form.ResultLast = (result_last (pos 0) None, refl)
sample form.ErrorBack = (error_back (pos 0) (local (pos 0)) None, refl)
sample form.RejectBack = (reject_back None (record { kind = kind.General; code = 0 }), refl)
sample form.ResultMore = (result_more (pos 0) None, refl)
