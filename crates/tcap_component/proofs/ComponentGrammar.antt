-- What is read is a component, each component is read, and each fault is told.
use Rattle.std.proofs.Common.{◌≡◌, ℕ, ℤ, true, false, List, [], ◌∷◌, ◌++◌, Option, Some, None, Ok, Err, Result, refl, sym, ap, subst, ◌∙◌, inl, inr, arith}
use Rattle.std.specs.Prelude.{IfErr, IfOk, IsOk, IsOkAnd}
use Rattle.std.proofs.lemmas.Bool.{cases_Bool}
use Rattle.std.proofs.lemmas.List.{append_cancel_right}
use Rattle.ber_core.specs.declared.fault.BerFault.{BerFault}
use Rattle.ber_core.specs.Element.{Parts, IsElement}
use Rattle.ber_core.specs.ElementList.{IsList}
use Rattle.ber_core.specs.ElementReading.{element_at}
use Rattle.ber_core.specs.Sequence.{InOrder}
use Rattle.ber_core.specs.Sequence.Field.{must, may}
use Rattle.ber_core.specs.SequenceReading.{tagged, content_at, is_tag}
use Rattle.ber_core.proofs.CallerLemmas.{some, some_is, is_tag-is, not_some, by_option, by_result, refused, read_is, refused_is, not_read, not_refused, element_takes, element_again}
use Rattle.tcap_component.specs.declared.fault.ComponentFault.{ComponentFault}
use Rattle.tcap_component.specs.declared.component.Form.{Form}
use Rattle.tcap_component.specs.Views.{Reads, fault_parts}
use Rattle.tcap_component.specs.Component.{BodyParts, ComponentParts, component_tag, identifier, HoldsBody, IsComponent, SpellsComponent}
use Rattle.tcap_component.specs.Component.ComponentParts.{invoke, result_last, error_back, reject_back, result_more}
use Rattle.tcap_component.specs.ComponentFault.{FaultParts, fault, TellsIdentifier, HasComponentTag, IsResultTag, SecondIsListed, IsStructured, IsComponentFault}
use Rattle.tcap_component.specs.ComponentFault.IsComponentFault.{unreadable, unrecognized, unstructured, mistyped}
use Rattle.tcap_component.specs.ComponentReading.{contents_at, form_at, is_structured, verdict_by, front_identifier, judged, component_at}
use Rattle.tcap_component.proofs.ContentsGrammar.{form_of_parts, form_again, form_tag, form_takes, sample, contents_takes, contents_again}
use Rattle.tcap_component.proofs.FaultGrammar.{tells_takes, tells_again, structured_takes, structured_again}

-- ---- a component is structured

second-body : (b : Option BodyParts) (inner : Option (List ℕ)) (id : List ℕ) (es : List Parts) → InOrder (must 0x02 id ∷ may 0x30 inner ∷ []) es → HoldsBody b inner → SecondIsListed es
unfolding InOrder
second-body b inner id [] o h = tt
second-body b inner id (first ∷ []) o h = tt
second-body None None id (first ∷ second ∷ more) (inl o) h = absurd (elim o.1 [ inl p ↦ p.0 | inr p ↦ p.1 ])
second-body None (Some w) id (first ∷ second ∷ more) o h = absurd h
second-body (Some b) None id (first ∷ second ∷ more) o h = absurd h
second-body (Some b) (Some w) id (first ∷ second ∷ more) (inl o) h = elim o.1 [
  | inl p ↦ λ t. subst (λ (x : List ℕ). (es : List Parts) × IsList es x) (sym p.0.1) (h.elements, h.is_list)
  | inr p ↦ absurd p.1
]
second-body b inner id (first ∷ second ∷ more) (inr o) h = absurd o.0

tag_is : (n m : ℕ) (t : List ℕ) → t ≡ n ∷ [] → t ≡ m ∷ [] → n ≡ m
tag_is n m t p q = let same : n ∷ [] ≡ m ∷ [] = sym p ∙ q in cc

not_result : (n : ℕ) (t : List ℕ) → t ≡ n ∷ [] → (n ≡ 0xa2 → ⊥) → (n ≡ 0xa7 → ⊥) → IsResultTag t → ⊥
not_result n t is p q (inl h) = p (tag_is n 0xa2 t is h)
not_result n t is p q (inr h) = q (tag_is n 0xa7 t is h)

second-of : (c : ComponentParts) (e : Parts) (h : IsComponent c e) → IsResultTag e.tag → SecondIsListed h.in_sequence.elements
second-of (invoke id linked code parameter) e h r = absurd (not_result 0xa1 e.tag h.is_tag (λ x. absurd (omega (arith, x))) (λ x. absurd (omega (arith, x))) r)
second-of (result_last id body) e h r = second-body body h.inner (identifier id) h.in_sequence.elements h.in_sequence.in_order h.holds_body
second-of (error_back id code parameter) e h r = absurd (not_result 0xa3 e.tag h.is_tag (λ x. absurd (omega (arith, x))) (λ x. absurd (omega (arith, x))) r)
second-of (reject_back id problem) e h r = absurd (not_result 0xa4 e.tag h.is_tag (λ x. absurd (omega (arith, x))) (λ x. absurd (omega (arith, x))) r)
second-of (result_more id body) e h r = second-body body h.inner (identifier id) h.in_sequence.elements h.in_sequence.in_order h.holds_body

component-structured : (c : ComponentParts) (e : Parts) → IsComponent c e → IsStructured e
component-structured c e h = record { elements = h.in_sequence.elements; is_list = h.in_sequence.is_list; second = second-of c e h }

-- ---- one element

has_form : (c : ComponentParts) (e : Parts) → IsComponent c e → form_at e.tag ≡ Some (form_of_parts c)
has_form c e h = ap form_at h.is_tag ∙ form_again c

contents_are : (c : ComponentParts) (e : Parts) → IsComponent c e → contents_at (form_of_parts c) e.content ≡ Some c
contents_are c e h = contents_again c h.inner e.content h.in_sequence h.holds_body h.in_range

is_component : (e : Parts) (f : Form) (c : ComponentParts) → form_at e.tag ≡ Some f → contents_at f e.content ≡ Some c → IsComponent c e
is_component e f c t h =
    let s = contents_takes f e.content c h in
    let same : component_tag c ≡ form_tag f = tag_is (component_tag c) (form_tag f) (component_tag c ∷ []) refl (form_takes (component_tag c ∷ []) f (form_again c ∙ ap (λ (g : Form). some g) s.has_form)) in
    record { inner = s.inner; is_tag = form_takes e.tag f t ∙ ap (λ (n : ℕ). n ∷ []) (sym same); in_sequence = s.in_sequence; holds_body = s.holds_body; in_range = s.in_range }

-- contents that are read are a list of elements, and so those of a 30 in them
pub verdict_read : (tag content : List ℕ) (f : Form) (c : ComponentParts) → form_at tag ≡ Some f → contents_at f content ≡ Some c → verdict_by (form_at tag) content ≡ Ok c
verdict_read tag content f c t h =
    let e : Parts = record { tag = tag; content = content; whole = [] } in
    rw (t, structured_again e f t (component-structured c e (is_component e f c t h)), h) refl

has_tag : (e : Parts) (f : Form) → form_at e.tag ≡ Some f → HasComponentTag e
has_tag e f t = let s = sample f in (s.0, form_takes e.tag f t ∙ ap (λ (n : ℕ). n ∷ []) (sym s.1))

pub form_from : (e : Parts) → HasComponentTag e → (f : Form) × (form_at e.tag ≡ Some f)
form_from e h = (form_of_parts h.0, ap form_at h.1 ∙ form_again h.0)

abbrev pub Verdict : Parts → List ℕ → Result ComponentParts ℕ → Type 0
Verdict e rest (Ok c) = IsComponent c e
Verdict e rest (Err code) = IsComponentFault (e.whole ++ rest) (fault code (front_identifier e) (e.whole ++ rest))

none_reads : (e : Parts) (f : Form) → form_at e.tag ≡ Some f → contents_at f e.content ≡ None → (c : ComponentParts) → IsComponent c e → ⊥
none_reads e f t n c h =
    let same : form_of_parts c ≡ f = some_is (form_of_parts c) f (sym (has_form c e h) ∙ t) in
    not_some c (sym n ∙ (ap (λ (g : Form). contents_at g e.content) (sym same) ∙ contents_are c e h))

contents_judged : (e : Parts) (rest : List ℕ) (f : Form) → IsElement 32 e → form_at e.tag ≡ Some f → Verdict e rest (verdict_by (Some f) e.content)
contents_judged e rest f i t = elim (cases_Bool (is_structured f e.content)) [
  | inl y ↦ elim (by_option (contents_at f e.content)) [
    | inl n ↦ rw (y, n) (mistyped e rest (front_identifier e) i (has_tag e f t) (structured_takes e f t y) (none_reads e f t n) (tells_takes e))
    | inr c ↦ rw (y, c.1) (is_component e f c.0 t c.1)
  ]
  | inr n ↦ rw n (unstructured e rest (front_identifier e) i (has_tag e f t) (λ s. let both : true ≡ false = sym (structured_again e f t s) ∙ n in absurd cc) (tells_takes e))
]

pub element_judged : (e : Parts) (rest : List ℕ) → IsElement 32 e → Verdict e rest (verdict_by (form_at e.tag) e.content)
element_judged e rest i = elim (by_option (form_at e.tag)) [
  | inl n ↦ rw n (unrecognized e rest (front_identifier e) i (λ h. let f = form_from e h in not_some f.0 (sym n ∙ f.1)) (tells_takes e))
  | inr f ↦ rw f.1 (contents_judged e rest f.0 i f.1)
]

-- ---- each way through a reading

abbrev pub Read : List ℕ → Result (ComponentParts × List ℕ) FaultParts → Type 0
Read bytes (Ok r) = (whole : List ℕ) × SpellsComponent r.0 whole × (bytes ≡ whole ++ r.1)
Read bytes (Err f) = IsComponentFault bytes f

judged_read : (e : Parts) (rest : List ℕ) → IsElement 32 e → (v : Result ComponentParts ℕ) → Verdict e rest v → Read (e.whole ++ rest) (judged (e.whole ++ rest) (e, rest) v)
judged_read e rest i (Ok c) h = (e.whole, record { element = e; is_element = i; is_whole = refl; is_component = h }, refl)
judged_read e rest i (Err code) h = h

at_element : (e : Parts) (rest : List ℕ) → IsElement 32 e → component_at (e.whole ++ rest) ≡ judged (e.whole ++ rest) (e, rest) (verdict_by (form_at e.tag) e.content)
unfolding component_at
at_element e rest i = rw (element_again 32 e rest i) refl

at_none : (bytes : List ℕ) (f : BerFault) → element_at 32 bytes ≡ Err f → component_at bytes ≡ Err (fault 2 None bytes)
unfolding component_at
at_none bytes f e = rw e refl

no_element : (bytes : List ℕ) (f : BerFault) → element_at 32 bytes ≡ Err f → (e : Parts) (rest : List ℕ) → IsElement 32 e → bytes ≡ e.whole ++ rest → ⊥
no_element bytes f n e rest i is = not_refused f (e, rest) (sym (element_again 32 e rest i) ∙ (ap (element_at 32) (sym is) ∙ n))

pub component_read : (bytes : List ℕ) → Read bytes (component_at bytes)
component_read bytes = elim (by_result (element_at 32 bytes)) [
  | inl f ↦ subst (Read bytes) (sym (at_none bytes f.0 f.1)) (unreadable bytes (no_element bytes f.0 f.1))
  | inr r ↦
      let t = element_takes 32 bytes r.0 r.1 in
      subst (λ (w : List ℕ). Read w (component_at w)) (sym t.1)
      (subst (Read (r.0.0.whole ++ r.0.1)) (sym (at_element r.0.0 r.0.1 t.0)) (judged_read r.0.0 r.0.1 t.0 _ (element_judged r.0.0 r.0.1 t.0)))
]

pub component_takes : (bytes : List ℕ) (r : ComponentParts × List ℕ) → component_at bytes ≡ Ok r → (whole : List ℕ) × SpellsComponent r.0 whole × (bytes ≡ whole ++ r.1)
component_takes bytes r e = subst (Read bytes) e (component_read bytes)

pub component_fails : (bytes : List ℕ) (f : FaultParts) → component_at bytes ≡ Err f → IsComponentFault bytes f
component_fails bytes f e = subst (Read bytes) e (component_read bytes)

component_verdict : (c : ComponentParts) (e : Parts) → IsComponent c e → verdict_by (form_at e.tag) e.content ≡ Ok c
component_verdict c e h =
    rw (has_form c e h) (rw (structured_again e (form_of_parts c) (has_form c e h) (component-structured c e h), contents_are c e h) refl)

pub component_again : (c : ComponentParts) (whole rest : List ℕ) → SpellsComponent c whole → component_at (whole ++ rest) ≡ Ok (c, rest)
component_again c whole rest h =
    ap (λ (w : List ℕ). component_at (w ++ rest)) h.is_whole
    ∙ (at_element h.element rest h.is_element
    ∙ ap (λ (v : Result ComponentParts ℕ). judged (h.element.whole ++ rest) (h.element, rest) v) (component_verdict c h.element h.is_component))

told_by : (e : Parts) (rest : List ℕ) (id : Option ℤ) (code : ℕ) → IsElement 32 e → TellsIdentifier e id → verdict_by (form_at e.tag) e.content ≡ Err code → component_at (e.whole ++ rest) ≡ Err (fault code id (e.whole ++ rest))
told_by e rest id code i t v =
    at_element e rest i
    ∙ (ap (λ (w : Result ComponentParts ℕ). judged (e.whole ++ rest) (e, rest) w) v
    ∙ ap (λ (o : Option ℤ). refused {A = ComponentParts × List ℕ} (fault code o (e.whole ++ rest))) (tells_again e id t))

pub component_told : (bytes : List ℕ) (f : FaultParts) → IsComponentFault bytes f → component_at bytes ≡ Err f
component_told bytes f (unreadable w h) = elim (by_result (element_at 32 w)) [
  | inl d ↦ at_none w d.0 d.1
  | inr r ↦ let t = element_takes 32 w r.0 r.1 in absurd (h r.0.0 r.0.1 t.0 t.1)
]
component_told bytes f (unrecognized e rest id i h t) = elim (by_option (form_at e.tag)) [
  | inl n ↦ told_by e rest id 0 i t (rw n refl)
  | inr k ↦ absurd (h (has_tag e k.0 k.1))
]
component_told bytes f (unstructured e rest id i g h t) =
    let k = form_from e g in
    elim (cases_Bool (is_structured k.0 e.content)) [
      | inl y ↦ absurd (h (structured_takes e k.0 k.1 y))
      | inr n ↦ told_by e rest id 2 i t (rw (k.1, n) refl)
    ]
component_told bytes f (mistyped e rest id i g s h t) =
    let k = form_from e g in
    elim (by_option (contents_at k.0 e.content)) [
      | inl n ↦ told_by e rest id 1 i t (rw (k.1, structured_again e k.0 k.1 s, n) refl)
      | inr c ↦ absurd (h c.0 (is_component e k.0 c.0 k.1 c.1))
    ]

-- contents that are read in an element of this form's tag are those of the first component
pub component_here : (tag : ℕ) (f : Form) (bytes : List ℕ) (r : List ℕ × List ℕ) (c : ComponentParts) → form_at (tag ∷ []) ≡ Some f → content_at tag bytes ≡ Some r → contents_at f r.0 ≡ Some c → component_at bytes ≡ Ok (c, r.1)
unfolding tagged component_at
component_here tag f bytes r c t h k = elim (by_result (element_at 32 bytes)) [
  | inl d ↦ let h = h in let no : None ≡ some r = rw d.1 at h in absurd cc
  | inr p ↦ elim (cases_Bool (is_tag tag p.0.0.tag)) [
    | inl y ↦
        let h = h in
        let same : some (p.0.0.content, p.0.1) ≡ some r = rw (p.1, y) at h in
        let pair = some_is (p.0.0.content, p.0.1) r same in
        let form = ap form_at (is_tag-is tag p.0.0.tag y) ∙ t in
        let read = ap (λ (q : List ℕ × List ℕ). contents_at f q.0) pair ∙ k in
        rw (p.1, verdict_read p.0.0.tag p.0.0.content f c form read) (ap (λ (q : List ℕ × List ℕ). Ok (c, q.1)) pair)
    | inr n ↦ let h = h in let no : None ≡ some r = rw (p.1, n) at h in absurd cc
  ]
]

-- contents that aren't read make it a faulty one
verdict_unread : (tag content : List ℕ) (f : Form) → form_at tag ≡ Some f → contents_at f content ≡ None → (code : ℕ) × (verdict_by (form_at tag) content ≡ Err code)
verdict_unread tag content f t k = elim (cases_Bool (is_structured f content)) [
  | inl y ↦ (1, rw (t, y, k) refl)
  | inr n ↦ (2, rw (t, n) refl)
]

pub none_here : (tag : ℕ) (f : Form) (bytes : List ℕ) (r : List ℕ × List ℕ) → form_at (tag ∷ []) ≡ Some f → content_at tag bytes ≡ Some r → contents_at f r.0 ≡ None → IsOk (component_at bytes) → ⊥
unfolding tagged component_at
none_here tag f bytes r t h k ok = elim (by_result (element_at 32 bytes)) [
  | inl d ↦ let h = h in let no : None ≡ some r = rw d.1 at h in absurd cc
  | inr p ↦ elim (cases_Bool (is_tag tag p.0.0.tag)) [
    | inl y ↦
        let h = h in
        let same : some (p.0.0.content, p.0.1) ≡ some r = rw (p.1, y) at h in
        let pair = some_is (p.0.0.content, p.0.1) r same in
        let form = ap form_at (is_tag-is tag p.0.0.tag y) ∙ t in
        let unread = ap (λ (q : List ℕ × List ℕ). contents_at f q.0) pair ∙ k in
        let verdict = verdict_unread p.0.0.tag p.0.0.content f form unread in
        let ok = ok in
        let no : IsOk (refused {A = ComponentParts × List ℕ} (fault verdict.0 (front_identifier p.0.0) bytes)) = rw (p.1, verdict.1) at ok in
        absurd cc
    | inr n ↦ let h = h in let no : None ≡ some r = rw (p.1, n) at h in absurd cc
  ]
]

-- ---- the laws and the clauses of read_component

pub one_component : (c d : ComponentParts) (v w x y : List ℕ) → SpellsComponent c v → SpellsComponent d w → v ++ x ≡ w ++ y → (c ≡ d) × (x ≡ y)
one_component c d v w x y p q e =
    let same : (c, x) ≡ (d, y) = read_is {E = FaultParts} (c, x) (d, y) (sym (component_again c v x p) ∙ (ap component_at e ∙ component_again d w y q)) in
    (ap (λ (r : ComponentParts × List ℕ). r.0) same, ap (λ (r : ComponentParts × List ℕ). r.1) same)

-- equal octets begin with equal components
pub same_octets : (c d : ComponentParts) (v w x y : List ℕ) → SpellsComponent c v → SpellsComponent d w → v ++ x ≡ w ++ y → (c ≡ d) × (v ≡ w) × (x ≡ y)
same_octets c d v w x y p q e =
    let one = one_component c d v w x y p q e in
    (one.0, append_cancel_right v w y (ap (λ (z : List ℕ). v ++ z) (sym one.1) ∙ e), one.1)

pub one_fault : (bytes : List ℕ) (f g : FaultParts) → IsComponentFault bytes f → IsComponentFault bytes g → f ≡ g
one_fault bytes f g p q = refused_is {A = ComponentParts × List ℕ} f g (sym (component_told bytes f p) ∙ component_told bytes g q)

pub no_component : (c : ComponentParts) (whole rest : List ℕ) (f : FaultParts) → SpellsComponent c whole → IsComponentFault (whole ++ rest) f → ⊥
no_component c whole rest f p q = not_refused f (c, rest) (sym (component_again c whole rest p) ∙ component_told (whole ++ rest) f q)

module _ {X : Type 0} (view : X → ComponentParts × List ℕ) (bytes : List ℕ) where
  pub found : (r : Result X ComponentFault) → Reads view r (component_at bytes) → IfOk r (λ x. (whole : List ℕ) × SpellsComponent (view x).0 whole × (bytes ≡ whole ++ (view x).1))
  found (Ok x) e = component_takes bytes (view x) e
  found (Err f) e = tt

  pub fails : (r : Result X ComponentFault) → Reads view r (component_at bytes) → IfErr r (λ f. IsComponentFault bytes (fault_parts f))
  fails (Ok x) e = tt
  fails (Err f) e = component_fails bytes (fault_parts f) e

  pub only : (r : Result X ComponentFault) → Reads view r (component_at bytes) → (c : ComponentParts) (whole rest : List ℕ) → SpellsComponent c whole → bytes ≡ whole ++ rest → IsOkAnd r (λ x. ((view x).0 ≡ c) × ((view x).1 ≡ rest))
  only (Ok x) e c whole rest h is =
      let same = read_is {E = FaultParts} (view x) (c, rest) (sym e ∙ (ap component_at is ∙ component_again c whole rest h)) in
      (ap (λ (r : ComponentParts × List ℕ). r.0) same, ap (λ (r : ComponentParts × List ℕ). r.1) same)
  only (Err f) e c whole rest h is = absurd (not_read (fault_parts f) (c, rest) (sym e ∙ (ap component_at is ∙ component_again c whole rest h)))
