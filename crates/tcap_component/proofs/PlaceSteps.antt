-- Steps to the place of a component's slices.
use Rattle.std.proofs.Common.{◌≡◌, ℕ, List, [], ◌∷◌, ◌++◌, length, Option, Some, None, Ok, sym, ap, subst, ◌∙◌, arith, refl, inl, inr, length-append, eqb, false, take, drop, ◌-◌}
use Rattle.std.proofs.lemmas.List.{length-drop, take_all}
use Rattle.std.specs.Prelude.{IfSome, option_copied}
use Rattle.ber_core.specs.Element.{Parts}
use Rattle.ber_core.specs.ElementReading.{element_at}
use Rattle.ber_core.specs.Place.{Slice, AtFront, AtEnd}
use Rattle.ber_core.specs.SequenceReading.{tagged, first_whole}
use Rattle.ber_core.specs.Way.{inside, way_to, IsInside, GoesOn, IsOnWay}
use Rattle.ber_core.proofs.CallerLemmas.{by_result, element_takes, goes-past, way-in, some, some_is}
use Rattle.tcap_component.specs.declared.component.Code.{Code}
use Rattle.tcap_component.specs.declared.component.Code.TheVariants as code
use Rattle.tcap_component.specs.declared.component.Body.{Body}
use Rattle.tcap_component.specs.declared.component.Component.{Component}
use Rattle.tcap_component.specs.declared.component.Component.TheVariants as component
use Rattle.tcap_component.specs.Component.{ComponentParts, component_tag}
use Rattle.tcap_component.specs.ComponentReading.{form_at, verdict_by}
use Rattle.tcap_component.specs.Place.{content_on, EndsOnWay, CodeOnWay, CodedOnWay, BodyOnWay, FieldsOnWay}
use Rattle.tcap_component.proofs.ComponentGrammar.{Verdict, element_judged}

-- ---- behind an element with one octet of content

pub rest_is : (bytes : List ℕ) → take (length bytes - 3) (drop 3 bytes) ≡ drop 3 bytes
rest_is bytes = take_all _ (drop 3 bytes) (omega (arith, length-drop 3 bytes))

pub octet-goes : (other : ℕ) (rest bytes : Slice) (octet : ℕ) → tagged 2 bytes.now ≡ (Some (octet ∷ []), rest.now) → AtEnd rest bytes → eqb 2 other ≡ false → GoesOn other rest bytes
octet-goes other rest bytes octet is at ne =
    goes-past other 2 rest bytes (tagged 2 bytes.now).0 ne refl (ap (λ (p : Option (List ℕ) × List ℕ). p.1) is) at

-- ---- from what is left to all bytes

pub ends-all : (part bytes : Slice) → AtEnd part bytes → EndsOnWay [] part bytes
unfolding way_to content_on
ends-all part bytes h = (h.0, omega (arith, h.1))

pub ends-rest : (part rest bytes : Slice) → AtEnd rest bytes → EndsOnWay [] part rest → EndsOnWay [] part bytes
unfolding way_to content_on
ends-rest part rest bytes h e = (e.0 ∙ h.0, omega (arith, e.1, h.1))

way-rest : (tag : ℕ) (part rest bytes : Slice) → GoesOn tag rest bytes → IsOnWay (tag ∷ []) part rest → IsOnWay (tag ∷ []) part bytes
unfolding way_to
way-rest tag part rest bytes g w = (w.0 ∙ g.0.0, omega (arith, w.1, g.2, g.0.1))

code-rest : (c : Code) (rest bytes : Slice) → GoesOn 0x06 rest bytes → CodeOnWay [] c rest → CodeOnWay [] c bytes
code-rest (code.Local number) rest bytes g h = tt
code-rest (code.Global octets) rest bytes g h = way-rest 0x06 octets rest bytes g h

parameter-rest : (o : Option Slice) (rest bytes : Slice) → AtEnd rest bytes → IfSome o (λ octets. EndsOnWay [] octets rest) → IfSome o (λ octets. EndsOnWay [] octets bytes)
parameter-rest None rest bytes e h = tt
parameter-rest (Some w) rest bytes e h = ends-rest w rest bytes e h

-- what is read of the bytes behind other tags lies so in all bytes
pub coded-rest : (c : Code) (o : Option Slice) (rest bytes : Slice) → GoesOn 0x06 rest bytes → CodedOnWay [] c o rest → CodedOnWay [] c o bytes
coded-rest c o rest bytes g h = (code-rest c rest bytes g h.0, parameter-rest o rest bytes g.0 h.1)

-- ---- from a content to the bytes that it lies in

pub ends-in : (tag : ℕ) (tags : List ℕ) (part mid bytes : Slice) → IsInside tag mid bytes → EndsOnWay tags part mid → EndsOnWay (tag ∷ tags) part bytes
unfolding way_to content_on
ends-in tag tags part mid bytes i e =
    let way : way_to tags (inside tag bytes.now).1 ≡ way_to tags mid.now = ap (way_to tags) i.0 in
    let len : length (content_on tags (inside tag bytes.now).1) ≡ length (content_on tags mid.now) = ap (λ (w : List ℕ). length (content_on tags w)) i.0 in
    (e.0 ∙ i.1.0, omega (arith, e.1, i.1.1, way, len))

code-in : (tag : ℕ) (tags : List ℕ) (c : Code) (mid bytes : Slice) → IsInside tag mid bytes → CodeOnWay tags c mid → CodeOnWay (tag ∷ tags) c bytes
code-in tag tags (code.Local number) mid bytes i h = tt
code-in tag tags (code.Global octets) mid bytes i h = way-in tag (tags ++ 0x06 ∷ []) octets mid bytes i h

parameter-in : (tag : ℕ) (tags : List ℕ) (o : Option Slice) (mid bytes : Slice) → IsInside tag mid bytes → IfSome o (λ octets. EndsOnWay tags octets mid) → IfSome o (λ octets. EndsOnWay (tag ∷ tags) octets bytes)
parameter-in tag tags None mid bytes i h = tt
parameter-in tag tags (Some w) mid bytes i h = ends-in tag tags w mid bytes i h

pub coded-in : (tag : ℕ) (tags : List ℕ) (c : Code) (o : Option Slice) (mid bytes : Slice) → IsInside tag mid bytes → CodedOnWay tags c o mid → CodedOnWay (tag ∷ tags) c o bytes
coded-in tag tags c o mid bytes i h = (code-in tag tags c mid bytes i h.0, parameter-in tag tags o mid bytes i h.1)

pub body-in : (tag : ℕ) (tags : List ℕ) (b : Option Body) (mid bytes : Slice) → IsInside tag mid bytes → BodyOnWay tags b mid → BodyOnWay (tag ∷ tags) b bytes
body-in tag tags None mid bytes i h = tt
body-in tag tags (Some b) mid bytes i h = coded-in tag tags b.code b.parameter mid bytes i h

pub fields-in : (tag : ℕ) (c : Component) (mid bytes : Slice) → IsInside tag mid bytes → FieldsOnWay [] c mid → FieldsOnWay (tag ∷ []) c bytes
fields-in tag (component.Invoke id linked c parameter) mid bytes i h = coded-in tag [] c parameter mid bytes i h
fields-in tag (component.ResultLast id body) mid bytes i h = body-in tag (0x30 ∷ []) body mid bytes i h
fields-in tag (component.ResultMore id body) mid bytes i h = body-in tag (0x30 ∷ []) body mid bytes i h
fields-in tag (component.ErrorBack id c parameter) mid bytes i h = coded-in tag [] c parameter mid bytes i h
fields-in tag (component.RejectBack id problem) mid bytes i h = tt

-- ---- an element of any tag that is the last

pub whole-last : (bytes w : List ℕ) → (first_whole bytes).0 ≡ Some w → length (first_whole bytes).1 ≡ 0 → length w ≡ length bytes
unfolding first_whole
whole-last bytes w is none = elim (by_result (element_at 32 bytes)) [
  | inl f ↦ let is = is in let no : None ≡ some w = rw f.1 at is in absurd cc
  | inr r ↦
      let is = is in
      let none = none in
      let t = element_takes 32 bytes r.0 r.1 in
      let same : some r.0.0.whole ≡ some w = rw r.1 at is in
      let rest : length r.0.1 ≡ 0 = rw r.1 at none in
      let one = ap length (some_is r.0.0.whole w same) in
      let all = ap length t.1 ∙ length-append r.0.0.whole r.0.1 in
      omega (arith, one, all, rest)
]

-- ---- the tag of a component that was read

pub judged-tag : (e : Parts) (rest bytes : List ℕ) (c : ComponentParts) → element_at 32 bytes ≡ Ok (e, rest) → verdict_by (form_at e.tag) e.content ≡ Ok c → e.tag ≡ component_tag c ∷ []
judged-tag e rest bytes c is h = (subst (Verdict e rest) h (element_judged e rest (element_takes 32 bytes (e, rest) is).0)).is_tag

-- an element that is the last of what is left ends where the bytes end
pub last-ends : (o : Option Slice) (more : List ℕ) (rest bytes : Slice) → (option_copied o, more) ≡ first_whole rest.now → IfSome o (λ w. AtFront w rest) → length more ≡ 0 → AtEnd rest bytes → IfSome o (λ w. EndsOnWay [] w bytes)
last-ends None more rest bytes is front none at = tt
last-ends (Some w) more rest bytes is front none at =
    let len : length w.now ≡ length rest.now = whole-last rest.now w.now (ap (λ (p : Option (List ℕ) × List ℕ). p.0) (sym is)) (ap (λ (p : Option (List ℕ) × List ℕ). length p.1) (sym is) ∙ none) in
    let begin : w.ref_ptr.1 ≡ rest.ref_ptr.1 = ap (λ (q : ℕ × ℕ). q.1) front in
    ends-rest w rest bytes at (ends-all w rest (ap (λ (q : ℕ × ℕ). q.0) front, omega (arith, len, begin)))
