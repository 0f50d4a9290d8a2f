-- What a component that is taken says of the one that is read.
use Rattle.std.proofs.Common.{◌≡◌, ◌∙◌, ◌<◌, ◌≤◌, ◌++◌, List, [], ◌∷◌, ℕ, zero, suc, length, get_or, arith, Option, Some, None, Ok, Err, false, refl, sym, ap, inl, inr}
use Rattle.std.specs.Option.{is_some}
use Rattle.std.specs.Result.{result_ok}
use Rattle.ber_core.specs.Element.{Parts, IsElement}
use Rattle.ber_core.proofs.CallerLemmas.{IsElement-longer, by_result, not_some, some_is}
use Rattle.tcap_component.specs.declared.component.Form.{Form}
use Rattle.tcap_component.specs.Component.{ComponentParts, component_tag}
use Rattle.tcap_component.specs.ComponentFault.{FaultParts}
use Rattle.tcap_component.specs.ComponentReading.{component_at, form_at}
use Rattle.tcap_component.proofs.ComponentGrammar.{component_takes, form_from}

abbrev one : ComponentParts × List ℕ → Option (ComponentParts × List ℕ)
one r = Some r

abbrev none : Option (ComponentParts × List ℕ)
none = None

pub taken-read : (bytes : List ℕ) (r : ComponentParts × List ℕ) → one r ≡ result_ok (component_at bytes) → component_at bytes ≡ Ok r
taken-read bytes r is = elim (by_result (component_at bytes)) [
  | inl f ↦ let is = is in let no : one r ≡ none = rw f.1 at is in absurd cc
  | inr p ↦ let is = is in let same : one r ≡ one p.0 = rw p.1 at is in rw (some_is r p.0 same) p.1
]

pub untaken-faulty : (bytes : List ℕ) → none ≡ result_ok (component_at bytes) → (f : FaultParts) × (component_at bytes ≡ Err f)
untaken-faulty bytes is = elim (by_result (component_at bytes)) [
  | inl f ↦ f
  | inr p ↦ let is = is in let no : none ≡ one p.0 = rw p.1 at is in absurd cc
]

pub component-shorter : (bytes rest : List ℕ) (c : ComponentParts) → component_at bytes ≡ Ok (c, rest) → length rest < length bytes
component-shorter bytes rest c is =
    let t = component_takes bytes (c, rest) is in
    IsElement-longer 32 t.1.element rest bytes t.1.is_element (t.2 ∙ ap (λ (w : List ℕ). w ++ rest) t.1.is_whole)

-- ---- the first octet

-- an element begins with its tag
tag-first : (depth : ℕ) (e : Parts) → IsElement depth e → (more : List ℕ) × (e.whole ≡ e.tag ++ more)
unfolding IsElement
tag-first zero e i = (i.octets ++ e.content, i.is_whole)
tag-first (suc depth) e (inl i) = (i.octets ++ e.content, i.is_whole)
tag-first (suc depth) e (inr i) = (128 ∷ (e.content ++ (0 ∷ 0 ∷ [])), i.is_whole)

-- what begins with the tag of no component is none
formless : (first : ℕ) (tail : List ℕ) → form_at (first ∷ []) ≡ None → none ≡ result_ok (component_at (first ∷ tail))
formless first tail is = elim (by_result (component_at (first ∷ tail))) [
  | inl f ↦ rw f.1 refl
  | inr p ↦
      let t = component_takes (first ∷ tail) p.0 p.1 in
      let e = t.1.element in
      let tag : e.tag ≡ component_tag p.0.0 ∷ [] = t.1.is_component.is_tag in
      let begins = tag-first 32 e t.1.is_element in
      let octets : first ∷ tail ≡ (component_tag p.0.0 ∷ []) ++ begins.0 ++ p.0.1 = t.2 ∙ (ap (λ (w : List ℕ). w ++ p.0.1) (t.1.is_whole ∙ (begins.1 ∙ ap (λ (w : List ℕ). w ++ begins.0) tag))) in
      let same : first ≡ component_tag p.0.0 = ap (λ (w : List ℕ). get_or w 0 0) octets in
      let form = form_from e (p.0.0, tag) in
      absurd (not_some form.0 (sym is ∙ (ap (λ (b : ℕ). form_at (b ∷ [])) same ∙ (ap form_at (sym tag) ∙ form.1))))
]

pub formless-untaken : (bytes : List ℕ) (f : Option Form) → 1 ≤ length bytes → f ≡ form_at (get_or bytes 0 0 ∷ []) → is_some f ≡ false → none ≡ result_ok (component_at bytes)
formless-untaken [] f some is empty = let no : ⊥ = grind (arith, some) in absurd no
formless-untaken (first ∷ tail) None some is empty = formless first tail (sym is)
formless-untaken (first ∷ tail) (Some f) some is empty = let empty = empty in absurd cc
