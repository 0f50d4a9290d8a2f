-- An element that stands in the table of components is a component.
use Rattle.std.proofs.Common.{◌≡◌, ℕ, List, [], ◌∷◌, ◌++◌, Option, Some, refl, sym, ap, subst, ◌∙◌, arith, inl, inr}
use Rattle.ber_core.specs.Element.{Parts, IsElement}
use Rattle.ber_core.specs.ElementList.{IsList}
use Rattle.ber_core.proofs.CallerLemmas.{list_from}
use Rattle.tcap_component.specs.Component.{ComponentParts, IsComponent}
use Rattle.tcap_component.specs.ComponentFault.{FaultParts, IsResultTag, IsListed, SecondIsListed, IsStructured, IsComponentFault}
use Rattle.tcap_component.specs.ComponentFault.IsComponentFault.{unreadable, unrecognized, unstructured, mistyped}
use Rattle.tcap_explain.specs.declared.contents.Contents.TheVariants as contents
use Rattle.tcap_explain.specs.declared.line.Line.{Line}
use Rattle.tcap_explain.specs.declared.line.Line.TheVariants as line
use Rattle.tcap_explain.specs.declared.line.ListLine.TheVariants as list
use Rattle.tcap_explain.specs.declared.line.ComponentLine.TheVariants as component
use Rattle.tcap_explain.specs.declared.table.Inside.{Inside}
use Rattle.tcap_explain.specs.declared.table.Inside.TheVariants as inside
use Rattle.tcap_explain.specs.Choice.{Choice, leads, only, either}
use Rattle.tcap_explain.specs.Table.{next, may_end}
use Rattle.tcap_explain.specs.Unmet.{Stands}
use Rattle.tcap_explain.specs.Unmet.Stands.{ends, begins}
use Rattle.tcap_explain.proofs.StandsLemmas.{elements-stand, listed-stand, same_begin, AreListed, either-some, either-other, only-takes, only-other, some-takes, elements-listed}
use Rattle.tcap_explain.proofs.ComponentParts.{HasContents, invoke-contents, error-contents, last-contents, more-contents, reject-contents}

abbrev anything : Line
anything = line.List list.Elements

-- ---- lists in a result

abbrev FirstIsListed : List Parts → Type 0
FirstIsListed [] = Unit {0}
FirstIsListed (e ∷ es) = e.tag ≡ 0x30 ∷ [] → IsListed e.content

second-list : (bytes : List ℕ) → Stands (line.Component component.ResultListSecond) bytes → (es : List Parts) × IsList es bytes × FirstIsListed es
unfolding next may_end
second-list bytes (ends l m) = ([], record { each = tt; is_joined = refl }, tt)
second-list bytes (begins l t held e rest i n h s) =
    let first = only 0x30 e.tag (inside.Elements anything) anything in
    let second = (let x : Option Choice = Some (leads (inside.Octets contents.Any) anything) in x) in
    elim (either-other first second (leads held t) n) [
      | inl n ↦
          let k = only-takes 0x30 held (inside.Elements anything) anything t e rest n h s in
          let r = elements-listed rest k.2 in
          (e ∷ r.0, list_from e (e.whole ++ rest) rest r.0 i refl r.1, λ tag. elements-listed e.content (elements-stand anything e.content k.1))
      | inr n ↦
          let k = some-takes held (inside.Octets contents.Any) anything t e rest n.1 h s in
          let r = elements-listed rest k.1 in
          (e ∷ r.0, list_from e (e.whole ++ rest) rest r.0 i refl r.1, λ tag. absurd (only-other 0x30 e.tag (inside.Elements anything) anything n.0 tag))
    ]

second-of : (e : Parts) (es : List Parts) → FirstIsListed es → SecondIsListed (e ∷ es)
second-of e [] h = tt
second-of e (f ∷ fs) h = h

result-list : (bytes : List ℕ) → Stands (line.Component component.ResultList) bytes → (es : List Parts) × IsList es bytes × SecondIsListed es
unfolding next may_end
result-list bytes (ends l m) = ([], record { each = tt; is_joined = refl }, tt)
result-list bytes (begins l t held e rest i n h s) =
    let k = some-takes held (inside.Octets contents.Any) (line.Component component.ResultListSecond) t e rest n h s in
    let r = second-list rest k.1 in
    (e ∷ r.0, list_from e (e.whole ++ rest) rest r.0 i refl r.1, second-of e r.0 r.2)

-- ---- components

abbrev IsAccepted : Parts → Type 0
IsAccepted e = (c : ComponentParts) × IsComponent c e × IsStructured e

plain : (tag : ℕ) (e : Parts) → e.tag ≡ tag ∷ [] → (IsResultTag (tag ∷ []) → ⊥) → AreListed e.content → IsStructured e
plain tag e t other l = record { elements = l.0; is_list = l.1; second = λ r. absurd (other (subst IsResultTag t r)) }

accepted : (tag : ℕ) (e : Parts) → e.tag ≡ tag ∷ [] → HasContents tag e.content → IsStructured e → IsAccepted e
accepted tag e t c s = (c.0, record { inner = c.2; is_tag = t ∙ ap (λ (n : ℕ). n ∷ []) (sym c.1); in_sequence = c.3; holds_body = c.4; in_range = c.5 }, s)

abbrev first_octet : List ℕ → ℕ
first_octet [] = 0
first_octet (b ∷ octets) = b

not_invoke : IsResultTag (0xa1 ∷ []) → ⊥
not_invoke (inl e) = let no : 161 ≡ 162 = ap first_octet e in omega (arith, no)
not_invoke (inr e) = let no : 161 ≡ 167 = ap first_octet e in omega (arith, no)

not_error : IsResultTag (0xa3 ∷ []) → ⊥
not_error (inl e) = let no : 163 ≡ 162 = ap first_octet e in omega (arith, no)
not_error (inr e) = let no : 163 ≡ 167 = ap first_octet e in omega (arith, no)

not_reject : IsResultTag (0xa4 ∷ []) → ⊥
not_reject (inl e) = let no : 164 ≡ 162 = ap first_octet e in omega (arith, no)
not_reject (inr e) = let no : 164 ≡ 167 = ap first_octet e in omega (arith, no)

result : (tag : ℕ) (e : Parts) → e.tag ≡ tag ∷ [] → HasContents tag e.content → Stands (line.Component component.ResultList) e.content → IsAccepted e
result tag e t c s =
    let l = result-list e.content s in
    accepted tag e t c (record { elements = l.0; is_list = l.1; second = λ r. l.2 })

abbrev BeginsWithComponent : List ℕ → Type 0
BeginsWithComponent bytes = (e : Parts) × (rest : List ℕ) × IsElement 32 e × (bytes ≡ e.whole ++ rest) × IsAccepted e

abbrev twice : Line → Line → Inside
twice a b = inside.Listed a b

component-stands : (bytes : List ℕ) → Stands (line.Component component.ComponentType) bytes → BeginsWithComponent bytes
unfolding next may_end
component-stands bytes (ends l m) = absurd cc
component-stands bytes (begins l t held e rest i n h s) =
    let invoke_line = line.Component component.InvokeId in
    let result_line = line.Component component.ResultId in
    let listed_line = line.Component component.ResultList in
    let error_line = line.Component component.ErrorId in
    let reject_line = line.Component component.RejectId in
    let fifth = only 0xa7 e.tag (twice listed_line result_line) anything in
    let fourth = either (only 0xa4 e.tag (twice anything reject_line) anything) fifth in
    let third = either (only 0xa3 e.tag (twice anything error_line) anything) fourth in
    let second = either (only 0xa2 e.tag (twice listed_line result_line) anything) third in (
      e,
      rest,
      i,
      refl,
      elim (either-some (only 0xa1 e.tag (twice anything invoke_line) anything) second (leads held t) n) [
        | inl n ↦
            let k = only-takes 0xa1 held (twice anything invoke_line) anything t e rest n h s in
            let l = listed-stand anything invoke_line e.content k.1 in
            accepted 0xa1 e k.0 (invoke-contents e.content l.1) (plain 0xa1 e k.0 not_invoke (elements-listed e.content l.0))
        | inr n ↦ elim (either-some (only 0xa2 e.tag (twice listed_line result_line) anything) third (leads held t) n) [
          | inl n ↦
              let k = only-takes 0xa2 held (twice listed_line result_line) anything t e rest n h s in
              let l = listed-stand listed_line result_line e.content k.1 in
              result 0xa2 e k.0 (last-contents e.content l.1) l.0
          | inr n ↦ elim (either-some (only 0xa3 e.tag (twice anything error_line) anything) fourth (leads held t) n) [
            | inl n ↦
                let k = only-takes 0xa3 held (twice anything error_line) anything t e rest n h s in
                let l = listed-stand anything error_line e.content k.1 in
                accepted 0xa3 e k.0 (error-contents e.content l.1) (plain 0xa3 e k.0 not_error (elements-listed e.content l.0))
            | inr n ↦ elim (either-some (only 0xa4 e.tag (twice anything reject_line) anything) fifth (leads held t) n) [
              | inl n ↦
                  let k = only-takes 0xa4 held (twice anything reject_line) anything t e rest n h s in
                  let l = listed-stand anything reject_line e.content k.1 in
                  accepted 0xa4 e k.0 (reject-contents e.content l.1) (plain 0xa4 e k.0 not_reject (elements-listed e.content l.0))
              | inr n ↦
                  let k = only-takes 0xa7 held (twice listed_line result_line) anything t e rest n h s in
                  let l = listed-stand listed_line result_line e.content k.1 in
                  result 0xa7 e k.0 (more-contents e.content l.1) l.0
            ]
          ]
        ]
      ],
    )

-- what stands in the table of components has no fault of a component
pub no_fault : (bytes : List ℕ) (f : FaultParts) → IsComponentFault bytes f → Stands (line.Component component.ComponentType) bytes → ⊥
no_fault bytes f (unreadable all none) s = let r = component-stands all s in none r.0 r.1 r.2 r.3
no_fault bytes f (unrecognized e rest id i none tells) s =
    let r = component-stands (e.whole ++ rest) s in
    let same = same_begin e r.0 rest r.1 i r.2 r.3 in
    none (r.4.0, ap (λ (p : Parts). p.tag) same ∙ r.4.1.is_tag)
no_fault bytes f (unstructured e rest id i tag none tells) s =
    let r = component-stands (e.whole ++ rest) s in
    none (subst IsStructured (sym (same_begin e r.0 rest r.1 i r.2 r.3)) r.4.2)
no_fault bytes f (mistyped e rest id i tag structured none tells) s =
    let r = component-stands (e.whole ++ rest) s in
    none r.4.0 (subst (IsComponent r.4.0) (sym (same_begin e r.0 rest r.1 i r.2 r.3)) r.4.1)
