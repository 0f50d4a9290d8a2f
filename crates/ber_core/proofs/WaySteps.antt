-- Steps on the way to a content.
use Rattle.std.proofs.Common.{◌≡◌, ℕ, zero, suc, ◌+◌, ◌-◌, true, false, eqb, List, [], ◌∷◌, ◌++◌, length, Option, Some, None, Ok, refl, sym, ap, subst, ◌∙◌, inl, inr, arith, length-append, append_assoc, append-nil}
use Rattle.std.specs.Prelude.{IfSome, option_copied}
use Rattle.std.proofs.lemmas.Bool.{cases_Bool}
use Rattle.ber_core.specs.Tag.{is_constructor}
use Rattle.ber_core.specs.Element.{Parts, IsDefinite, IsIndefinite, IsElement}
use Rattle.ber_core.specs.ElementReading.{element_at}
use Rattle.ber_core.specs.HeadReading.{head_at}
use Rattle.ber_core.specs.Place.{Slice, IsAt, AtEnd, head_length}
use Rattle.ber_core.specs.SequenceReading.{is_tag, tagged}
use Rattle.ber_core.specs.Way.{further, inside_items, inside, way_to, IsInside, IsInsideIfAny, GoesOn, IsOnWay, IsOnWayIfAny}
use Rattle.ber_core.proofs.ResultSteps.{by_result}
use Rattle.ber_core.proofs.OptionSteps.{some_is}
use Rattle.ber_core.proofs.HeadGrammar.{HeadRead, head_again-definite, head_again-indefinite}
use Rattle.ber_core.proofs.ElementGrammar.{element_takes}
use Rattle.ber_core.proofs.ItemSteps.{items_of-next}
use Rattle.ber_core.proofs.SequenceGrammar.{is_tag-is, is_tag-one}

-- ---- the head of an element, whatever follows it

head_of : (t o r : List ℕ) (h : HeadRead) → head_at (t ++ (o ++ r)) ≡ Ok h → h.3 ≡ r → head_length (t ++ (o ++ r)) ≡ length t + length o
unfolding head_length
head_of t o r h e is =
    let a = length-append t (o ++ r) in
    let b = length-append o r in
    let c : length (t ++ (o ++ r)) - length r ≡ length t + length o = omega (arith, a, b) in
    rw (e, is) c

spelled : (bytes t o r : List ℕ) (h : HeadRead) → bytes ≡ t ++ (o ++ r) → head_at (t ++ (o ++ r)) ≡ Ok h → h.3 ≡ r → head_length bytes ≡ length t + length o
spelled bytes t o r h is e same = ap head_length is ∙ head_of t o r h e same

cut : (t o c rest : List ℕ) → (t ++ (o ++ c)) ++ rest ≡ t ++ (o ++ (c ++ rest))
cut t o c rest = append_assoc t (o ++ c) rest ∙ ap (λ (w : List ℕ). t ++ w) (append_assoc o c rest)

definite_head : (e : Parts) (rest : List ℕ) (d : IsDefinite e) → head_length (e.whole ++ rest) ≡ length e.tag + length d.octets
definite_head e rest d =
    spelled (e.whole ++ rest) e.tag d.octets (e.content ++ rest) (e.tag, is_constructor e.tag, Some (length e.content), e.content ++ rest)
    (ap (λ (w : List ℕ). w ++ rest) d.is_whole ∙ cut e.tag d.octets e.content rest)
    (head_again-definite e.tag d.octets (e.content ++ rest) (length e.content) d.is_tag d.is_length) refl

indefinite_head : (Inner : Parts → Type 0) (e : Parts) (rest : List ℕ) → IsIndefinite Inner e → head_length (e.whole ++ rest) ≡ length e.tag + 1
indefinite_head Inner e rest i =
    let body = e.content ++ (0 ∷ 0 ∷ []) in
    spelled (e.whole ++ rest) e.tag (128 ∷ []) (body ++ rest) (e.tag, is_constructor e.tag, None, body ++ rest)
    (ap (λ (w : List ℕ). w ++ rest) i.is_whole ∙ cut e.tag (128 ∷ []) body rest)
    (head_again-indefinite e.tag (body ++ rest) i.is_tag i.constructs) refl

head_any : (depth : ℕ) (e : Parts) (rest : List ℕ) → IsElement depth e → head_length (e.whole ++ rest) ≡ head_length (e.whole ++ [])
unfolding IsElement
head_any zero e rest h = definite_head e rest h ∙ sym (definite_head e [] h)
head_any (suc depth) e rest (inl h) = definite_head e rest h ∙ sym (definite_head e [] h)
head_any (suc depth) e rest (inr h) = indefinite_head (IsElement depth) e rest h ∙ sym (indefinite_head (IsElement depth) e [] h)

pub head_length-whole : (depth : ℕ) (e : Parts) (rest : List ℕ) → IsElement depth e → head_length (e.whole ++ rest) ≡ head_length e.whole
head_length-whole depth e rest h = head_any depth e rest h ∙ ap head_length (append-nil e.whole)

-- ---- the element that a tag finds

abbrev some : List ℕ → Option (List ℕ)
some x = Some x

abbrev pub Found : ℕ → List ℕ → List ℕ → Type 0
Found tag bytes c = (e : Parts) × (element_at 32 bytes ≡ Ok (e, (tagged tag bytes).1)) × (is_tag tag e.tag ≡ true) × (e.content ≡ c)

pub tagged_found : (tag : ℕ) (bytes c : List ℕ) → (tagged tag bytes).0 ≡ Some c → Found tag bytes c
unfolding tagged
tagged_found tag bytes c is = elim (by_result (element_at 32 bytes)) [
  | inl f ↦ let is = is in let no : None ≡ some c = rw f.1 at is in absurd cc
  | inr p ↦ elim (cases_Bool (is_tag tag p.0.0.tag)) [
    | inl y ↦
        let is = is in
        let same : some p.0.0.content ≡ some c = rw (p.1, y) at is in
        rw (p.1, y) (p.0.0, refl, y, some_is p.0.0.content c same)
    | inr n ↦ let is = is in let no : None ≡ some c = rw (p.1, n) at is in absurd cc
  ]
]

first_of : (tag : ℕ) (bytes rest : List ℕ) (e : Parts) → element_at 32 bytes ≡ Ok (e, rest) → is_tag tag e.tag ≡ true → inside tag bytes ≡ (head_length e.whole, e.content)
unfolding inside_items
first_of tag bytes rest e is y = rw (items_of-next bytes rest e is, y) refl

-- the content that a tag finds stands behind the head
pub here : (tag : ℕ) (bytes c : List ℕ) → (tagged tag bytes).0 ≡ Some c → ((inside tag bytes).1 ≡ c) × ((inside tag bytes).0 ≡ head_length bytes)
here tag bytes c is =
    let f = tagged_found tag bytes c is in
    let t = element_takes 32 bytes (f.0, (tagged tag bytes).1) f.1 in
    let at = first_of tag bytes (tagged tag bytes).1 f.0 f.1 f.2 in
    let head : head_length bytes ≡ head_length f.0.whole = ap head_length t.1 ∙ head_length-whole 32 f.0 (tagged tag bytes).1 t.0 in
    (ap (λ (p : ℕ × List ℕ). p.1) at ∙ f.3, ap (λ (p : ℕ × List ℕ). p.0) at ∙ sym head)

other_of : (tag : ℕ) (bytes rest : List ℕ) (e : Parts) → element_at 32 bytes ≡ Ok (e, rest) → is_tag tag e.tag ≡ false → inside tag bytes ≡ further (length e.whole) (inside tag rest)
unfolding inside_items
other_of tag bytes rest e is n = rw (items_of-next bytes rest e is, n) refl

other_tag : (other tag : ℕ) (t : List ℕ) → eqb other tag ≡ false → t ≡ other ∷ [] → is_tag tag t ≡ false
other_tag other tag t e is = rw is e

-- behind an element with another tag the search goes on
pub past : (tag other : ℕ) (bytes c : List ℕ) → eqb other tag ≡ false → (tagged other bytes).0 ≡ Some c
    → ((inside tag bytes).1 ≡ (inside tag (tagged other bytes).1).1)
    × ((inside tag bytes).0 + length (tagged other bytes).1 ≡ length bytes + (inside tag (tagged other bytes).1).0)
past tag other bytes c ne is =
    let rest = (tagged other bytes).1 in
    let f = tagged_found other bytes c is in
    let t = element_takes 32 bytes (f.0, rest) f.1 in
    let at = other_of tag bytes rest f.0 f.1 (other_tag other tag f.0.tag ne (is_tag-is other f.0.tag f.2)) in
    let place : (inside tag bytes).0 ≡ length f.0.whole + (inside tag rest).0 = ap (λ (p : ℕ × List ℕ). p.0) at in
    let len : length bytes ≡ length f.0.whole + length rest = ap length t.1 ∙ length-append f.0.whole rest in
    (ap (λ (p : ℕ × List ℕ). p.1) at, omega (arith, place, len))

none_found : (tag : ℕ) (bytes : List ℕ) → (tagged tag bytes).0 ≡ None → (tagged tag bytes).1 ≡ bytes
unfolding tagged
none_found tag bytes is = elim (by_result (element_at 32 bytes)) [
  | inl f ↦ rw f.1 refl
  | inr p ↦ elim (cases_Bool (is_tag tag p.0.0.tag)) [
    | inl y ↦ let is = is in let no : some p.0.0.content ≡ None = rw (p.1, y) at is in absurd cc
    | inr n ↦ rw (p.1, n) refl
  ]
]

-- ---- slices

pub goes-all : (tag : ℕ) (bytes : Slice) → GoesOn tag bytes bytes
goes-all tag bytes = ((refl, refl), refl, omega arith)

pub goes-then : (tag : ℕ) (rest mid bytes : Slice) → GoesOn tag mid bytes → GoesOn tag rest mid → GoesOn tag rest bytes
goes-then tag rest mid bytes a b = ((b.0.0 ∙ a.0.0, b.0.1 ∙ a.0.1), a.1 ∙ b.1, omega (arith, a.2, b.2))

pub goes-past : (tag other : ℕ) (rest bytes : Slice) (o : Option (List ℕ)) → eqb other tag ≡ false → (tagged other bytes.now).0 ≡ o → (tagged other bytes.now).1 ≡ rest.now → AtEnd rest bytes → GoesOn tag rest bytes
goes-past tag other rest bytes None ne is same at =
    let all : rest.now ≡ bytes.now = sym same ∙ none_found other bytes.now is in
    (at, ap (λ (w : List ℕ). (inside tag w).1) (sym all), rw all (omega arith))
goes-past tag other rest bytes (Some c) ne is same at =
    let p = past tag other bytes.now c ne is in
    (at, p.0 ∙ ap (λ (w : List ℕ). (inside tag w).1) same, subst (λ (w : List ℕ). (inside tag bytes.now).0 + length w ≡ length bytes.now + (inside tag w).0) same p.1)

-- the content that is found where the search goes on
pub inside-found : (tag : ℕ) (part rest bytes : Slice) → GoesOn tag rest bytes → (tagged tag rest.now).0 ≡ Some part.now → IsAt (head_length rest.now) part rest → IsInside tag part bytes
inside-found tag part rest bytes g is at =
    let h = here tag rest.now part.now is in
    (g.1 ∙ h.0, (at.0 ∙ g.0.0, omega (arith, at.1, h.1, g.2, g.0.1)))

pub inside-first : (tag : ℕ) (part bytes : Slice) → (tagged tag bytes.now).0 ≡ Some part.now → IsAt (head_length bytes.now) part bytes → IsInside tag part bytes
inside-first tag part bytes is at = inside-found tag part bytes bytes (goes-all tag bytes) is at

-- ---- what the readers of this crate hand out

pub tagged-inside : (tag : ℕ) (bytes : Slice) (o : Option Slice) (rest : List ℕ) → (option_copied o, rest) ≡ tagged tag bytes.now → IfSome o (λ c. IsAt (head_length bytes.now) c bytes) → IfSome o (λ c. IsInside tag c bytes)
tagged-inside tag bytes None rest is at = tt
tagged-inside tag bytes (Some c) rest is at = inside-first tag c bytes (ap (λ (p : Option (List ℕ) × List ℕ). p.0) (sym is)) at

pub tagged-goes : (tag other : ℕ) (bytes rest : Slice) (o : Option Slice) → (option_copied o, rest.now) ≡ tagged tag bytes.now → AtEnd rest bytes → eqb tag other ≡ false → GoesOn other rest bytes
tagged-goes tag other bytes rest o is at ne =
    goes-past other tag rest bytes (tagged tag bytes.now).0 ne refl (ap (λ (p : Option (List ℕ) × List ℕ). p.1) (sym is)) at

pub element-inside : (tag : ℕ) (content bytes : Slice) (e : Parts) (rest : List ℕ) → element_at 32 bytes.now ≡ Ok (e, rest) → e.tag ≡ tag ∷ [] → e.content ≡ content.now → IsAt (head_length bytes.now) content bytes → IsInside tag content bytes
element-inside tag content bytes e rest is t same at =
    let first = first_of tag bytes.now rest e is (is_tag-one tag e.tag t) in
    let takes = element_takes 32 bytes.now (e, rest) is in
    let head : head_length bytes.now ≡ head_length e.whole = ap head_length takes.1 ∙ head_length-whole 32 e rest takes.0 in
    let place : (inside tag bytes.now).0 ≡ head_length e.whole = ap (λ (p : ℕ × List ℕ). p.0) first in
    (ap (λ (p : ℕ × List ℕ). p.1) first ∙ same, (at.0, omega (arith, at.1, head, place)))

-- ---- ways

pub inside-goes : (tag : ℕ) (part rest bytes : Slice) → GoesOn tag rest bytes → IsInside tag part rest → IsInside tag part bytes
inside-goes tag part rest bytes g i = (g.1 ∙ i.0, (i.1.0 ∙ g.0.0, omega (arith, i.1.1, g.2, g.0.1)))

pub inside-goes-any : (tag : ℕ) (part rest bytes : Slice) → GoesOn tag rest bytes → IsInsideIfAny tag part rest → IsInsideIfAny tag part bytes
inside-goes-any tag part rest bytes g (inl e) = inl e
inside-goes-any tag part rest bytes g (inr i) = inr (inside-goes tag part rest bytes g i)

pub way-one : (tag : ℕ) (part bytes : Slice) → IsInside tag part bytes → IsOnWay (tag ∷ []) part bytes
unfolding way_to
way-one tag part bytes i = (i.1.0, omega (arith, i.1.1))

pub way-in : (tag : ℕ) (tags : List ℕ) (part mid bytes : Slice) → IsInside tag mid bytes → IsOnWay tags part mid → IsOnWay (tag ∷ tags) part bytes
unfolding way_to
way-in tag tags part mid bytes i w =
    let same : way_to tags (inside tag bytes.now).1 ≡ way_to tags mid.now = ap (way_to tags) i.0 in
    (w.0 ∙ i.1.0, omega (arith, w.1, i.1.1, same))

pub way-any : (tag : ℕ) (tags : List ℕ) (part mid bytes : Slice) → IsInside tag mid bytes → IsOnWayIfAny tags part mid → IsOnWayIfAny (tag ∷ tags) part bytes
way-any tag tags part mid bytes i (inl e) = inl e
way-any tag tags part mid bytes i (inr w) = inr (way-in tag tags part mid bytes i w)

pub way-one-any : (tag : ℕ) (part bytes : Slice) → IsInsideIfAny tag part bytes → IsOnWayIfAny (tag ∷ []) part bytes
way-one-any tag part bytes (inl e) = inl e
way-one-any tag part bytes (inr i) = inr (way-one tag part bytes i)
