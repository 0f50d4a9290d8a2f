-- Where the content that a tag leads to begins, element by element; and what is left behind components.
use Rattle.std.proofs.Common.{◌≡◌, ℕ, zero, suc, ◌+◌, ◌-◌, ◌<◌, ◌≤◌, true, false, List, [], ◌∷◌, ◌++◌, length, is_ok, Ok, Err, Result, refl, sym, ap, ◌∙◌, arith, inl, inr}
use Rattle.std.specs.List.{list_all}
use Rattle.std.proofs.lemmas.List.{length-append}
use Rattle.ber_core.specs.declared.fault.BerFault.{BerFault}
use Rattle.ber_core.specs.Element.{Parts}
use Rattle.ber_core.specs.ElementReading.{after_at, element_at, parts_of}
use Rattle.ber_core.specs.HeadReading.{head_at}
use Rattle.ber_core.specs.ListReading.{items_of}
use Rattle.ber_core.specs.Place.{head_length}
use Rattle.ber_core.specs.SequenceReading.{is_tag}
use Rattle.ber_core.specs.Way.{further, inside, inside_items}
use Rattle.ber_core.proofs.CallerLemmas.{HeadRead, read, refused, read_is, by_result, element_takes, IsElement-longer, items_of-none, items_of-next, items_of-fault, head_length-whole}
use Rattle.tcap_component.specs.Component.{ComponentParts}
use Rattle.tcap_component.specs.ComponentFault.{FaultParts}
use Rattle.tcap_component.specs.ComponentReading.{component_at}
use Rattle.tcap_component.proofs.CallerLemmas.{component_takes}
use Rattle.tcap_explain.proofs.WalkLemmas.{head_from}
use Rattle.tcap_explain.specs.Explaining.{left_from, left_by, left_of}

-- ---- the element that a tag finds

abbrev pub at_place : ℕ → List ℕ → ℕ × List ℕ
at_place n content = (n, content)

pub inside-none : (tag : ℕ) (bytes : List ℕ) → length bytes ≡ 0 → inside tag bytes ≡ at_place 0 []
unfolding inside_items
inside-none tag bytes e = rw (items_of-none bytes e) refl

pub inside-fault : (tag : ℕ) (bytes : List ℕ) (f : BerFault) → 0 < length bytes → element_at 32 bytes ≡ Err f → inside tag bytes ≡ at_place 0 []
unfolding inside_items
inside-fault tag bytes f lt e = rw (items_of-fault bytes f lt e) refl

pub inside-here : (tag : ℕ) (bytes rest : List ℕ) (e : Parts) → element_at 32 bytes ≡ Ok (e, rest) → is_tag tag e.tag ≡ true → inside tag bytes ≡ at_place (head_length bytes) e.content
unfolding inside_items
inside-here tag bytes rest e is y =
    let t = element_takes 32 bytes (e, rest) is in
    let head : head_length bytes ≡ head_length e.whole = ap head_length t.1 ∙ head_length-whole 32 e rest t.0 in
    rw (items_of-next bytes rest e is, y) (ap (λ (n : ℕ). at_place n e.content) (sym head))

pub inside-behind : (tag : ℕ) (bytes rest : List ℕ) (e : Parts) → element_at 32 bytes ≡ Ok (e, rest) → is_tag tag e.tag ≡ false → inside tag bytes ≡ further (length bytes - length rest) (inside tag rest)
unfolding inside_items
inside-behind tag bytes rest e is n =
    let t = element_takes 32 bytes (e, rest) is in
    let len : length bytes ≡ length e.whole + length rest = ap length t.1 ∙ length-append e.whole rest in
    let whole : length e.whole ≡ length bytes - length rest = omega (arith, len) in
    rw (items_of-next bytes rest e is, n) (ap (λ (k : ℕ). further k (inside tag rest)) whole)

pub further-then : (a b : ℕ) (p : ℕ × List ℕ) → further a (further b p) ≡ further (a + b) p
further-then a b p = ap (λ (n : ℕ). at_place n p.1) (omega arith)

-- by the head alone
pub read-tag : (bytes rest : List ℕ) (e : Parts) (h : HeadRead) → element_at 32 bytes ≡ Ok (e, rest) → head_at bytes ≡ Ok h → e.tag ≡ h.0
unfolding element_at
read-tag bytes rest e h is head = elim (by_result (after_at 32 bytes)) [
  | inl f ↦ let is = is in let no : refused f.0 ≡ Ok (e, rest) = rw (head, f.1) at is in absurd cc
  | inr r ↦
      let is = is in
      let same : read (parts_of bytes h r.0, r.0) ≡ Ok (e, rest) = rw (head, r.1) at is in
      ap (λ (p : Parts × List ℕ). p.0.tag) (sym (read_is _ _ same))
]

pub unread-head : (bytes : List ℕ) (f : BerFault) → head_at bytes ≡ Err f → element_at 32 bytes ≡ Err f
unfolding element_at
unread-head bytes f head = rw head refl

abbrev AreRead : List ℕ → Type 0
AreRead bytes = list_all is_ok (items_of bytes) ≡ true

not-read : (bytes : List ℕ) (f : BerFault) → 0 < length bytes → element_at 32 bytes ≡ Err f → AreRead bytes → ⊥
not-read bytes f lt is all = let all = all in let no : false ≡ true = rw (items_of-fault bytes f lt is) at all in absurd cc

pub read-behind : (bytes rest : List ℕ) (e : Parts) → element_at 32 bytes ≡ Ok (e, rest) → AreRead bytes → AreRead rest
read-behind bytes rest e is all = let all = all in let on : AreRead rest = rw (items_of-next bytes rest e is) at all in on

module _ (tag : ℕ) (bytes : List ℕ) (h : HeadRead) (head : head_at bytes ≡ Ok h) (filled : 0 < length bytes) (all : AreRead bytes) where
  pub inside-head : is_tag tag h.0 ≡ true → (inside tag bytes).0 ≡ length bytes - length h.3
  inside-head y = elim (by_result (element_at 32 bytes)) [
    | inl f ↦ absurd (not-read bytes f.0 filled f.1 all)
    | inr r ↦
        let tagged : is_tag tag r.0.0.tag ≡ true = ap (is_tag tag) (read-tag bytes r.0.1 r.0.0 h r.1 head) ∙ y in
        ap (λ (p : ℕ × List ℕ). p.0) (inside-here tag bytes r.0.1 r.0.0 r.1 tagged) ∙ head_from bytes h head
  ]

-- no element is read
pub inside-unread : (tag : ℕ) (bytes : List ℕ) (f : BerFault) → head_at bytes ≡ Err f → inside tag bytes ≡ at_place 0 []
inside-unread tag [] f head = inside-none tag [] refl
inside-unread tag (b ∷ bytes) f head = inside-fault tag (b ∷ bytes) f (omega arith) (unread-head (b ∷ bytes) f head)

-- ---- what is left behind components

pub component-shorter : (bytes : List ℕ) (r : ComponentParts × List ℕ) → component_at bytes ≡ Ok r → length r.1 < length bytes
component-shorter bytes r is =
    let t = component_takes bytes r is in
    IsElement-longer 32 t.1.element r.1 bytes t.1.is_element (t.2 ∙ ap (λ (w : List ℕ). w ++ r.1) t.1.is_whole)

abbrev Read : Type 0
Read = Result (ComponentParts × List ℕ) FaultParts

same_left : (f g : List ℕ → List ℕ) (bytes : List ℕ) (r : Read) → ((p : ComponentParts × List ℕ) → r ≡ Ok p → f p.1 ≡ g p.1) → left_from f bytes r ≡ left_from g bytes r
same_left f g bytes (Ok p) h = h p refl
same_left f g bytes (Err x) h = refl

left_by-enough : (n m : ℕ) (bytes : List ℕ) → length bytes ≤ n → length bytes ≤ m → left_by n bytes ≡ left_by m bytes
unfolding left_by
left_by-enough n m [] p q = refl
left_by-enough zero m (b ∷ bytes) p q = absurd (omega (arith, p))
left_by-enough (suc n) zero (b ∷ bytes) p q = absurd (omega (arith, q))
left_by-enough (suc n) (suc m) (b ∷ bytes) p q =
    same_left (left_by n) (left_by m) (b ∷ bytes) (component_at (b ∷ bytes))
    (λ r is. let lt = component-shorter (b ∷ bytes) r is in left_by-enough n m r.1 (omega (arith, lt, p)) (omega (arith, lt, q)))

pub left-none : (bytes : List ℕ) → length bytes ≡ 0 → left_of bytes ≡ bytes
unfolding left_of left_by
left-none [] e = refl
left-none (b ∷ bytes) e = absurd (omega (arith, e))

pub left-next : (bytes rest : List ℕ) (c : ComponentParts) → component_at bytes ≡ Ok (c, rest) → left_of bytes ≡ left_of rest
unfolding left_of left_by
left-next [] rest c is = let lt = component-shorter [] (c, rest) is in absurd (omega (arith, lt))
left-next (b ∷ bytes) rest c is =
    let lt = component-shorter (b ∷ bytes) (c, rest) is in
    rw is (left_by-enough (length bytes) (length rest) rest (omega (arith, lt)) (omega arith))

pub left-fault : (bytes : List ℕ) (f : FaultParts) → component_at bytes ≡ Err f → left_of bytes ≡ bytes
unfolding left_of left_by
left-fault [] f is = refl
left-fault (b ∷ bytes) f is = rw is refl
