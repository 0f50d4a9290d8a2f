-- One element and nothing after it, and a list of elements, read and again.
use Rattle.std.proofs.Common.{◌≡◌, ℕ, zero, suc, ◌≤◌, true, false, List, [], ◌∷◌, ◌++◌, length, map, is_ok, Some, Ok, Result, refl, sym, ap, subst, ◌∙◌, inl, inr, arith, append-nil}
use Rattle.std.specs.List.{list_all}
use Rattle.ber_core.specs.declared.fault.BerFault.{BerFault}
use Rattle.ber_core.specs.Element.{Parts, IsElement}
use Rattle.ber_core.specs.ElementList.{IsList}
use Rattle.ber_core.specs.ElementReading.{element_at}
use Rattle.ber_core.specs.ListReading.{items_of}
use Rattle.ber_core.specs.Sequence.{IsOnly}
use Rattle.ber_core.specs.SequenceReading.{content_at, ending, only_at, alone_at}
use Rattle.ber_core.proofs.ResultSteps.{by_result}
use Rattle.ber_core.proofs.OptionSteps.{bind_some, ending-is, ending-again, not_some}
use Rattle.ber_core.proofs.ElementGrammar.{element_takes, element_again, IsElement-longer}
use Rattle.ber_core.proofs.ItemSteps.{items_of-next, items_of-fault, items_of-list}
use Rattle.ber_core.proofs.SequenceGrammar.{must_takes, must_again, end_takes, end_again, list_from}

pub only_takes : (tag : ℕ) (bytes c : List ℕ) → only_at tag bytes ≡ Some c → IsOnly tag c bytes
unfolding only_at
only_takes tag bytes c e =
    let b = bind_some (content_at tag bytes) (λ c. ending c.0 c.1) c e in
    let z = ending-is b.0.0 c b.0.1 b.2 in
    subst (λ (x : List ℕ). IsOnly tag x bytes) z.1 (must_takes tag [] bytes b.0 b.1 (end_takes b.0.1 z.0))

pub only_again : (tag : ℕ) (c bytes : List ℕ) → IsOnly tag c bytes → only_at tag bytes ≡ Some c
unfolding only_at
only_again tag c bytes s =
    let m = must_again tag c [] bytes s in
    rw m.1 (ending-again c m.0 (end_again m.0 m.2))

none_left : (rest : List ℕ) → length rest ≡ 0 → rest ≡ []
none_left [] e = refl
none_left (b ∷ rest) e = absurd (omega (arith, e))

-- what is read alone is an element, and the bytes are its whole
pub alone_takes : (bytes : List ℕ) (e : Parts) → alone_at bytes ≡ Some e → IsElement 32 e × (bytes ≡ e.whole)
unfolding alone_at
alone_takes bytes e is = elim (by_result (element_at 32 bytes)) [
  | inl f ↦ let is = is in absurd (not_some e (rw f.1 at is))
  | inr r ↦
      let is = is in
      let z = ending-is r.0.0 e r.0.1 (rw r.1 at is) in
      let t = element_takes 32 bytes r.0 r.1 in
      let whole : bytes ≡ r.0.0.whole = t.1 ∙ (ap (λ (w : List ℕ). r.0.0.whole ++ w) (none_left r.0.1 z.0) ∙ append-nil r.0.0.whole) in
      subst (λ (x : Parts). IsElement 32 x × (bytes ≡ x.whole)) z.1 (t.0, whole)
]

pub alone_again : (e : Parts) → IsElement 32 e → alone_at e.whole ≡ Some e
unfolding alone_at
alone_again e h =
    let again : element_at 32 e.whole ≡ Ok (e, []) = ap (element_at 32) (sym (append-nil e.whole)) ∙ element_again 32 e [] h in
    rw again refl

-- each item that is read of a list of elements is one
abbrev IsRead : List ℕ → Type 0
IsRead bytes = (es : List Parts) × IsList es bytes

list_by : (n : ℕ) (bytes : List ℕ) → length bytes ≤ n → list_all is_ok (items_of bytes) ≡ true → IsRead bytes
list_by n [] le h = ([], record { each = tt; is_joined = refl })
list_by zero (b ∷ bytes) le h = absurd (omega (arith, le))
list_by (suc n) (b ∷ bytes) le h = elim (by_result (element_at 32 (b ∷ bytes))) [
  | inl f ↦
      let h = h in
      let e = items_of-fault (b ∷ bytes) f.0 (omega arith) f.1 in
      let no : false ≡ true = rw e at h in absurd cc
  | inr r ↦
      let h = h in
      let t = element_takes 32 (b ∷ bytes) r.0 r.1 in
      let e = items_of-next (b ∷ bytes) r.0.1 r.0.0 r.1 in
      let lt = IsElement-longer 32 r.0.0 r.0.1 (b ∷ bytes) t.0 t.1 in
      let others = list_by n r.0.1 (omega (arith, lt, le)) (rw e at h) in
      (r.0.0 ∷ others.0, list_from r.0.0 (b ∷ bytes) r.0.1 others.0 t.0 t.1 others.1)
]

-- bytes of which each item is read are a list of elements
pub list_takes : (bytes : List ℕ) → list_all is_ok (items_of bytes) ≡ true → IsRead bytes
list_takes bytes h = list_by (length bytes) bytes (omega arith) h

all_read : (es : List Parts) → list_all is_ok (map (λ (e : Parts). let x : Result Parts BerFault = Ok e in x) es) ≡ true
all_read [] = refl
all_read (e ∷ es) = all_read es

pub list_again : (es : List Parts) (bytes : List ℕ) → IsList es bytes → list_all is_ok (items_of bytes) ≡ true
list_again es bytes h = rw h.is_joined (rw (items_of-list es h.each) (all_read es))
