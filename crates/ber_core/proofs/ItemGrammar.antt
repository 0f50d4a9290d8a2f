-- The items of a list are its elements, or those before the first fault, and that fault.
use Rattle.std.proofs.Common.{◌≡◌, ◌≢◌, ℕ, zero, suc, ◌<◌, ◌≤◌, List, [], ◌∷◌, ◌++◌, length, Ok, Err, Result, refl, sym, ap, ◌∙◌, append_assoc, inl, inr, arith}
use Rattle.std.specs.List.{AllByRecursion}
use Rattle.ber_core.specs.declared.fault.BerFault.{BerFault}
use Rattle.ber_core.specs.Element.{Parts, IsElement, joined}
use Rattle.ber_core.specs.ElementList.{IsList, BreaksOff, AreItems, items, items_and}
use Rattle.ber_core.specs.Fault.{ElementFault}
use Rattle.ber_core.specs.ElementReading.{element_at}
use Rattle.ber_core.specs.ListReading.{items_of}
use Rattle.ber_core.proofs.ResultSteps.{by_result}
use Rattle.ber_core.proofs.Agreement.{element_fails}
use Rattle.ber_core.proofs.FaultAgain.{one_fault, no_element}
use Rattle.ber_core.proofs.ElementGrammar.{element_takes, element_again, IsElement-longer}
use Rattle.ber_core.proofs.ItemSteps.{items_of-empty, items_of-next, items_of-fault, items_of-list}
use Rattle.ber_core.proofs.SequenceGrammar.{list_from}

abbrev Item : Type 0
Item = Result Parts BerFault

-- an element before the items that follow it
before : (e : Parts) (bytes rest : List ℕ) (all : List Item) → IsElement 32 e → bytes ≡ e.whole ++ rest → AreItems all rest → AreItems (Ok e ∷ all) bytes
before e bytes rest all i is (inl w) = inl (e ∷ w.0, ap (λ (x : List Item). Ok e ∷ x) w.1, list_from e bytes rest w.0 i is w.2)
before e bytes rest all i is (inr w) =
    let b = w.3 in
    inr (
      e ∷ w.0,
      w.1,
      ap (λ (x : List Item). Ok e ∷ x) w.2,
      record {
        rest = b.rest;
        each = (i, b.each);
        is_joined = is ∙ ap (λ (x : List ℕ). e.whole ++ x) b.is_joined ∙ sym (append_assoc e.whole (joined w.0) b.rest);
        filled = b.filled;
        is_fault = b.is_fault;
      },
    )

filled : (b : ℕ) (bytes : List ℕ) → (b ∷ bytes) ≢ []
filled b bytes e = let n : length (b ∷ bytes) ≡ 0 = ap length e in absurd (omega (arith, n))

items_by_length : (n : ℕ) (bytes : List ℕ) → length bytes ≤ n → AreItems (items_of bytes) bytes
items_by_length n [] le = inl ([], items_of-empty, record { each = tt; is_joined = refl })
items_by_length zero (b ∷ bytes) le = absurd (omega (arith, le))
items_by_length (suc n) (b ∷ bytes) le = elim (by_result (element_at 32 (b ∷ bytes))) [
  | inl f ↦
      let broken : BreaksOff [] f.0 (b ∷ bytes) = record { rest = b ∷ bytes; each = tt; is_joined = refl; filled = filled b bytes; is_fault = element_fails 32 (b ∷ bytes) f.0 f.1 } in
      inr ([], f.0, items_of-fault (b ∷ bytes) f.0 (omega arith) f.1, broken)
  | inr r ↦
      let t = element_takes 32 (b ∷ bytes) r.0 r.1 in
      let lt = IsElement-longer 32 r.0.0 r.0.1 (b ∷ bytes) t.0 t.1 in
      let others = items_by_length n r.0.1 (omega (arith, lt, le)) in
      rw (items_of-next (b ∷ bytes) r.0.1 r.0.0 r.1) (before r.0.0 (b ∷ bytes) r.0.1 (items_of r.0.1) t.0 t.1 others)
]

pub items_found : (bytes : List ℕ) → AreItems (items_of bytes) bytes
items_found bytes = items_by_length (length bytes) bytes (omega arith)

pub items_only : (bytes : List ℕ) (es : List Parts) → IsList es bytes → items_of bytes ≡ items es
items_only bytes es h = ap items_of h.is_joined ∙ items_of-list es h.each

-- a fault that is told is read
fault_read : (bytes : List ℕ) (f : BerFault) → ElementFault 32 bytes f → element_at 32 bytes ≡ Err f
fault_read bytes f h = elim (by_result (element_at 32 bytes)) [
  | inl g ↦ g.1 ∙ ap (λ (x : BerFault). let r : Result (Parts × List ℕ) BerFault = Err x in r) (one_fault 32 bytes g.0 f (element_fails 32 bytes g.0 g.1) h)
  | inr r ↦
      let t = element_takes 32 bytes r.0 r.1 in
      let h = h in
      let is = t.1 in
      absurd (no_element 32 r.0.0 r.0.1 f t.0 (rw is at h))
]

longer : (rest : List ℕ) → rest ≢ [] → 0 < length rest
longer [] h = absurd (h refl)
longer (b ∷ rest) h = omega arith

breaks : (es : List Parts) (rest : List ℕ) (f : BerFault) → AllByRecursion (IsElement 32) es → rest ≢ [] → element_at 32 rest ≡ Err f → items_of (joined es ++ rest) ≡ items_and es f
breaks [] rest f each filled is = items_of-fault rest f (longer rest filled) is
breaks (e ∷ es) rest f each filled is =
    let first = element_again 32 e (joined es ++ rest) each.0 in
    ap items_of (append_assoc e.whole (joined es) rest)
    ∙ items_of-next (e.whole ++ (joined es ++ rest)) (joined es ++ rest) e first
    ∙ ap (λ (x : List Item). Ok e ∷ x) (breaks es rest f each.1 filled is)

pub items_fault : (bytes : List ℕ) (es : List Parts) (f : BerFault) → BreaksOff es f bytes → items_of bytes ≡ items_and es f
items_fault bytes es f h = ap items_of h.is_joined ∙ breaks es h.rest f h.each h.filled (fault_read h.rest f h.is_fault)
