-- From what reading gives to what an element is.
use Rattle.std.proofs.Common.{◌≡◌, ℕ, ◌++◌, List, Ok, Err, Result, sym, ap, ◌∙◌, inl, inr}
use Rattle.std.specs.Prelude.{IfOk, IsOkAnd}
use Rattle.ber_core.specs.declared.fault.BerFault.{BerFault}
use Rattle.ber_core.specs.Element.{Parts, IsElement}
use Rattle.ber_core.specs.ElementReading.{element_at, after_at, parts_of}
use Rattle.ber_core.specs.Results.{Gives, ◌>>=◌}
use Rattle.std.specs.Prelude.{IfErr}
use Rattle.ber_core.specs.Fault.{ElementFault}
use Rattle.ber_core.specs.Fault.ElementFault.{in_head}
use Rattle.ber_core.specs.HeadReading.{head_at}
use Rattle.ber_core.proofs.ResultSteps.{read, read_is, not_read, not_refused, bind_refused}
use Rattle.ber_core.proofs.HeadFaults.{head_fails}
use Rattle.ber_core.proofs.ElementFaults.{after_fails}
use Rattle.ber_core.proofs.ElementGrammar.{element_takes, element_again}

pub found : {X : Type 0} (view : X → Parts × List ℕ) (depth : ℕ) (bytes : List ℕ) (r : Result X BerFault) → Gives view r (element_at depth bytes) → IfOk r (λ x. IsElement depth (view x).0 × (bytes ≡ (view x).0.whole ++ (view x).1))
found view depth bytes (Ok x) e = element_takes depth bytes (view x) e
found view depth bytes (Err f) e = tt

pub only : {X : Type 0} (view : X → Parts × List ℕ) (depth : ℕ) (bytes : List ℕ) (r : Result X BerFault) → Gives view r (element_at depth bytes) → (e : Parts) (rest : List ℕ) → IsElement depth e → bytes ≡ e.whole ++ rest → IsOkAnd r (λ x. ((view x).0 ≡ e) × ((view x).1 ≡ rest))
only view depth bytes (Ok x) g e rest h is =
    let same : view x ≡ (e, rest) = read_is (view x) (e, rest) (sym g ∙ (ap (element_at depth) is ∙ element_again depth e rest h)) in
    (ap (λ (p : Parts × List ℕ). p.0) same, ap (λ (p : Parts × List ℕ). p.1) same)
only view depth bytes (Err f) g e rest h is = absurd (not_read f (e, rest) (sym g ∙ (ap (element_at depth) is ∙ element_again depth e rest h)))

-- bytes spell one element: no element's whole begins another's
pub one_element : (depth : ℕ) (e f : Parts) (x y : List ℕ) → IsElement depth e → IsElement depth f → e.whole ++ x ≡ f.whole ++ y → (e ≡ f) × (x ≡ y)
one_element depth e f x y p q is =
    let same : (e, x) ≡ (f, y) = read_is (e, x) (f, y) (sym (element_again depth e x p) ∙ (ap (element_at depth) is ∙ element_again depth f y q)) in
    (ap (λ (p : Parts × List ℕ). p.0) same, ap (λ (p : Parts × List ℕ). p.1) same)

abbrev both : Parts → List ℕ → Parts × List ℕ
both e rest = (e, rest)

pub element_fails : (depth : ℕ) (bytes : List ℕ) (f : BerFault) → element_at depth bytes ≡ Err f → ElementFault depth bytes f
unfolding element_at
element_fails depth bytes f e =
    elim (bind_refused (head_at bytes) (λ h. after_at depth bytes >>= (λ rest. read (both (parts_of bytes h rest) rest))) f e) [
      | inl p ↦ in_head depth bytes f (head_fails bytes f p)
      | inr h ↦ elim (bind_refused (after_at depth bytes) (λ rest. read (both (parts_of bytes h.0 rest) rest)) f h.2) [
        | inl p ↦ after_fails depth bytes f p
        | inr r ↦ absurd (not_refused f (both (parts_of bytes h.0 r.0) r.0) r.2)
      ]
    ]

pub fault : {X : Type 0} (view : X → Parts × List ℕ) (depth : ℕ) (bytes : List ℕ) (r : Result X BerFault) → Gives view r (element_at depth bytes) → IfErr r (λ f. ElementFault depth bytes f)
fault view depth bytes (Ok x) e = tt
fault view depth bytes (Err f) e = element_fails depth bytes f e
