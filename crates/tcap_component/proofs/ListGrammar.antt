-- The components of a list up to the first fault, read and again.
use Rattle.std.proofs.Common.{◌≡◌, ◌≢◌, ℕ, zero, suc, ◌<◌, ◌≤◌, List, [], ◌∷◌, ◌++◌, length, Option, Some, None, Ok, Err, Result, refl, sym, ap, subst, ◌∙◌, inl, inr, arith, append_assoc, length-append}
use Rattle.ber_core.proofs.CallerLemmas.{by_result, IsElement-longer}
use Rattle.tcap_component.specs.Component.{ComponentParts, SpellsComponent}
use Rattle.tcap_component.specs.ComponentFault.{FaultParts, IsComponentFault}
use Rattle.tcap_component.specs.ComponentList.{SpellsComponents, EndsIn, FirstFault, items}
use Rattle.tcap_component.specs.ComponentReading.{component_at, components_from, components_by, components_of}
use Rattle.tcap_component.proofs.ComponentGrammar.{component_takes, component_fails, component_again, component_told, one_component, no_component}

abbrev Items : Type 0
Items = List (Result ComponentParts FaultParts)

-- ---- one item more

longer : (c : ComponentParts) (whole rest bytes : List ℕ) → SpellsComponent c whole → bytes ≡ whole ++ rest → length rest < length bytes
longer c whole rest bytes h is = IsElement-longer 32 h.element rest bytes h.is_element (is ∙ ap (λ (w : List ℕ). w ++ rest) h.is_whole)

shorter : (bytes rest : List ℕ) (c : ComponentParts) → component_at bytes ≡ Ok (c, rest) → length rest < length bytes
shorter bytes rest c is = let t = component_takes bytes (c, rest) is in longer c t.0 rest bytes t.1 t.2

abbrev from_is : (others more : List ℕ → Items) (bytes : List ℕ) → ((rest : List ℕ) → length rest < length bytes → others rest ≡ more rest) → (r : Result (ComponentParts × List ℕ) FaultParts) → component_at bytes ≡ r → components_from others r ≡ components_from more r
from_is others more bytes same (Ok r) e = ap (λ (w : Items). Ok r.0 ∷ w) (same r.1 (shorter bytes r.1 r.0 e))
from_is others more bytes same (Err f) e = refl

-- more fuel changes nothing
components_by-enough : (n m : ℕ) (bytes : List ℕ) → length bytes ≤ n → length bytes ≤ m → components_by n bytes ≡ components_by m bytes
unfolding components_by
components_by-enough n m [] p q = refl
components_by-enough zero m (b ∷ bytes) p q = absurd (omega arith)
components_by-enough (suc n) zero (b ∷ bytes) p q = absurd (omega arith)
components_by-enough (suc n) (suc m) (b ∷ bytes) p q =
    from_is (components_by n) (components_by m) (b ∷ bytes) (λ rest lt. components_by-enough n m rest (omega arith) (omega arith)) (component_at (b ∷ bytes)) refl

pub components_of-empty : components_of [] ≡ []
unfolding components_by
components_of-empty = refl

pub components_of-none : (bytes : List ℕ) → length bytes ≡ 0 → components_of bytes ≡ []
unfolding components_by
components_of-none [] e = refl
components_of-none (b ∷ bytes) e = absurd (omega (arith, e))

pub components_of-next : (bytes rest : List ℕ) (c : ComponentParts) → component_at bytes ≡ Ok (c, rest) → components_of bytes ≡ Ok c ∷ components_of rest
unfolding components_by
components_of-next [] rest c is = let lt : length rest < 0 = shorter [] rest c is in absurd (omega arith)
components_of-next (b ∷ bytes) rest c is =
    let lt : length rest < length (b ∷ bytes) = shorter (b ∷ bytes) rest c is in
    rw is (ap (λ (w : Items). Ok c ∷ w) (components_by-enough (length bytes) (length rest) rest (omega arith) (omega arith)))

pub components_of-fault : (bytes : List ℕ) (f : FaultParts) → 0 < length bytes → component_at bytes ≡ Err f → components_of bytes ≡ Err f ∷ []
unfolding components_by
components_of-fault [] f lt is = absurd (omega arith)
components_of-fault (b ∷ bytes) f lt is = rw is refl

-- ---- each first fault is found

filled : (xs : List ℕ) → xs ≢ [] → 0 < length xs
filled [] h = absurd (h refl)
filled (x ∷ xs) h = omega arith

ends_again : (f : Option FaultParts) (rest : List ℕ) → EndsIn f rest → components_of rest ≡ items [] f
ends_again None rest h = ap components_of h ∙ components_of-empty
ends_again (Some f) rest h = components_of-fault rest f (filled rest h.0) (component_told rest f h.1)

items_again : (cs : List ComponentParts) (f : Option FaultParts) (front rest : List ℕ) → SpellsComponents cs front → EndsIn f rest → components_of (front ++ rest) ≡ items cs f
items_again [] f front rest s h = ap (λ (w : List ℕ). components_of (w ++ rest)) s ∙ ends_again f rest h
items_again (c ∷ cs) f front rest s h =
    ap (λ (w : List ℕ). components_of (w ++ rest)) s.3
    ∙ (ap components_of (append_assoc s.0 s.1 rest)
    ∙ (components_of-next (s.0 ++ (s.1 ++ rest)) (s.1 ++ rest) c (component_again c s.0 (s.1 ++ rest) s.2)
    ∙ ap (λ (w : Items). Ok c ∷ w) (items_again cs f s.1 rest s.4 h)))

pub first_fault_again : (cs : List ComponentParts) (f : Option FaultParts) (content : List ℕ) → FirstFault cs f content → components_of content ≡ items cs f
first_fault_again cs f content h = ap components_of h.is_content ∙ items_again cs f h.front h.rest h.spelled h.ends

-- ---- there is one

ends_first : (f : Option FaultParts) (c : ComponentParts) (whole more rest : List ℕ) → EndsIn f rest → SpellsComponent c whole → rest ≡ whole ++ more → ⊥
ends_first None c whole more rest h s is = let lt = longer c whole more rest s is in absurd (omega (arith, lt, ap length h))
ends_first (Some f) c whole more rest h s is = no_component c whole more f s (subst (λ (w : List ℕ). IsComponentFault w f) is h.1)

-- no other components reach further
longest_by : (cs : List ComponentParts) (f : Option FaultParts) (front rest : List ℕ) → SpellsComponents cs front → EndsIn f rest → (ds : List ComponentParts) (bytes more : List ℕ) → SpellsComponents ds bytes → front ++ rest ≡ bytes ++ more → length bytes ≤ length front
longest_by cs f front rest s h [] bytes more t e = omega (arith, ap length t)
longest_by [] f front rest s h (d ∷ ds) bytes more t e =
    let is : rest ≡ t.0 ++ (t.1 ++ more) = ap (λ (w : List ℕ). w ++ rest) (sym s) ∙ (e ∙ (ap (λ (w : List ℕ). w ++ more) t.3 ∙ append_assoc t.0 t.1 more)) in
    absurd (ends_first f d t.0 (t.1 ++ more) rest h t.2 is)
longest_by (c ∷ cs) f front rest s h (d ∷ ds) bytes more t e =
    let is : s.0 ++ (s.1 ++ rest) ≡ t.0 ++ (t.1 ++ more) = sym (append_assoc s.0 s.1 rest) ∙ (ap (λ (w : List ℕ). w ++ rest) (sym s.3) ∙ (e ∙ (ap (λ (w : List ℕ). w ++ more) t.3 ∙ append_assoc t.0 t.1 more))) in
    let one = one_component c d s.0 t.0 (s.1 ++ rest) (t.1 ++ more) s.2 t.2 is in
    let inner = longest_by cs f s.1 rest s.4 h ds t.1 more t.4 one.1 in
    let fronts = ap length s.3 ∙ length-append s.0 s.1 in
    let others = ap length t.3 ∙ length-append t.0 t.1 in
    let all = sym (length-append s.0 (s.1 ++ rest)) ∙ (ap length is ∙ length-append t.0 (t.1 ++ more)) in
    omega (arith, inner, fronts, others, all, ap length one.1)

-- the parts of a first fault, but for the longest
abbrev Found : List ℕ → Type 0
Found content = (cs : List ComponentParts) × (f : Option FaultParts) × (front : List ℕ) × (rest : List ℕ) × (content ≡ front ++ rest) × SpellsComponents cs front × EndsIn f rest

found_by : (n : ℕ) (content : List ℕ) → length content ≤ n → Found content
found_by n [] le = ([], None, [], [], refl, refl, refl)
found_by zero (b ∷ content) le = absurd (omega arith)
found_by (suc n) (b ∷ content) le = elim (by_result (component_at (b ∷ content))) [
  | inl f ↦ ([], Some f.0, [], b ∷ content, refl, refl, ((λ e. absurd cc), component_fails (b ∷ content) f.0 f.1))
  | inr r ↦
      let t = component_takes (b ∷ content) r.0 r.1 in
      let lt = longer r.0.0 t.0 r.0.1 (b ∷ content) t.1 t.2 in
      let o = found_by n r.0.1 (omega (arith, lt, le)) in
      (r.0.0 ∷ o.0, o.1, t.0 ++ o.2, o.3, t.2 ∙ (ap (λ (w : List ℕ). t.0 ++ w) o.4 ∙ sym (append_assoc t.0 o.2 o.3)), (t.0, o.2, t.1, refl, o.5), o.6)
]

pub first_fault_is : (content : List ℕ) → (cs : List ComponentParts) × (f : Option FaultParts) × FirstFault cs f content × (components_of content ≡ items cs f)
first_fault_is content =
    let o = found_by (length content) content (omega arith) in
    let first : FirstFault o.0 o.1 content = record {
      front = o.2;
      rest = o.3;
      is_content = o.4;
      spelled = o.5;
      longest = λ ds bytes more t e. longest_by o.0 o.1 o.2 o.3 o.5 o.6 ds bytes more t (sym o.4 ∙ e);
      ends = o.6;
    } in
    (o.0, o.1, first, first_fault_again o.0 o.1 content first)
