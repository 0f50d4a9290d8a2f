-- What is read at the front stands there, and what stands there is read.
use Rattle.std.proofs.Common.{◌≡◌, ℕ, Bool, true, false, List, Option, Some, Ok, refl, sym, ap, subst, ◌∙◌, inl, inr}
use Rattle.std.proofs.lemmas.Bool.{cases_Bool}
use Rattle.ber_core.specs.declared.fault.BerFault.{BerFault}
use Rattle.ber_core.specs.Tag.{is_constructor}
use Rattle.ber_core.specs.Element.{Parts}
use Rattle.ber_core.specs.ElementReading.{element_at}
use Rattle.ber_core.specs.HeadReading.{head_at}
use Rattle.ber_core.specs.SequenceReading.{is_tag, tagged}
use Rattle.ber_core.proofs.CallerLemmas.{read_is, not_read, by_result, element_takes, element_again, HeadRead, head_takes, begins, begins_again, is_tag-one, is_tag-is}
use Rattle.tcap_pdu.specs.Front.{LooksAt, StandsFirst, Front, cut, both, ids_at, front_at}
use Rattle.tcap_pdu.specs.Front.StandsFirst.{stands, lacks}
use Rattle.tcap_pdu.specs.Front.Front.{ids, none}

not_false : (b : Bool) → b ≡ true → b ≡ false → ⊥
not_false b p q = let both : true ≡ false = sym p ∙ q in cc

-- ---- a first element

abbrev first : Option (List ℕ) → List ℕ → Option (List ℕ) × List ℕ
first o rest = (o, rest)

abbrev IsFirst : ℕ → List ℕ → Option (List ℕ) × List ℕ → Type 0
IsFirst tag bytes p = StandsFirst tag bytes p.0 p.1

pub first_read : (tag : ℕ) (bytes : List ℕ) → IsFirst tag bytes (tagged tag bytes)
unfolding tagged
first_read tag bytes = elim (by_result (element_at 32 bytes)) [
  | inl f ↦ rw f.1 (lacks bytes (λ e rest i t is. not_read f.0 (e, rest) (sym f.1 ∙ (ap (element_at 32) is ∙ element_again 32 e rest i))))
  | inr p ↦
      let t = element_takes 32 bytes p.0 p.1 in
      elim (cases_Bool (is_tag tag p.0.0.tag)) [
        | inl y ↦ rw (p.1, y) (subst (λ (w : List ℕ). StandsFirst tag w (Some p.0.0.content) p.0.1) (sym t.1) (stands p.0.0 p.0.1 t.0 (is_tag-is tag p.0.0.tag y)))
        | inr n ↦ rw (p.1, n) (lacks bytes (λ e rest i same is.
            let one = read_is {E = BerFault} p.0 (e, rest) (sym p.1 ∙ (ap (element_at 32) is ∙ element_again 32 e rest i)) in
            not_false (is_tag tag p.0.0.tag) (is_tag-one tag p.0.0.tag (ap (λ (q : Parts × List ℕ). q.0.tag) one ∙ same)) n))
      ]
]

pub first_again : (tag : ℕ) (bytes : List ℕ) (o : Option (List ℕ)) (rest : List ℕ) → StandsFirst tag bytes o rest → tagged tag bytes ≡ first o rest
unfolding tagged
first_again tag bytes o rest (stands e more i t) = rw (element_again 32 e more i, is_tag-one tag e.tag t) refl
first_again tag bytes o rest (lacks w h) = elim (by_result (element_at 32 w)) [
  | inl f ↦ rw f.1 refl
  | inr p ↦
      let t = element_takes 32 w p.0 p.1 in
      elim (cases_Bool (is_tag tag p.0.0.tag)) [
        | inl y ↦ absurd (h p.0.0 p.0.1 t.0 (is_tag-is tag p.0.0.tag y) t.1)
        | inr n ↦ rw (p.1, n) refl
      ]
]

-- ---- behind the head

looks : (bytes : List ℕ) (h : HeadRead) → head_at bytes ≡ Ok h → h.1 ≡ true → LooksAt bytes (cut h.2 h.3)
looks bytes h e c =
    let s = head_takes bytes h e in
    record { tag = h.0; len = h.2; rest = h.3; begins = begins bytes h e; constructs = sym s.constructs ∙ c; is_cut = refl }

abbrev Behind : List ℕ → List ℕ → Type 0
Behind bytes inside = (h : HeadRead) × (head_at bytes ≡ Ok h) × (h.1 ≡ true) × (inside ≡ cut h.2 h.3)

looks_again : (bytes inside : List ℕ) → LooksAt bytes inside → Behind bytes inside
looks_again bytes inside l = ((l.tag, is_constructor l.tag, l.len, l.rest), begins_again l.tag l.len l.rest bytes l.begins, l.constructs, l.is_cut)

-- ---- the identifiers

abbrev IsFront : List ℕ → Option (List ℕ) × Option (List ℕ) → Type 0
IsFront bytes p = Front bytes p.0 p.1

ids_read : (bytes inside : List ℕ) → LooksAt bytes inside → IsFront bytes (ids_at inside)
ids_read bytes inside h =
    let o = tagged 0x48 inside in
    let d = tagged 0x49 o.1 in
    ids bytes inside o.1 d.1 o.0 d.0 h (first_read 0x48 inside) (first_read 0x49 o.1)

pub front_read : (bytes : List ℕ) → IsFront bytes (front_at bytes)
unfolding front_at
front_read bytes = elim (by_result (head_at bytes)) [
  | inl f ↦ rw f.1 (none bytes (λ inside i. let b = looks_again bytes inside i in not_read f.0 b.0 (sym f.1 ∙ b.1)))
  | inr h ↦ elim (cases_Bool h.0.1) [
    | inl y ↦ rw (h.1, y) (ids_read bytes (cut h.0.2 h.0.3) (looks bytes h.0 h.1 y))
    | inr n ↦ rw (h.1, n) (none bytes (λ inside i.
        let b = looks_again bytes inside i in
        let one = read_is {E = BerFault} h.0 b.0 (sym h.1 ∙ b.1) in
        not_false h.0.1 (ap (λ (q : HeadRead). q.1) one ∙ b.2) n))
  ]
]

pub front_again : (bytes : List ℕ) (o d : Option (List ℕ)) → Front bytes o d → front_at bytes ≡ both o d
unfolding front_at
front_again bytes o d (ids w inside behind rest origin destination i f g) =
    let b = looks_again w inside i in
    let p = first_again 0x48 inside origin behind f in
    let q = first_again 0x49 behind destination rest g in
    rw (b.1, b.2, ← b.3, p) (rw q refl)
front_again bytes o d (none w h) = elim (by_result (head_at w)) [
  | inl f ↦ rw f.1 refl
  | inr r ↦ elim (cases_Bool r.0.1) [
    | inl y ↦ absurd (h (cut r.0.2 r.0.3) (looks w r.0 r.1 y))
    | inr n ↦ rw (r.1, n) refl
  ]
]

-- ---- the clauses of front_ids

pub found : (bytes : List ℕ) (o d : Option (List ℕ)) → both o d ≡ front_at bytes → Front bytes o d
found bytes o d e = subst (IsFront bytes) (sym e) (front_read bytes)

pub only : (bytes : List ℕ) (o d : Option (List ℕ)) → both o d ≡ front_at bytes → (p q : Option (List ℕ)) → Front bytes p q → (o ≡ p) × (d ≡ q)
only bytes o d e p q h =
    let same : both o d ≡ both p q = e ∙ front_again bytes p q h in
    (ap (λ (z : Option (List ℕ) × Option (List ℕ)). z.0) same, ap (λ (z : Option (List ℕ) × Option (List ℕ)). z.1) same)
