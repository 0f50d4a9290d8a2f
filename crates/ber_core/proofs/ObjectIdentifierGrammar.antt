-- What is taken for an object identifier is one, and the other way round.
use Rattle.std.proofs.Common.{◌≡◌, ◌≢◌, ℕ, ◌+◌, ◌<◌, ◌≤◌, Bool, true, false, cond, ltb, eqb, List, [], ◌∷◌, ◌++◌, length, get_or, drop, refl, sym, ap, ◌∙◌, inl, inr, arith, add-one}
use Rattle.std.specs.List.{flat_map, AllByRecursion}
use Rattle.std.proofs.Math.Seq.{drop-cons}
use Rattle.std.proofs.lemmas.List.{drop_all}
use Rattle.std.proofs.lemmas.Bool.{cases_Bool, lt-ltb, le-ltb, ltb-true, ltb-false, eqb-false, ne_eqb}
use Rattle.ber_core.specs.ObjectIdentifier.{IsSeries, IsSubidentifier, IsObjectIdentifier, subidentifiers_at, is_object_identifier}

abbrev joined_of : List (List ℕ) → List ℕ
joined_of ss = flat_map (λ (s : List ℕ). s) ss

-- ---- the loop

pub at-passed : (begins : Bool) (i : ℕ) (octets : List ℕ) → i < length octets → cond begins (eqb (get_or octets i 0) 0x80) false ≡ false → subidentifiers_at (ltb (get_or octets i 0) 0x80) (drop (i + 1) octets) ≡ subidentifiers_at begins (drop i octets)
unfolding subidentifiers_at
at-passed begins i octets lt goes = rw (drop-cons octets i 0, goes, add-one i) refl

pub neither : (begins : Bool) → cond begins false false ≡ false
neither true = refl
neither false = refl

pub passed_low : (begins : Bool) (i : ℕ) (octets : List ℕ) → i < length octets → get_or octets i 0 < 128 → subidentifiers_at true (drop (i + 1) octets) ≡ subidentifiers_at begins (drop i octets)
passed_low begins i octets lt low =
    let goes : cond begins (eqb (get_or octets i 0) 128) false ≡ false = rw (ne_eqb (get_or octets i 0) 128 (λ same. omega (arith, low, same))) (neither begins) in
    ap (λ (b : Bool). subidentifiers_at b (drop (i + 1) octets)) (sym (lt-ltb (get_or octets i 0) 128 low)) ∙ at-passed begins i octets lt goes

pub passed_high : (begins : Bool) (i : ℕ) (octets : List ℕ) → i < length octets → 128 ≤ get_or octets i 0 → cond begins (eqb (get_or octets i 0) 128) false ≡ false → subidentifiers_at false (drop (i + 1) octets) ≡ subidentifiers_at begins (drop i octets)
passed_high begins i octets lt high goes = ap (λ (b : Bool). subidentifiers_at b (drop (i + 1) octets)) (sym (le-ltb (get_or octets i 0) 128 high)) ∙ at-passed begins i octets lt goes

pub at-padded : (i : ℕ) (octets : List ℕ) → i < length octets → get_or octets i 0 ≡ 0x80 → subidentifiers_at true (drop i octets) ≡ false
unfolding subidentifiers_at
at-padded i octets lt is = rw (drop-cons octets i 0, is) refl

pub at-end : (begins : Bool) (i : ℕ) (octets : List ℕ) → length octets ≤ i → subidentifiers_at begins (drop i octets) ≡ begins
unfolding subidentifiers_at
at-end begins i octets past = rw (drop_all i octets past) refl

-- ---- both ways

abbrev Subidentifiers : List ℕ → Type 0
Subidentifiers octets = (ss : List (List ℕ)) × AllByRecursion IsSubidentifier ss × (octets ≡ joined_of ss)

-- the rest of a series, and subidentifiers
abbrev Under : List ℕ → Type 0
Under octets = (s : List ℕ) × IsSeries s × (more : List ℕ) × (octets ≡ s ++ more) × Subidentifiers more

guard_true : (b r : Bool) → cond b false r ≡ true → (b ≡ false) × (r ≡ true)
guard_true true r e = absurd cc
guard_true false r e = (refl, e)

mutual
  unfolding subidentifiers_at

  begins_takes : (octets : List ℕ) → subidentifiers_at true octets ≡ true → Subidentifiers octets
  begins_takes [] e = ([], tt, refl)
  begins_takes (b ∷ octets) e =
      let g = guard_true (eqb b 0x80) (subidentifiers_at (ltb b 0x80) octets) e in
      let other : b ≢ 0x80 = eqb-false b 0x80 g.0 in
      elim (cases_Bool (ltb b 0x80)) [
        | inl low ↦
            let g1 = g.1 in
            let rest = begins_takes octets (rw low at g1) in
            ((b ∷ []) ∷ rest.0, ((inl (ltb-true b 0x80 low, refl), other), rest.1), ap (λ (w : List ℕ). b ∷ w) rest.2)
        | inr high ↦
            let g1 = g.1 in
            let u = goes_on_takes octets (rw high at g1) in
            ((b ∷ u.0) ∷ u.4.0, ((inr (ltb-false b 0x80 high, u.1), other), u.4.1), ap (λ (w : List ℕ). b ∷ w) (u.3 ∙ ap (λ (w : List ℕ). u.0 ++ w) u.4.2))
      ]

  goes_on_takes : (octets : List ℕ) → subidentifiers_at false octets ≡ true → Under octets
  goes_on_takes [] e = absurd cc
  goes_on_takes (b ∷ octets) e = elim (cases_Bool (ltb b 0x80)) [
    | inl low ↦
        let e = e in
        (b ∷ [], inl (ltb-true b 0x80 low, refl), octets, refl, begins_takes octets (rw low at e))
    | inr high ↦
        let e = e in
        let u = goes_on_takes octets (rw high at e) in
        (b ∷ u.0, inr (ltb-false b 0x80 high, u.1), u.2, ap (λ (w : List ℕ). b ∷ w) u.3, u.4)
  ]

goes_on_again : (s more : List ℕ) → IsSeries s → subidentifiers_at false (s ++ more) ≡ subidentifiers_at true more
unfolding subidentifiers_at
goes_on_again [] more h = absurd h
goes_on_again (b ∷ s) more (inl h) = rw (h.1, lt-ltb b 0x80 h.0) refl
goes_on_again (b ∷ s) more (inr h) = rw (le-ltb b 0x80 h.0) (goes_on_again s more h.1)

begins_again : (s more : List ℕ) → IsSubidentifier s → subidentifiers_at true (s ++ more) ≡ subidentifiers_at true more
unfolding subidentifiers_at
begins_again [] more h = absurd h.0
begins_again (b ∷ s) more (inl h, other) = rw (h.1, ne_eqb b 0x80 other, lt-ltb b 0x80 h.0) refl
begins_again (b ∷ s) more (inr h, other) = rw (ne_eqb b 0x80 other, le-ltb b 0x80 h.0) (goes_on_again s more h.1)

all_again : (ss : List (List ℕ)) → AllByRecursion IsSubidentifier ss → subidentifiers_at true (joined_of ss) ≡ true
unfolding subidentifiers_at
all_again [] h = refl
all_again (s ∷ ss) h = begins_again s (joined_of ss) h.0 ∙ all_again ss h.1

pub object_identifier_takes : (octets : List ℕ) → is_object_identifier octets ≡ true → IsObjectIdentifier octets
unfolding is_object_identifier
object_identifier_takes octets e =
    let g = guard_true (eqb (length octets) 0) (cond (ltb 255 (length octets)) false (subidentifiers_at true octets)) e in
    let h = guard_true (ltb 255 (length octets)) (subidentifiers_at true octets) g.1 in
    let t = begins_takes octets h.1 in
    record {
      subidentifiers = t.0;
      each = t.1;
      is_joined = t.2;
      filled = λ none. eqb-false (length octets) 0 g.0 (ap length none);
      is_short = ltb-false 255 (length octets) h.0;
    }

none_of : (octets : List ℕ) → length octets ≡ 0 → octets ≡ []
none_of [] e = refl
none_of (b ∷ octets) e = absurd (omega (arith, e))

pub object_identifier_again : (octets : List ℕ) → IsObjectIdentifier octets → is_object_identifier octets ≡ true
unfolding is_object_identifier
object_identifier_again octets h =
    let all : subidentifiers_at true octets ≡ true = ap (subidentifiers_at true) h.is_joined ∙ all_again h.subidentifiers h.each in
    rw (ne_eqb (length octets) 0 (λ e. h.filled (none_of octets e)), le-ltb 255 (length octets) h.is_short) all
