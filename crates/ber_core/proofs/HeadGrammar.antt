-- A head that is read is spelled so, and what is spelled so is read.
use Rattle.std.proofs.Common.{◌≡◌, ◌≢◌, ℕ, zero, suc, ◌+◌, ◌-◌, ◌<◌, ◌≤◌, Bool, true, cond, ltb, eqb, bit_and, List, [], ◌∷◌, ◌++◌, length, get_or, take, drop, Option, Some, None, Ok, refl, sym, ap, subst, ◌∙◌, inl, inr, arith}
use Rattle.std.proofs.lemmas.Bool.{cases_Bool, MatchBool-at_true, MatchBool-at_false, lt-ltb, le-ltb, ltb-true, ltb-false, eqb-true, eqb-false, ne_eqb}
use Rattle.std.proofs.lemmas.List.{take-append-drop, take_at, drop_at, length-append, length-take, get_or-take}
use Rattle.ber_core.specs.declared.fault.BerFault.TheVariants.{Short, BadTag, BadLength, IndefinitePrimitive}
use Rattle.ber_core.specs.Tag.{AreFurther, IsTag, is_constructor}
use Rattle.ber_core.specs.Length.{IsLength, number_after}
use Rattle.ber_core.specs.Results.{◌>>=◌}
use Rattle.ber_core.specs.HeadReading.{further_at, all_further_at, tag_at, number_at, length_at, head_at}
use Rattle.ber_core.proofs.ResultSteps.{read, refused, read_is, not_read, chosen_by, bind_read, guard_read}

-- ---- tags

pub further_takes : (n : ℕ) (bytes : List ℕ) (k : ℕ) → further_at n bytes ≡ Ok k → AreFurther n (take k bytes) × (0 < k) × (k ≤ length bytes)
unfolding further_at
further_takes zero bytes k e = absurd cc
further_takes (suc n) [] k e = absurd cc
further_takes (suc n) (b ∷ bytes) k e =
    let P : ℕ → Type 0 = λ m. AreFurther (suc n) (take m (b ∷ bytes)) × (0 < m) × (m ≤ length (b ∷ bytes)) in
    elim (chosen_by (ltb b 128) (read 1) (further_at n bytes >>= (λ j. Ok (1 + j))) (Ok k) e) [
      | inl p ↦ subst P (read_is 1 k p.1) (inl (ltb-true b 128 p.0, refl), omega arith, omega arith)
      | inr p ↦
          let q = bind_read (further_at n bytes) (λ j. Ok (1 + j)) k p.1 in
          let rest = further_takes n bytes q.0 q.1 in
          let k-is : suc q.0 ≡ k = omega (arith, read_is (1 + q.0) k q.2) in
          subst P k-is (inr (ltb-false b 128 p.0, rest.0), omega arith, omega (arith, rest.2))
    ]

pub further_again : (n : ℕ) (octets rest : List ℕ) → AreFurther n octets → further_at n (octets ++ rest) ≡ Ok (length octets)
unfolding further_at
further_again zero octets rest h = absurd h
further_again (suc n) [] rest h = absurd h
further_again (suc n) (b ∷ octets) rest (inl h) = let one : 1 ≡ suc (length octets) = omega (arith, ap length h.1) in rw (lt-ltb b 128 h.0) (ap (λ (k : ℕ). read k) one)
further_again (suc n) (b ∷ octets) rest (inr h) = let one : 1 + length octets ≡ suc (length octets) = omega arith in rw (le-ltb b 128 h.0, further_again n octets rest h.1) (ap (λ (k : ℕ). read k) one)

pub tag_takes : (bytes : List ℕ) (p : List ℕ × List ℕ) → tag_at bytes ≡ Ok p → IsTag p.0 × (bytes ≡ p.0 ++ p.1)
unfolding tag_at
tag_takes [] p e = absurd cc
tag_takes (first ∷ bytes) p e =
    let P : List ℕ × List ℕ → Type 0 = λ x. IsTag x.0 × (first ∷ bytes ≡ x.0 ++ x.1) in
    let long = λ (k : ℕ). read (take (1 + k) (first ∷ bytes), drop (1 + k) (first ∷ bytes)) in
    let g = guard_read (eqb first 0) BadTag (cond (eqb (bit_and first 31) 31) (all_further_at bytes >>= long) (read (take 1 (first ∷ bytes), drop 1 (first ∷ bytes)))) p e in
    elim (chosen_by (eqb (bit_and first 31) 31) (all_further_at bytes >>= long) (read (take 1 (first ∷ bytes), drop 1 (first ∷ bytes))) (Ok p) g.1) [
      | inl q ↦
          let s = bind_read (all_further_at bytes) long p q.1 in
          let t = guard_read (eqb (get_or bytes 0 0) 128) BadTag (further_at 4 bytes) s.0 s.1 in
          let f = further_takes 4 bytes s.0 t.1 in
          let first-is : get_or (take s.0 bytes) 0 0 ≡ get_or bytes 0 0 = get_or-take s.0 bytes 0 0 f.1 in
          let is_tag : IsTag (first ∷ take s.0 bytes) = (eqb-false first 0 g.0, rw q.0 (f.0, λ same. eqb-false (get_or bytes 0 0) 128 t.0 (sym first-is ∙ same))) in
          let one : 1 + s.0 ≡ suc s.0 = omega arith in
          subst P (read_is (take (1 + s.0) (first ∷ bytes), drop (1 + s.0) (first ∷ bytes)) p s.2) (rw one is_tag, rw one (ap (λ (w : List ℕ). first ∷ w) (sym (take-append-drop s.0 bytes))))
      | inr q ↦ subst P (read_is (take 1 (first ∷ bytes), drop 1 (first ∷ bytes)) p q.1) ((eqb-false first 0 g.0, rw q.0 refl), refl)
    ]

tag_again-long : (first : ℕ) (further rest : List ℕ) → first ≢ 0 → eqb (bit_and first 31) 31 ≡ true → AreFurther 4 further → get_or further 0 0 ≢ 128 → tag_at (first ∷ (further ++ rest)) ≡ Ok (first ∷ further, rest)
unfolding tag_at
tag_again-long first [] rest nonzero long f other = absurd f
tag_again-long first (b ∷ octets) rest nonzero long f other =
    let count : length (first ∷ b ∷ octets) ≡ 1 + length (b ∷ octets) = omega arith in
    let front : take (1 + length (b ∷ octets)) (first ∷ b ∷ (octets ++ rest)) ≡ first ∷ b ∷ octets = take_at (first ∷ b ∷ octets) rest (1 + length (b ∷ octets)) count in
    let back : drop (1 + length (b ∷ octets)) (first ∷ b ∷ (octets ++ rest)) ≡ rest = drop_at (first ∷ b ∷ octets) rest (1 + length (b ∷ octets)) count in
    rw (ne_eqb first 0 nonzero, long, ne_eqb b 128 other, further_again 4 (b ∷ octets) rest f) (rw (front, back) refl)

pub tag_again : (tag rest : List ℕ) → IsTag tag → tag_at (tag ++ rest) ≡ Ok (tag, rest)
unfolding tag_at
tag_again [] rest h = absurd h
tag_again (first ∷ further) rest h =
    elim (cases_Bool (eqb (bit_and first 31) 31)) [
      | inl long ↦
          let f = MatchBool-at_true (AreFurther 4 further × (get_or further 0 0 ≢ 128)) (further ≡ []) long h.1 in
          tag_again-long first further rest h.0 long f.0 f.1
      | inr plain ↦
          let f = MatchBool-at_false (AreFurther 4 further × (get_or further 0 0 ≢ 128)) (further ≡ []) plain h.1 in
          rw (ne_eqb first 0 h.0, plain) (rw f refl)
    ]

-- ---- lengths

-- what length octets say: a number, or that the length is indefinite, in a constructor
abbrev pub SpellsLength : Bool → Option ℕ → List ℕ → Type 0
SpellsLength c None octets = (c ≡ true) × (octets ≡ 128 ∷ [])
SpellsLength c (Some n) octets = IsLength octets n

abbrev pair : Option ℕ → List ℕ → Option ℕ × List ℕ
pair o rest = (o, rest)

pub length_takes : (c : Bool) (bytes : List ℕ) (p : Option ℕ × List ℕ) → length_at c bytes ≡ Ok p → (octets : List ℕ) × SpellsLength c p.0 octets × (bytes ≡ octets ++ p.1)
unfolding length_at
length_takes c [] p e = absurd cc
length_takes c (b ∷ more) p e =
    let P : Option ℕ × List ℕ → Type 0 = λ x. (octets : List ℕ) × SpellsLength c x.0 octets × (b ∷ more ≡ octets ++ x.1) in
    let n = number_after 0 (take (b - 128) more) in
    let spelled = λ (k : ℕ). read (pair (Some k) (drop (b - 128) more)) in
    let short = read (pair (Some b) more) in
    let indefinite = read (pair None more) in
    let long = cond (ltb (length more) (b - 128)) (refused Short) (number_at (take (b - 128) more) >>= spelled) in
    elim (chosen_by (eqb b 128) (cond c indefinite (refused IndefinitePrimitive)) (cond (eqb b 255) (refused BadLength) (cond (ltb b 128) short long)) (read p) e) [
      | inl q ↦ elim (chosen_by c indefinite (refused IndefinitePrimitive) (read p) q.1) [
        | inl r ↦ subst P (read_is (pair None more) p r.1) (128 ∷ [], (r.0, refl), ap (λ (k : ℕ). k ∷ more) (eqb-true b 128 q.0))
        | inr r ↦ absurd (not_read IndefinitePrimitive p r.1)
      ]
      | inr q ↦
          let g = guard_read (eqb b 255) BadLength (cond (ltb b 128) short long) p q.1 in
          elim (chosen_by (ltb b 128) short long (read p) g.1) [
            | inl r ↦ subst P (read_is (pair (Some b) more) p r.1) (b ∷ [], inl (ltb-true b 128 r.0, refl, refl), refl)
            | inr r ↦
                let high : 128 ≤ b = ltb-false b 128 r.0 in
                let s = guard_read (ltb (length more) (b - 128)) Short (number_at (take (b - 128) more) >>= spelled) p r.1 in
                let enough : b - 128 ≤ length more = ltb-false (length more) (b - 128) s.0 in
                let t = bind_read (number_at (take (b - 128) more)) spelled p s.1 in
                let u = guard_read (ltb 65535 n) BadLength (read n) t.0 t.1 in
                let small : n ≤ 65535 = ltb-false 65535 n u.0 in
                let value : n ≡ t.0 = read_is n t.0 u.1 in
                let other : b ≢ 128 = eqb-false b 128 q.0 in
                let above : 128 < b = omega (arith, other) in
                let count : length (take (b - 128) more) ≡ b - 128 = omega (arith, length-take (b - 128) more) in
                subst P (read_is (pair (Some t.0) (drop (b - 128) more)) p t.2)
                (b ∷ take (b - 128) more, inr (above, eqb-false b 255 g.0, count, sym value, omega (arith, value)), ap (λ (w : List ℕ). b ∷ w) (sym (take-append-drop (b - 128) more)))
          ]
    ]

pub length_again : (c : Bool) (octets : List ℕ) (n : ℕ) (rest : List ℕ) → IsLength octets n → length_at c (octets ++ rest) ≡ Ok (Some n, rest)
unfolding length_at
length_again c [] n rest h = absurd h
length_again c (b ∷ octets) n rest (inl h) =
    rw (ne_eqb b 128 (λ e. absurd (omega arith)), ne_eqb b 255 (λ e. absurd (omega arith)), lt-ltb b 128 h.0) (rw (h.1, h.2) refl)
length_again c (b ∷ octets) n rest (inr h) =
    let enough : b - 128 ≤ length (octets ++ rest) = omega (arith, length-append octets rest, h.2) in
    let small : number_after 0 octets ≤ 65535 = omega (arith, h.3, h.4) in
    rw (ne_eqb b 128 (λ e. absurd (omega arith)), ne_eqb b 255 h.1, le-ltb b 128 (omega arith), le-ltb (length (octets ++ rest)) (b - 128) enough)
    (rw (take_at octets rest (b - 128) h.2, drop_at octets rest (b - 128) h.2, le-ltb 65535 (number_after 0 octets) small, h.3) refl)

-- ---- heads

abbrev pub HeadRead : Type 0
HeadRead = List ℕ × Bool × Option ℕ × List ℕ

-- what a head that was read says of the octets
pub record SpellsHead (bytes : List ℕ) (h : HeadRead) : Type 0 where
  pub octets : List ℕ
  pub is_tag : IsTag h.0
  pub constructs : h.1 ≡ is_constructor h.0
  pub spells : SpellsLength h.1 h.2 octets
  pub parts : bytes ≡ h.0 ++ (octets ++ h.3)

pub head_takes : (bytes : List ℕ) (h : HeadRead) → head_at bytes ≡ Ok h → SpellsHead bytes h
unfolding head_at
head_takes bytes h e =
    let after = λ (t : List ℕ × List ℕ). length_at (is_constructor t.0) t.1 >>= (λ l. read (t.0, is_constructor t.0, l.0, l.1)) in
    let t = bind_read (tag_at bytes) after h e in
    let l = bind_read (length_at (is_constructor t.0.0) t.0.1) (λ l. read (t.0.0, is_constructor t.0.0, l.0, l.1)) h t.2 in
    let tag = tag_takes bytes t.0 t.1 in
    let len = length_takes (is_constructor t.0.0) t.0.1 l.0 l.1 in
    subst (SpellsHead bytes) (read_is (t.0.0, is_constructor t.0.0, l.0.0, l.0.1) h l.2) (record {
      octets = len.0;
      is_tag = tag.0;
      constructs = refl;
      spells = len.1;
      parts = tag.1 ∙ ap (λ (w : List ℕ). t.0.0 ++ w) len.2;
    })

pub head_again-definite : (tag octets rest : List ℕ) (n : ℕ) → IsTag tag → IsLength octets n → head_at (tag ++ (octets ++ rest)) ≡ Ok (tag, is_constructor tag, Some n, rest)
unfolding head_at
head_again-definite tag octets rest n h l = rw (tag_again tag (octets ++ rest) h, length_again (is_constructor tag) octets n rest l) refl

pub head_again-indefinite : (tag rest : List ℕ) → IsTag tag → is_constructor tag ≡ true → head_at (tag ++ (128 ∷ rest)) ≡ Ok (tag, is_constructor tag, None, rest)
unfolding head_at length_at
head_again-indefinite tag rest h c = rw (tag_again tag (128 ∷ rest) h, c) refl
