-- A head that is not read has the fault that is told.
use Rattle.std.proofs.Common.{◌≡◌, ◌≢◌, ℕ, zero, suc, ◌+◌, ◌-◌, ◌<◌, ◌≤◌, cond, ltb, eqb, bit_and, List, [], ◌∷◌, ◌++◌, length, get_or, take, drop, Option, Some, None, Err, refl, sym, ap, subst, ◌∙◌, ◌⊎◌, inl, inr, arith}
use Rattle.std.proofs.lemmas.Bool.{ltb-true, ltb-false, eqb-true, eqb-false}
use Rattle.std.proofs.lemmas.List.{take-append-drop, length-take, get_or-take}
use Rattle.ber_core.specs.declared.fault.BerFault.{BerFault}
use Rattle.ber_core.specs.declared.fault.BerFault.TheVariants.{Short, BadTag, BadLength, IndefinitePrimitive}
use Rattle.ber_core.specs.Tag.{IsTag, is_constructor}
use Rattle.ber_core.specs.Length.{number_after}
use Rattle.ber_core.specs.Fault.{GoOn, IsLong, HeadFault}
use Rattle.ber_core.specs.Fault.HeadFault.{no_tag, in_tag, no_length, in_length, zero_first, padded, long_tag, reserved, large, primitive}
use Rattle.ber_core.specs.Results.{◌>>=◌}
use Rattle.ber_core.specs.HeadReading.{further_at, all_further_at, tag_at, number_at, length_at, head_at}
use Rattle.ber_core.proofs.ResultSteps.{read, refused, chosen_by, refused_is, not_refused, bind_refused}
use Rattle.ber_core.proofs.HeadGrammar.{HeadRead, tag_takes}

-- what of the further octets ends the reading
pub record GoesOn (n : ℕ) (bytes : List ℕ) (f : BerFault) : Type 0 where
  pub on : GoOn (take n bytes)
  pub why : ((length bytes < n) × (f ≡ Short)) ⊎ ((n ≤ length bytes) × (f ≡ BadTag))

pub further_fails : (n : ℕ) (bytes : List ℕ) (f : BerFault) → further_at n bytes ≡ Err f → GoesOn n bytes f
unfolding further_at
further_fails zero bytes f e = record { on = tt; why = inr (omega arith, sym (refused_is {A = ℕ} BadTag f e)) }
further_fails (suc n) [] f e = record { on = tt; why = inl (omega arith, sym (refused_is {A = ℕ} Short f e)) }
further_fails (suc n) (b ∷ bytes) f e =
    elim (chosen_by (ltb b 128) (read 1) (further_at n bytes >>= (λ j. read (1 + j))) (refused f) e) [
      | inl p ↦ absurd (not_refused f 1 p.1)
      | inr p ↦ elim (bind_refused (further_at n bytes) (λ j. read (1 + j)) f p.1) [
        | inl q ↦
            let rest = further_fails n bytes f q in
            let why : ((length (b ∷ bytes) < suc n) × (f ≡ Short)) ⊎ ((suc n ≤ length (b ∷ bytes)) × (f ≡ BadTag)) = elim rest.why [ inl w ↦ inl (omega arith, w.1) | inr w ↦ inr (omega arith, w.1) ] in
            record { on = (ltb-false b 128 p.0, rest.on); why = why }
        | inr q ↦ absurd (not_refused f (1 + q.0) q.2)
      ]
    ]

take_few : (n : ℕ) (xs : List ℕ) → length xs < n → take n xs ≡ xs
take_few zero xs h = absurd (omega arith)
take_few (suc n) [] h = refl
take_few (suc n) (x ∷ xs) h = ap (λ (w : List ℕ). x ∷ w) (take_few n xs (omega arith))

further-fault : (first : ℕ) (bytes : List ℕ) (f : BerFault) → IsLong first → get_or bytes 0 0 ≢ 128 → GoesOn 4 bytes f → HeadFault (first ∷ bytes) f
further-fault first bytes f long other g =
    elim g.why [
      | inl w ↦ rw w.1 (in_tag first bytes long (rw (take_few 4 bytes w.0) at g.on) other w.0)
      | inr w ↦
          let front : get_or (take 4 bytes) 0 0 ≢ 128 = λ e. other (sym (get_or-take 4 bytes 0 0 (omega arith)) ∙ e) in
          let count : length (take 4 bytes) ≡ 4 = omega (arith, length-take 4 bytes) in
          rw w.1 (subst (λ (bs : List ℕ). HeadFault (first ∷ bs) BadTag) (take-append-drop 4 bytes) (long_tag first (take 4 bytes) (drop 4 bytes) long g.on front count))
    ]

padded-fault : (first : ℕ) (bytes : List ℕ) → IsLong first → get_or bytes 0 0 ≡ 128 → HeadFault (first ∷ bytes) BadTag
padded-fault first [] long is = absurd (omega arith)
padded-fault first (b ∷ bytes) long is = let P : ℕ → Type 0 = λ k. HeadFault (first ∷ k ∷ bytes) BadTag in subst P (sym is) (padded first bytes long)

abbrev cut : ℕ → List ℕ → List ℕ × List ℕ
cut n bytes = (take n bytes, drop n bytes)

pub tag_fails : (bytes : List ℕ) (f : BerFault) → tag_at bytes ≡ Err f → HeadFault bytes f
unfolding tag_at
tag_fails [] f e = subst (HeadFault []) (refused_is {A = List ℕ × List ℕ} Short f e) no_tag
tag_fails (first ∷ bytes) f e =
    let long = λ (k : ℕ). read (cut (1 + k) (first ∷ bytes)) in
    let plain = read (cut 1 (first ∷ bytes)) in
    elim (chosen_by (eqb first 0) (refused BadTag) (cond (eqb (bit_and first 31) 31) (all_further_at bytes >>= long) plain) (refused f) e) [
      | inl p ↦
          let P : ℕ → Type 0 = λ k. HeadFault (k ∷ bytes) f in
          subst P (sym (eqb-true first 0 p.0)) (subst (HeadFault (0 ∷ bytes)) (refused_is {A = List ℕ × List ℕ} BadTag f p.1) (zero_first bytes))
      | inr p ↦ elim (chosen_by (eqb (bit_and first 31) 31) (all_further_at bytes >>= long) plain (refused f) p.1) [
        | inl q ↦
            let is_long : IsLong first = (eqb-false first 0 p.0, eqb-true (bit_and first 31) 31 q.0) in
            elim (bind_refused (all_further_at bytes) long f q.1) [
              | inl r ↦ elim (chosen_by (eqb (get_or bytes 0 0) 128) (refused BadTag) (further_at 4 bytes) (refused f) r) [
                | inl s ↦ subst (HeadFault (first ∷ bytes)) (refused_is {A = ℕ} BadTag f s.1) (padded-fault first bytes is_long (eqb-true (get_or bytes 0 0) 128 s.0))
                | inr s ↦ further-fault first bytes f is_long (eqb-false (get_or bytes 0 0) 128 s.0) (further_fails 4 bytes f s.1)
              ]
              | inr r ↦ absurd (not_refused f (cut (1 + r.0) (first ∷ bytes)) r.2)
            ]
        | inr q ↦ absurd (not_refused f (cut 1 (first ∷ bytes)) q.1)
      ]
    ]

abbrev pair : Option ℕ → List ℕ → Option ℕ × List ℕ
pair o rest = (o, rest)

abbrev LengthRead : Type 0
LengthRead = Option ℕ × List ℕ

append_none : (tag : List ℕ) → tag ++ [] ≡ tag
append_none [] = refl
append_none (b ∷ tag) = ap (λ (w : List ℕ). b ∷ w) (append_none tag)

pub length_fails : (tag bytes : List ℕ) (f : BerFault) → IsTag tag → length_at (is_constructor tag) bytes ≡ Err f → HeadFault (tag ++ bytes) f
unfolding length_at
length_fails tag [] f h e = rw (append_none tag) (subst (HeadFault tag) (refused_is {A = LengthRead} Short f e) (no_length tag h))
length_fails tag (b ∷ more) f h e =
    let c = is_constructor tag in
    let n = number_after 0 (take (b - 128) more) in
    let spelled = λ (k : ℕ). read (pair (Some k) (drop (b - 128) more)) in
    let short = read (pair (Some b) more) in
    let indefinite = read (pair None more) in
    let long = cond (ltb (length more) (b - 128)) (refused Short) (number_at (take (b - 128) more) >>= spelled) in
    elim (chosen_by (eqb b 128) (cond c indefinite (refused IndefinitePrimitive)) (cond (eqb b 255) (refused BadLength) (cond (ltb b 128) short long)) (refused f) e) [
      | inl p ↦ elim (chosen_by c indefinite (refused IndefinitePrimitive) (refused f) p.1) [
        | inl q ↦ absurd (not_refused f (pair None more) q.1)
        | inr q ↦
            let P : ℕ → Type 0 = λ k. HeadFault (tag ++ (k ∷ more)) f in
            subst P (sym (eqb-true b 128 p.0)) (subst (HeadFault (tag ++ (128 ∷ more))) (refused_is {A = LengthRead} IndefinitePrimitive f q.1) (primitive tag more h q.0))
      ]
      | inr p ↦ elim (chosen_by (eqb b 255) (refused BadLength) (cond (ltb b 128) short long) (refused f) p.1) [
        | inl q ↦
            let P : ℕ → Type 0 = λ k. HeadFault (tag ++ (k ∷ more)) f in
            subst P (sym (eqb-true b 255 q.0)) (subst (HeadFault (tag ++ (255 ∷ more))) (refused_is {A = LengthRead} BadLength f q.1) (reserved tag more h))
        | inr q ↦ elim (chosen_by (ltb b 128) short long (refused f) q.1) [
          | inl r ↦ absurd (not_refused f (pair (Some b) more) r.1)
          | inr r ↦
              let other : b ≢ 128 = eqb-false b 128 p.0 in
              let high : 128 ≤ b = ltb-false b 128 r.0 in
              let above : 128 < b = omega (arith, other) in
              elim (chosen_by (ltb (length more) (b - 128)) (refused Short) (number_at (take (b - 128) more) >>= spelled) (refused f) r.1) [
                | inl s ↦ subst (HeadFault (tag ++ (b ∷ more))) (refused_is {A = LengthRead} Short f s.1) (in_length tag more b h above (eqb-false b 255 q.0) (ltb-true (length more) (b - 128) s.0))
                | inr s ↦ elim (bind_refused (number_at (take (b - 128) more)) spelled f s.1) [
                  | inl t ↦ elim (chosen_by (ltb 65535 n) (refused BadLength) (read n) (refused f) t) [
                    | inl u ↦
                        let enough : b - 128 ≤ length more = ltb-false (length more) (b - 128) s.0 in
                        let count : length (take (b - 128) more) ≡ b - 128 = omega (arith, length-take (b - 128) more) in
                        let fault = large tag (take (b - 128) more) (drop (b - 128) more) b h above (eqb-false b 255 q.0) count (ltb-true 65535 n u.0) in
                        subst (λ (bs : List ℕ). HeadFault (tag ++ (b ∷ bs)) f) (take-append-drop (b - 128) more) (subst (HeadFault _) (refused_is {A = ℕ} BadLength f u.1) fault)
                    | inr u ↦ absurd (not_refused f n u.1)
                  ]
                  | inr t ↦ absurd (not_refused f (pair (Some t.0) (drop (b - 128) more)) t.2)
                ]
              ]
        ]
      ]
    ]

abbrev head_of : List ℕ → Option ℕ × List ℕ → HeadRead
head_of t l = (t, is_constructor t, l.0, l.1)

pub head_fails : (bytes : List ℕ) (f : BerFault) → head_at bytes ≡ Err f → HeadFault bytes f
unfolding head_at
head_fails bytes f e =
    let after = λ (t : List ℕ × List ℕ). length_at (is_constructor t.0) t.1 >>= (λ l. read (head_of t.0 l)) in
    elim (bind_refused (tag_at bytes) after f e) [
      | inl p ↦ tag_fails bytes f p
      | inr t ↦
          let tag = tag_takes bytes t.0 t.1 in
          elim (bind_refused (length_at (is_constructor t.0.0) t.0.1) (λ l. read (head_of t.0.0 l)) f t.2) [
            | inl q ↦ subst (λ (bs : List ℕ). HeadFault bs f) (sym tag.1) (length_fails t.0.0 t.0.1 f tag.0 q)
            | inr l ↦ absurd (not_refused f (head_of t.0.0 l.0) l.2)
          ]
    ]
