-- An element that is not read has the fault that is told.
use Rattle.std.proofs.Common.{◌≡◌, ◌≢◌, ℕ, zero, suc, ◌<◌, ◌≤◌, true, cond, ltb, eqb, List, [], ◌∷◌, ◌++◌, length, drop, Option, Some, None, Ok, Err, Result, refl, sym, ap, subst, ◌∙◌, ◌⊎◌, inl, inr, arith}
use Rattle.std.specs.List.{AllByRecursion}
use Rattle.std.proofs.lemmas.Bool.{ltb-true, eqb-true, eqb-false}
use Rattle.ber_core.specs.declared.fault.BerFault.{BerFault}
use Rattle.ber_core.specs.declared.fault.BerFault.TheVariants.{Short, BadTag, TooDeep}
use Rattle.ber_core.specs.Tag.{IsTag, is_constructor}
use Rattle.ber_core.specs.Length.{IsLength}
use Rattle.ber_core.specs.Element.{Parts, IsElement, joined}
use Rattle.ber_core.specs.Fault.{ElementFault}
use Rattle.ber_core.specs.Fault.ElementFault.{in_head, in_content, too_deep, ends, ends_in_end, half_end, inside}
use Rattle.ber_core.specs.Results.{◌>>=◌}
use Rattle.ber_core.specs.HeadReading.{head_at}
use Rattle.ber_core.specs.ElementReading.{end_at, end_or, contents_by, after_at, body_at}
use Rattle.ber_core.proofs.ResultSteps.{read, refused, read_is, not_read, chosen_by, refused_is, not_refused, bind_refused}
use Rattle.ber_core.proofs.HeadGrammar.{HeadRead, SpellsHead, SpellsLength, head_takes}
use Rattle.ber_core.proofs.HeadFaults.{head_fails}
use Rattle.ber_core.proofs.ElementGrammar.{after_takes, by_length, then_more, IsElement-longer}
use Rattle.ber_core.proofs.Contents.{after_at-is}

-- a fault after some whole elements
abbrev pub TailFault : (List ℕ → Result (List ℕ) BerFault) → List ℕ → BerFault → Type 0
TailFault next [] f = f ≡ Short
TailFault next (a ∷ rest) f =
    ((a ≡ 0) × (rest ≡ []) × (f ≡ Short))
    ⊎ (((a ≡ 0) × (b : ℕ) × (b ≢ 0) × (more : List ℕ) × (rest ≡ b ∷ more) × (f ≡ BadTag))
    ⊎ ((a ≢ 0) × (next (a ∷ rest) ≡ Err f)))

abbrev pub AllThen : (Parts → Type 0) → (List ℕ → Result (List ℕ) BerFault) → List ℕ → BerFault → Type 0
AllThen Inner next bytes f = (es : List Parts) × AllByRecursion Inner es × (tail : List ℕ) × (bytes ≡ joined es ++ tail) × TailFault next tail f

end_at-fails : (next : List ℕ → Result (List ℕ) BerFault) (bytes : List ℕ) (f : BerFault) → end_at bytes ≡ Err f → TailFault next bytes f
unfolding end_at
end_at-fails next [] f e = sym (refused_is {A = Option (List ℕ)} Short f e)
end_at-fails next (a ∷ []) f e =
    elim (chosen_by (eqb a 0) (refused Short) (read None) (refused f) e) [
      | inl p ↦ inl (eqb-true a 0 p.0, refl, sym (refused_is {A = Option (List ℕ)} Short f p.1))
      | inr p ↦ absurd (not_refused {A = Option (List ℕ)} f None p.1)
    ]
end_at-fails next (a ∷ b ∷ rest) f e =
    elim (chosen_by (eqb a 0) (cond (eqb b 0) (read (Some rest)) (refused BadTag)) (read None) (refused f) e) [
      | inl p ↦ elim (chosen_by (eqb b 0) (read (Some rest)) (refused BadTag) (refused f) p.1) [
        | inl q ↦ absurd (not_refused f (Some rest) q.1)
        | inr q ↦ inr (inl (eqb-true a 0 p.0, b, eqb-false b 0 q.0, rest, refl, sym (refused_is {A = Option (List ℕ)} BadTag f q.1)))
      ]
      | inr p ↦ absurd (not_refused {A = Option (List ℕ)} f None p.1)
    ]

-- where no contents end, an octet other than 0 stands
end_at-goes_on : (bytes : List ℕ) → end_at bytes ≡ Ok None → (a : ℕ) × (rest : List ℕ) × (bytes ≡ a ∷ rest) × (a ≢ 0)
unfolding end_at
end_at-goes_on [] e = absurd (not_read {A = Option (List ℕ)} Short None e)
end_at-goes_on (a ∷ []) e =
    elim (chosen_by (eqb a 0) (refused Short) (read None) (read None) e) [
      | inl p ↦ absurd (not_read {A = Option (List ℕ)} Short None p.1)
      | inr p ↦ (a, [], refl, eqb-false a 0 p.0)
    ]
end_at-goes_on (a ∷ b ∷ rest) e =
    elim (chosen_by (eqb a 0) (cond (eqb b 0) (read (Some rest)) (refused BadTag)) (read None) (read None) e) [
      | inl p ↦ elim (chosen_by (eqb b 0) (read (Some rest)) (refused BadTag) (read None) p.1) [
        | inl q ↦ let same : Some rest ≡ None = read_is (Some rest) None q.1 in absurd cc
        | inr q ↦ absurd (not_read {A = Option (List ℕ)} BadTag None q.1)
      ]
      | inr p ↦ (a, b ∷ rest, refl, eqb-false a 0 p.0)
    ]

next-tail : (next : List ℕ → Result (List ℕ) BerFault) (bytes : List ℕ) (f : BerFault) (a : ℕ) (rest : List ℕ) → bytes ≡ a ∷ rest → a ≢ 0 → next bytes ≡ Err f → TailFault next bytes f
next-tail next bytes f a rest is other e = subst (λ (bs : List ℕ). TailFault next bs f) (sym is) (inr (inr (other, sym (ap next is) ∙ e)))

module _ (depth : ℕ) where
  pub contents_fails : (fuel : ℕ) (bytes : List ℕ) (f : BerFault) → length bytes ≤ fuel → contents_by (after_at depth) fuel bytes ≡ Err f → AllThen (IsElement depth) (after_at depth) bytes f
  unfolding contents_by
  contents_fails zero [] f le e = ([], tt, [], refl, sym (refused_is {A = List ℕ} Short f e))
  contents_fails zero (a ∷ bytes) f le e = absurd (omega arith)
  contents_fails (suc fuel) bytes f le e =
      let next = after_at depth in
      elim (bind_refused (end_at bytes) (end_or (next bytes >>= contents_by next fuel)) f e) [
        | inl p ↦ ([], tt, bytes, refl, end_at-fails next bytes f p)
        | inr o ↦
            let none : end_at bytes ≡ Ok None → (next bytes >>= contents_by next fuel) ≡ Err f → AllThen (IsElement depth) next bytes f = λ is more.
            let on = end_at-goes_on bytes is in
            elim (bind_refused (next bytes) (contents_by next fuel) f more) [
              | inl p ↦ ([], tt, bytes, refl, next-tail next bytes f on.0 on.1 on.2 on.3 p)
              | inr n ↦
                  let first = after_takes depth bytes n.0 n.1 in
                  let longer : length n.0 < length bytes = IsElement-longer depth first.0 n.0 bytes first.1 first.2 in
                  let others = contents_fails fuel n.0 f (omega arith) n.2 in
                  (first.0 ∷ others.0, (first.1, others.1), others.2, then_more bytes first.0.whole n.0 (joined others.0) others.2 first.2 others.3, others.4)
            ] in
            let some : (after : List ℕ) → end_at bytes ≡ Ok (Some after) → read after ≡ Err f → AllThen (IsElement depth) next bytes f = λ after is more. absurd (not_refused f after more) in
            elim o.0 as (λ v. end_at bytes ≡ Ok v → end_or (next bytes >>= contents_by next fuel) v ≡ Err f → AllThen (IsElement depth) next bytes f) [ None ↦ none | Some after ↦ some after ] o.1 o.2
      ]

append_none : (xs : List ℕ) → xs ++ [] ≡ xs
append_none [] = refl
append_none (x ∷ xs) = ap (λ (w : List ℕ). x ∷ w) (append_none xs)

-- a fault behind the head of an indefinite element
tail-fault : (depth : ℕ) (tag : List ℕ) (es : List Parts) (tail : List ℕ) (f : BerFault) → IsTag tag → is_constructor tag ≡ true → AllByRecursion (IsElement depth) es → ((bytes : List ℕ) (g : BerFault) → after_at depth bytes ≡ Err g → ElementFault depth bytes g) → TailFault (after_at depth) tail f → ElementFault (suc depth) (tag ++ (128 ∷ (joined es ++ tail))) f
tail-fault depth tag es [] f t c all next h =
    rw h (subst (λ (w : List ℕ). ElementFault (suc depth) (tag ++ (128 ∷ w)) Short) (sym (append_none (joined es))) (ends depth tag es t c all))
tail-fault depth tag es (a ∷ rest) f t c all next (inl h) = rw (h.0, h.1, h.2) (ends_in_end depth tag es t c all)
tail-fault depth tag es (a ∷ rest) f t c all next (inr (inl h)) = rw (h.0, h.4, h.5) (half_end depth h.1 tag h.3 es t c all h.2)
tail-fault depth tag es (a ∷ rest) f t c all next (inr (inr h)) = inside depth a tag rest es f t c all h.0 (next (a ∷ rest) f h.1)

-- what follows a head fails
short-fault : (depth n : ℕ) (bytes : List ℕ) (h : HeadRead) (f : BerFault) → SpellsHead bytes h → h.2 ≡ Some n → body_at depth h.2 h.3 ≡ Err f → ElementFault depth bytes f
short-fault depth n bytes h f s is e =
    let spells : IsLength s.octets n = let P : Option ℕ → Type 0 = λ o. SpellsLength h.1 o s.octets in subst P is s.spells in
    let went : body_at depth (Some n) h.3 ≡ Err f = let P : Option ℕ → Type 0 = λ o. body_at depth o h.3 ≡ Err f in subst P is e in
    elim (chosen_by (ltb (length h.3) n) (refused Short) (read (drop n h.3)) (refused f) went) [
      | inl p ↦ rw s.parts (subst (ElementFault depth _) (refused_is {A = List ℕ} Short f p.1) (in_content depth n h.0 s.octets h.3 s.is_tag spells (ltb-true (length h.3) n p.0)))
      | inr p ↦ absurd (not_refused f (drop n h.3) p.1)
    ]

-- the head of an indefinite element
opened : (bytes : List ℕ) (h : HeadRead) → SpellsHead bytes h → h.2 ≡ None → (is_constructor h.0 ≡ true) × (bytes ≡ h.0 ++ (128 ∷ h.3))
opened bytes h s is =
    let spells : (h.1 ≡ true) × (s.octets ≡ 128 ∷ []) = let P : Option ℕ → Type 0 = λ o. SpellsLength h.1 o s.octets in subst P is s.spells in
    (sym s.constructs ∙ spells.0, s.parts ∙ ap (λ (o : List ℕ). h.0 ++ (o ++ h.3)) spells.1)

pub after_fails : (depth : ℕ) (bytes : List ℕ) (f : BerFault) → after_at depth bytes ≡ Err f → ElementFault depth bytes f
after_fails zero bytes f e =
    elim (bind_refused (head_at bytes) (λ h. body_at zero h.2 h.3) f (sym (after_at-is zero bytes) ∙ e)) [
      | inl p ↦ in_head zero bytes f (head_fails bytes f p)
      | inr h ↦
          let s = head_takes bytes h.0 h.1 in
          elim (by_length h.0.2) [
            | inl n ↦ short-fault zero n.0 bytes h.0 f s n.1 h.2
            | inr none ↦
                let o = opened bytes h.0 s none in
                let went : body_at zero None h.0.3 ≡ Err f = let P : Option ℕ → Type 0 = λ o. body_at zero o h.0.3 ≡ Err f in subst P none h.2 in
                rw o.1 (subst (ElementFault zero _) (refused_is {A = List ℕ} TooDeep f went) (too_deep h.0.0 h.0.3 s.is_tag o.0))
          ]
    ]
after_fails (suc depth) bytes f e =
    elim (bind_refused (head_at bytes) (λ h. body_at (suc depth) h.2 h.3) f (sym (after_at-is (suc depth) bytes) ∙ e)) [
      | inl p ↦ in_head (suc depth) bytes f (head_fails bytes f p)
      | inr h ↦
          let s = head_takes bytes h.0 h.1 in
          elim (by_length h.0.2) [
            | inl n ↦ short-fault (suc depth) n.0 bytes h.0 f s n.1 h.2
            | inr none ↦
                let o = opened bytes h.0 s none in
                let went : body_at (suc depth) None h.0.3 ≡ Err f = let P : Option ℕ → Type 0 = λ o. body_at (suc depth) o h.0.3 ≡ Err f in subst P none h.2 in
                let c = contents_fails depth (length h.0.3) h.0.3 f (omega arith) went in
                let is : bytes ≡ h.0.0 ++ (128 ∷ (joined c.0 ++ c.2)) = o.1 ∙ ap (λ (w : List ℕ). h.0.0 ++ (128 ∷ w)) c.3 in
                subst (λ (bs : List ℕ). ElementFault (suc depth) bs f) (sym is) (tail-fault depth h.0.0 c.0 c.2 f s.is_tag o.0 c.1 (after_fails depth) c.4)
          ]
    ]
