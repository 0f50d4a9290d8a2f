-- What is read is an element, and an element is read, whatever follows it.
use Rattle.std.proofs.Common.{◌≡◌, ℕ, zero, suc, ◌+◌, ◌-◌, ◌<◌, ◌≤◌, true, cond, ltb, eqb, List, [], ◌∷◌, ◌++◌, length, take, drop, Option, Some, None, Ok, Err, Result, refl, sym, ap, subst, ◌∙◌, ◌⊎◌, inl, inr, arith, append_assoc}
use Rattle.std.proofs.lemmas.Bool.{ltb-false, eqb-true, ne_eqb}
use Rattle.std.proofs.lemmas.List.{take-append-drop, take_at, drop_at, length-append, length-take, take_rest}
use Rattle.std.proofs.Math.Seq.{drop-append_seam}
use Rattle.std.specs.List.{AllByRecursion}
use Rattle.ber_core.specs.declared.fault.BerFault.{BerFault}
use Rattle.ber_core.specs.declared.fault.BerFault.TheVariants.{Short, BadTag, TooDeep}
use Rattle.ber_core.specs.Tag.{IsTag, is_constructor}
use Rattle.ber_core.specs.Length.{IsLength}
use Rattle.ber_core.specs.Element.{Parts, IsDefinite, IsIndefinite, IsElement, joined}
use Rattle.ber_core.specs.Results.{◌>>=◌}
use Rattle.ber_core.specs.HeadReading.{head_at}
use Rattle.ber_core.specs.ElementReading.{end_at, end_or, contents_by, after_at, body_by, body_at, inner_at, content_of, parts_of, element_at}
use Rattle.ber_core.proofs.ResultSteps.{read, refused, read_is, not_read, chosen_by, bind_read, guard_read}
use Rattle.ber_core.proofs.HeadGrammar.{HeadRead, SpellsHead, SpellsLength, head_takes, head_again-definite, head_again-indefinite}
use Rattle.ber_core.proofs.Contents.{after_at-is, after_at-body, body_at-definite}

-- ---- an element is read

-- an element's octets go on after its first, which isn't 0
IsElement-tag : (depth : ℕ) (e : Parts) → IsElement depth e → IsTag e.tag
unfolding IsElement
IsElement-tag zero e h = h.is_tag
IsElement-tag (suc depth) e (inl h) = h.is_tag
IsElement-tag (suc depth) e (inr h) = h.is_tag

pub IsElement-begins : (depth : ℕ) (e : Parts) → IsElement depth e → (more : List ℕ) × (e.whole ≡ e.tag ++ more)
unfolding IsElement
IsElement-begins zero e h = (h.octets ++ e.content, h.is_whole)
IsElement-begins (suc depth) e (inl h) = (h.octets ++ e.content, h.is_whole)
IsElement-begins (suc depth) e (inr h) = (128 ∷ (e.content ++ (0 ∷ 0 ∷ [])), h.is_whole)

-- where a tag stands no contents end
end_at-tag : (tag rest : List ℕ) → IsTag tag → end_at (tag ++ rest) ≡ Ok None
unfolding end_at
end_at-tag [] rest h = absurd h
end_at-tag (first ∷ []) [] h = rw (ne_eqb first 0 h.0) refl
end_at-tag (first ∷ []) (b ∷ rest) h = rw (ne_eqb first 0 h.0) refl
end_at-tag (first ∷ second ∷ further) rest h = rw (ne_eqb first 0 h.0) refl

pub end_at-element : (depth : ℕ) (e : Parts) (rest : List ℕ) → IsElement depth e → end_at (e.whole ++ rest) ≡ Ok None
end_at-element depth e rest h =
    let b = IsElement-begins depth e h in
    rw (b.1, append_assoc) (end_at-tag e.tag (b.0 ++ rest) (IsElement-tag depth e h))

definite_again : (depth : ℕ) (e : Parts) (rest : List ℕ) → IsDefinite e → after_at depth (e.whole ++ rest) ≡ Ok rest
definite_again depth e rest h =
    let head = head_again-definite e.tag h.octets (e.content ++ rest) (length e.content) h.is_tag h.is_length in
    let bytes : e.whole ++ rest ≡ e.tag ++ (h.octets ++ (e.content ++ rest)) = rw (h.is_whole, append_assoc) (rw append_assoc refl) in
    rw bytes (after_at-body depth _ (e.tag, is_constructor e.tag, Some (length e.content), e.content ++ rest) head ∙ body_at-definite depth (length e.content) (Some (length e.content)) (e.content ++ rest) refl (omega (arith, length-append e.content rest)) ∙ ap (λ (w : List ℕ). read w) (drop_at e.content rest (length e.content) refl))

contents_again : (next : List ℕ → Result (List ℕ) BerFault) (Inner : Parts → Type 0) → ((e : Parts) (more : List ℕ) → Inner e → (next (e.whole ++ more) ≡ Ok more) × (end_at (e.whole ++ more) ≡ Ok None)) → (es : List Parts) (rest : List ℕ) (fuel : ℕ) → length es < fuel → AllByRecursion Inner es → contents_by next fuel (joined es ++ (0 ∷ 0 ∷ rest)) ≡ Ok rest
unfolding contents_by end_at
contents_again next Inner again es rest zero lt h = absurd (omega arith)
contents_again next Inner again [] rest (suc fuel) lt h = refl
contents_again next Inner again (e ∷ es) rest (suc fuel) lt h =
    let one = again e (joined es ++ (0 ∷ 0 ∷ rest)) h.0 in
    rw append_assoc (rw (one.1, one.0) (contents_again next Inner again es rest fuel (omega arith) h.1))

IsTag-filled : (tag : List ℕ) → IsTag tag → 0 < length tag
IsTag-filled [] h = absurd h
IsTag-filled (first ∷ further) h = omega arith

pub IsElement-longer : (depth : ℕ) (e : Parts) (rest bytes : List ℕ) → IsElement depth e → bytes ≡ e.whole ++ rest → length rest < length bytes
IsElement-longer depth e rest bytes h is =
    let b = IsElement-begins depth e h in
    let filled : 0 < length e.tag = IsTag-filled e.tag (IsElement-tag depth e h) in
    omega (arith, ap length is, length-append e.whole rest, ap length b.1, length-append e.tag b.0)

pub length-joined : (depth : ℕ) (es : List Parts) → AllByRecursion (IsElement depth) es → length es ≤ length (joined es)
length-joined depth [] h = omega arith
length-joined depth (e ∷ es) h =
    let b = IsElement-begins depth e h.0 in
    let filled : 0 < length e.tag = IsTag-filled e.tag (IsElement-tag depth e h.0) in
    let sizes : length e.whole ≡ length e.tag + length b.0 = ap length b.1 ∙ length-append e.tag b.0 in
    omega (arith, length-append e.whole (joined es), length-joined depth es h.1, sizes)

pub after_again : (depth : ℕ) (e : Parts) (rest : List ℕ) → IsElement depth e → after_at depth (e.whole ++ rest) ≡ Ok rest
unfolding IsElement
after_again zero e rest h = definite_again zero e rest h
after_again (suc depth) e rest (inl h) = definite_again (suc depth) e rest h
after_again (suc depth) e rest (inr h) =
    let body = joined h.elements ++ (0 ∷ 0 ∷ rest) in
    let head = head_again-indefinite e.tag body h.is_tag h.constructs in
    let bytes : e.whole ++ rest ≡ e.tag ++ (128 ∷ body) = rw (h.is_whole, h.is_content) (rw append_assoc (rw append_assoc refl)) in
    let few : length h.elements < length body = omega (arith, length-joined depth h.elements h.each, length-append (joined h.elements) (0 ∷ 0 ∷ rest)) in
    rw bytes (after_at-body (suc depth) (e.tag ++ (128 ∷ body)) (e.tag, is_constructor e.tag, None, body) head
    ∙ contents_again (after_at depth) (IsElement depth) (λ f more is. (after_again depth f more is, end_at-element depth f more is)) h.elements rest (length body) few h.each)

-- ---- what is read is an element

end_at-takes : (bytes after : List ℕ) → end_at bytes ≡ Ok (Some after) → bytes ≡ 0 ∷ 0 ∷ after
unfolding end_at
end_at-takes [] after e = absurd cc
end_at-takes (a ∷ []) after e = elim (chosen_by (eqb a 0) (refused Short) (read None) (read (Some after)) e) [ inl p ↦ absurd (not_read Short (Some after) p.1) | inr p ↦ let q = p.1 in absurd cc ]
end_at-takes (a ∷ b ∷ rest) after e =
    elim (chosen_by (eqb a 0) (cond (eqb b 0) (read (Some rest)) (refused BadTag)) (read None) (read (Some after)) e) [
      | inl p ↦ elim (chosen_by (eqb b 0) (read (Some rest)) (refused BadTag) (read (Some after)) p.1) [
        | inl q ↦
            let a-is = eqb-true a 0 p.0 in
            let b-is = eqb-true b 0 q.0 in
            let rest-is : rest ≡ after = let e = q.1 in cc in
            rw (a-is, b-is, rest-is) refl
        | inr q ↦ absurd (not_read BadTag (Some after) q.1)
      ]
      | inr p ↦ let q = p.1 in absurd cc
    ]

abbrev pub Found : (Parts → Type 0) → List ℕ → List ℕ → Type 0
Found Inner bytes rest = (e : Parts) × Inner e × (bytes ≡ e.whole ++ rest)

abbrev pub AllFound : (Parts → Type 0) → List ℕ → List ℕ → Type 0
AllFound Inner bytes rest = (es : List Parts) × AllByRecursion Inner es × (bytes ≡ joined es ++ (0 ∷ 0 ∷ rest))

pub then_more : (bytes w more js rest : List ℕ) → bytes ≡ w ++ more → more ≡ js ++ rest → bytes ≡ (w ++ js) ++ rest
then_more bytes w more js rest p q = p ∙ (ap (λ (t : List ℕ). w ++ t) q ∙ sym (append_assoc w js rest))

module _ (next : List ℕ → Result (List ℕ) BerFault) (Inner : Parts → Type 0) (takes : (bytes rest : List ℕ) → next bytes ≡ Ok rest → Found Inner bytes rest) where
  pub contents_takes : (fuel : ℕ) (bytes rest : List ℕ) → contents_by next fuel bytes ≡ Ok rest → AllFound Inner bytes rest
  unfolding contents_by
  contents_takes zero bytes rest e = absurd (not_read Short rest e)
  contents_takes (suc fuel) bytes rest e =
      let o = bind_read (end_at bytes) (end_or (next bytes >>= contents_by next fuel)) rest e in
      let none : end_at bytes ≡ Ok None → (next bytes >>= contents_by next fuel) ≡ Ok rest → AllFound Inner bytes rest = λ is more.
      let n = bind_read (next bytes) (contents_by next fuel) rest more in
      let first = takes bytes n.0 n.1 in
      let others = contents_takes fuel n.0 rest n.2 in
      (first.0 ∷ others.0, (first.1, others.1), then_more bytes first.0.whole n.0 (joined others.0) (0 ∷ 0 ∷ rest) first.2 others.2) in
      let some : (after : List ℕ) → end_at bytes ≡ Ok (Some after) → read after ≡ Ok rest → AllFound Inner bytes rest = λ after is more.
      ([], tt, end_at-takes bytes after is ∙ ap (λ (w : List ℕ). 0 ∷ 0 ∷ w) (read_is after rest more)) in
      elim o.0 as (λ v. end_at bytes ≡ Ok v → end_or (next bytes >>= contents_by next fuel) v ≡ Ok rest → AllFound Inner bytes rest) [ None ↦ none | Some after ↦ some after ] o.1 o.2

-- an element with this tag and content
made : List ℕ → List ℕ → List ℕ → Parts
made tag content whole = record { tag = tag; content = content; whole = whole }

cut_definite : (t o body rest : List ℕ) (n : ℕ) → drop n body ≡ rest → t ++ (o ++ body) ≡ (t ++ (o ++ take n body)) ++ rest
cut_definite t o body rest n e = rw (append_assoc, append_assoc) (rw (← e) (rw take-append-drop refl))

definite_takes : (bytes : List ℕ) (h : HeadRead) (n : ℕ) (rest : List ℕ) → SpellsHead bytes h → h.2 ≡ Some n → n ≤ length h.3 → drop n h.3 ≡ rest → Found IsDefinite bytes rest
unfolding made
definite_takes bytes h n rest s is enough rest-is =
    let content = take n h.3 in
    let count : length content ≡ n = omega (arith, length-take n h.3) in
    let spells : IsLength s.octets n = let P : Option ℕ → Type 0 = λ o. SpellsLength h.1 o s.octets in subst P is s.spells in
    let whole = h.0 ++ (s.octets ++ content) in (
      made h.0 content whole,
      record {
        octets = s.octets;
        is_tag = s.is_tag;
        is_length = let P : ℕ → Type 0 = λ m. IsLength s.octets m in subst P (sym count) spells;
        is_whole = refl;
      },
      s.parts ∙ cut_definite h.0 s.octets h.3 rest n rest-is,
    )

cut_indefinite : (t o body content rest : List ℕ) → o ≡ 128 ∷ [] → body ≡ content ++ (0 ∷ 0 ∷ rest) → t ++ (o ++ body) ≡ (t ++ (128 ∷ (content ++ (0 ∷ 0 ∷ [])))) ++ rest
cut_indefinite t o body content rest p q = rw (p, q, append_assoc) (rw append_assoc refl)

indefinite_takes : (Inner : Parts → Type 0) (bytes : List ℕ) (h : HeadRead) (rest : List ℕ) → SpellsHead bytes h → h.2 ≡ None → AllFound Inner h.3 rest → Found (IsIndefinite Inner) bytes rest
unfolding made
indefinite_takes Inner bytes h rest s is inner =
    let spells : (h.1 ≡ true) × (s.octets ≡ 128 ∷ []) = let P : Option ℕ → Type 0 = λ o. SpellsLength h.1 o s.octets in subst P is s.spells in
    let content = joined inner.0 in (
      made h.0 content (h.0 ++ (128 ∷ (content ++ (0 ∷ 0 ∷ [])))),
      record {
        elements = inner.0;
        is_tag = s.is_tag;
        constructs = sym s.constructs ∙ spells.0;
        each = inner.1;
        is_content = refl;
        is_whole = refl;
      },
      s.parts ∙ cut_indefinite h.0 s.octets h.3 content rest spells.1 inner.2,
    )

abbrev skip : ℕ → List ℕ → Result (List ℕ) BerFault
skip n body = cond (ltb (length body) n) (Err Short) (Ok (drop n body))

-- what follows the head
body_takes : (depth : ℕ) (bytes : List ℕ) (h : HeadRead) (rest : List ℕ) → SpellsHead bytes h → body_by (inner_at depth) h.2 h.3 ≡ Ok rest → ((n : ℕ) → h.2 ≡ Some n → Found IsDefinite bytes rest) × (h.2 ≡ None → inner_at depth h.3 ≡ Ok rest)
body_takes depth bytes h rest s e = (
  λ n is.
      let went : skip n h.3 ≡ Ok rest = (let P : Option ℕ → Type 0 = λ o. body_by (inner_at depth) o h.3 ≡ Ok rest in subst P is e) in
      let g = guard_read (ltb (length h.3) n) Short (read (drop n h.3)) rest went in
      definite_takes bytes h n rest s is (ltb-false (length h.3) n g.0) (read_is (drop n h.3) rest g.1),
  λ is. let P : Option ℕ → Type 0 = λ o. body_by (inner_at depth) o h.3 ≡ Ok rest in subst P is e,
)

pub by_length : (o : Option ℕ) → ((n : ℕ) × (o ≡ Some n)) ⊎ (o ≡ None)
by_length None = inr refl
by_length (Some n) = inl (n, refl)

abbrev Either : HeadRead → ℕ → List ℕ → List ℕ → Type 0
Either h depth bytes rest = ((n : ℕ) → h.2 ≡ Some n → Found IsDefinite bytes rest) × (h.2 ≡ None → inner_at depth h.3 ≡ Ok rest)

head_first : (depth : ℕ) (bytes rest : List ℕ) → after_at depth bytes ≡ Ok rest → (h : HeadRead) × SpellsHead bytes h × Either h depth bytes rest
head_first depth bytes rest e =
    let b = bind_read (head_at bytes) (λ h. body_by (inner_at depth) h.2 h.3) rest (sym (after_at-is depth bytes) ∙ e) in
    let s = head_takes bytes b.0 b.1 in
    (b.0, s, body_takes depth bytes b.0 rest s b.2)

pub after_takes : (depth : ℕ) (bytes rest : List ℕ) → after_at depth bytes ≡ Ok rest → Found (IsElement depth) bytes rest
unfolding IsElement
after_takes zero bytes rest e =
    let r = head_first zero bytes rest e in
    elim (by_length r.0.2) [
      | inl p ↦ r.2.0 p.0 p.1
      | inr none ↦ absurd (not_read TooDeep rest (r.2.1 none))
    ]
after_takes (suc depth) bytes rest e =
    let r = head_first (suc depth) bytes rest e in
    elim (by_length r.0.2) [
      | inl p ↦ let f = r.2.0 p.0 p.1 in (f.0, inl f.1, f.2)
      | inr none ↦
          let f = indefinite_takes (IsElement depth) bytes r.0 rest r.1 none
          (contents_takes (after_at depth) (IsElement depth) (after_takes depth) (length r.0.3) r.0.3 rest (r.2.1 none)) in
          (f.0, inr f.1, f.2)
    ]

-- ---- one reading

abbrev read_parts : Parts → List ℕ → Result (Parts × List ℕ) BerFault
read_parts e rest = Ok (e, rest)

after_of : (depth : ℕ) (bytes : List ℕ) (p : Parts × List ℕ) → element_at depth bytes ≡ Ok p → (rest : List ℕ) × (after_at depth bytes ≡ Ok rest)
unfolding element_at
after_of depth bytes p e =
    let h = bind_read (head_at bytes) (λ h. after_at depth bytes >>= (λ rest. read_parts (parts_of bytes h rest) rest)) p e in
    let r = bind_read (after_at depth bytes) (λ rest. read_parts (parts_of bytes h.0 rest) rest) p h.2 in
    (r.0, r.1)

whole_of : (e : Parts) (rest : List ℕ) → take (length (e.whole ++ rest) - length rest) (e.whole ++ rest) ≡ e.whole
whole_of e rest = let n : length e.whole ≡ length (e.whole ++ rest) - length rest = omega (arith, length-append e.whole rest) in take_at e.whole rest _ n

same_parts : (e f : Parts) → e.tag ≡ f.tag → e.content ≡ f.content → e.whole ≡ f.whole → e ≡ f
unfolding made
same_parts e f p q r = ap (λ (t : List ℕ). made t e.content e.whole) p ∙ ap (λ (t : List ℕ). made f.tag t e.whole) q ∙ ap (λ (t : List ℕ). made f.tag f.content t) r

definite_parts : (depth : ℕ) (e : Parts) (rest : List ℕ) → IsDefinite e → element_at depth (e.whole ++ rest) ≡ Ok (e, rest)
unfolding element_at
definite_parts depth e rest h =
    let bytes : e.whole ++ rest ≡ e.tag ++ (h.octets ++ (e.content ++ rest)) = rw (h.is_whole, append_assoc) (rw append_assoc refl) in
    let head : head_at (e.whole ++ rest) ≡ Ok (e.tag, is_constructor e.tag, Some (length e.content), e.content ++ rest) = rw bytes (head_again-definite e.tag h.octets (e.content ++ rest) (length e.content) h.is_tag h.is_length) in
    let content : take (length e.content) (e.content ++ rest) ≡ e.content = take_at e.content rest (length e.content) refl in
    rw (head, definite_again depth e rest h) (ap (λ (f : Parts). read_parts f rest) (same_parts (parts_of (e.whole ++ rest) (e.tag, is_constructor e.tag, Some (length e.content), e.content ++ rest) rest) e refl content (whole_of e rest)))

pub element_again : (depth : ℕ) (e : Parts) (rest : List ℕ) → IsElement depth e → element_at depth (e.whole ++ rest) ≡ Ok (e, rest)
unfolding element_at IsElement
element_again zero e rest h = definite_parts zero e rest h
element_again (suc depth) e rest (inl h) = definite_parts (suc depth) e rest h
element_again (suc depth) e rest (inr h) =
    let body = e.content ++ (0 ∷ 0 ∷ rest) in
    let bytes : e.whole ++ rest ≡ e.tag ++ (128 ∷ body) = rw (h.is_whole, append_assoc) (rw append_assoc refl) in
    let head : head_at (e.whole ++ rest) ≡ Ok (e.tag, is_constructor e.tag, None, body) = rw bytes (head_again-indefinite e.tag body h.is_tag h.constructs) in
    let n : length e.content ≡ length body - (length rest + 2) = omega (arith, length-append e.content (0 ∷ 0 ∷ rest)) in
    let content : take (length body - (length rest + 2)) body ≡ e.content = take_at e.content (0 ∷ 0 ∷ rest) _ n in
    rw (head, after_again (suc depth) e rest (inr h)) (ap (λ (f : Parts). read_parts f rest) (same_parts (parts_of (e.whole ++ rest) (e.tag, is_constructor e.tag, None, body) rest) e refl content (whole_of e rest)))

pub element_takes : (depth : ℕ) (bytes : List ℕ) (p : Parts × List ℕ) → element_at depth bytes ≡ Ok p → IsElement depth p.0 × (bytes ≡ p.0.whole ++ p.1)
element_takes depth bytes p e =
    let rest = after_of depth bytes p e in
    let f = after_takes depth bytes rest.0 rest.1 in
    let again : element_at depth bytes ≡ Ok (f.0, rest.0) = ap (element_at depth) f.2 ∙ element_again depth f.0 rest.0 f.1 in
    let same : read (f.0, rest.0) ≡ read p = sym again ∙ e in
    subst (λ (q : Parts × List ℕ). IsElement depth q.0 × (bytes ≡ q.0.whole ++ q.1)) (read_is (f.0, rest.0) p same) (f.1, f.2)

-- ---- the steps of reading one

pub element_at-head_failed : (depth : ℕ) (bytes : List ℕ) (f : BerFault) → head_at bytes ≡ Err f → element_at depth bytes ≡ Err f
unfolding element_at
element_at-head_failed depth bytes f e = rw e refl

pub element_at-body_failed : (depth : ℕ) (bytes : List ℕ) (h : HeadRead) (f : BerFault) → head_at bytes ≡ Ok h → body_at depth h.2 h.3 ≡ Err f → element_at depth bytes ≡ Err f
unfolding element_at
element_at-body_failed depth bytes h f e b = rw (e, after_at-body depth bytes h e, b) refl

rest_of : (bytes whole rest : List ℕ) → bytes ≡ whole ++ rest → drop (length bytes - length rest) bytes ≡ rest
rest_of bytes whole rest e =
    let n : length (whole ++ rest) - length rest ≡ length whole = omega (arith, length-append whole rest) in
    rw e (rw n (drop-append_seam whole rest))

-- what follows an element ends the bytes
pub after_at-rest : (depth : ℕ) (bytes rest : List ℕ) → after_at depth bytes ≡ Ok rest → drop (length bytes - length rest) bytes ≡ rest
after_at-rest depth bytes rest e = let t = after_takes depth bytes rest e in rest_of bytes t.0.whole rest t.2

pub element_at-read : (depth : ℕ) (bytes : List ℕ) (h : HeadRead) (rest content whole after : List ℕ) → head_at bytes ≡ Ok h → body_at depth h.2 h.3 ≡ Ok rest → content ≡ content_of h.2 h.3 rest → whole ≡ take (length bytes - length rest) bytes → after ≡ take (length bytes - (length bytes - length rest)) (drop (length bytes - length rest) bytes) → element_at depth bytes ≡ Ok (record { tag = h.0; content = content; whole = whole }, after)
unfolding element_at
element_at-read depth bytes h rest content whole after e b p q r =
    let same : after ≡ rest = r ∙ take_rest bytes (length bytes - length rest) ∙ after_at-rest depth bytes rest (after_at-body depth bytes h e ∙ b) in
    rw (e, after_at-body depth bytes h e, b, p, q, same) refl
