-- Steps of reading a sequence, against the parts in order.
use Rattle.std.proofs.Common.{◌≡◌, ◌≢◌, ℕ, ◌<◌, true, false, eqb, List, [], ◌∷◌, ◌++◌, length, get_or, Option, Some, None, Ok, Err, Result, unwrap_or, refl, sym, ap, subst, ◌∙◌, ◌⊎◌, inl, inr, arith, eq-eqb, eqb-true}
use Rattle.std.proofs.lemmas.Bool.{cases_Bool}
use Rattle.ber_core.specs.declared.fault.BerFault.{BerFault}
use Rattle.ber_core.specs.Element.{Parts, IsElement, joined}
use Rattle.ber_core.specs.ElementList.{IsList}
use Rattle.ber_core.specs.ElementReading.{element_at}
use Rattle.ber_core.specs.HeadReading.{head_at, tag_at}
use Rattle.ber_core.proofs.ElementGrammar.{element_takes, element_again, IsElement-begins, IsElement-longer}
use Rattle.ber_core.specs.Sequence.{Field, InOrder, SpellsSequence}
use Rattle.ber_core.specs.Sequence.Field.{must, may, filled, any}
use Rattle.ber_core.specs.SequenceReading.{is_tag, tagged, must_be, content_at, first_whole}

pub is_tag-one : (tag : ℕ) (t : List ℕ) → t ≡ tag ∷ [] → is_tag tag t ≡ true
is_tag-one tag t e = rw e (eq-eqb tag tag refl)

pub is_tag-is : (tag : ℕ) (t : List ℕ) → is_tag tag t ≡ true → t ≡ tag ∷ []
is_tag-is tag [] e = absurd cc
is_tag-is tag (n ∷ []) e = ap (λ (m : ℕ). m ∷ []) (eqb-true n tag e)
is_tag-is tag (n ∷ m ∷ more) e = absurd cc

is_tag-other : (n tag : ℕ) (t : List ℕ) → eqb n tag ≡ false → t ≡ n ∷ [] → is_tag tag t ≡ false
is_tag-other n tag t e is = rw is e

by_result : (r : Result (Parts × List ℕ) BerFault) → ((f : BerFault) × (r ≡ Err f)) ⊎ ((p : Parts × List ℕ) × (r ≡ Ok p))
by_result (Err f) = inl (f, refl)
by_result (Ok p) = inr (p, refl)

abbrev some : {A : Type 0} → A → Option A
some x = Some x

-- ---- what is read stands there: from what follows a part to the whole

pub left_out : (tag : ℕ) (fs : List Field) (es : List Parts) → InOrder fs es → InOrder (may tag None ∷ fs) es
unfolding InOrder
left_out tag fs [] h = (refl, h)
left_out tag fs (e ∷ es) h = inr (refl, h)

pub stands : (tag : ℕ) (fs : List Field) (e : Parts) (es : List Parts) → e.tag ≡ tag ∷ [] → InOrder fs es → InOrder (may tag (Some e.content) ∷ fs) (e ∷ es)
unfolding InOrder
stands tag fs e es t h = inl ((t, refl), h)

pub left_out-before : (tag : ℕ) (fs : List Field) (bytes : List ℕ) → SpellsSequence fs bytes → SpellsSequence (may tag None ∷ fs) bytes
left_out-before tag fs bytes s = record { elements = s.elements; is_list = s.is_list; in_order = left_out tag fs s.elements s.in_order }

pub list_from : (e : Parts) (bytes rest : List ℕ) (es : List Parts) → IsElement 32 e → bytes ≡ e.whole ++ rest → IsList es rest → IsList (e ∷ es) bytes
list_from e bytes rest es i is h = record { each = (i, h.each); is_joined = is ∙ ap (λ (w : List ℕ). e.whole ++ w) h.is_joined }

pub may_takes : (tag : ℕ) (fs : List Field) (bytes : List ℕ) → SpellsSequence fs (tagged tag bytes).1 → SpellsSequence (may tag (tagged tag bytes).0 ∷ fs) bytes
unfolding tagged
may_takes tag fs bytes s = elim (by_result (element_at 32 bytes)) [
  | inl f ↦ let s = s in rw f.1 (left_out-before tag fs bytes (rw f.1 at s))
  | inr p ↦
      let t = element_takes 32 bytes p.0 p.1 in
      elim (cases_Bool (is_tag tag p.0.0.tag)) [
        | inl y ↦
            let s = s in
            let r : SpellsSequence fs p.0.1 = rw (p.1, y) at s in
            rw (p.1, y) (record {
              elements = p.0.0 ∷ r.elements;
              is_list = list_from p.0.0 bytes p.0.1 r.elements t.0 t.1 r.is_list;
              in_order = stands tag fs p.0.0 r.elements (is_tag-is tag p.0.0.tag y) r.in_order;
            })
        | inr n ↦ let s = s in rw (p.1, n) (left_out-before tag fs bytes (rw (p.1, n) at s))
      ]
]

must_of-may : (tag : ℕ) (c : List ℕ) (fs : List Field) (es : List Parts) → InOrder (may tag (Some c) ∷ fs) es → InOrder (must tag c ∷ fs) es
unfolding InOrder
must_of-may tag c fs [] h = let e = h.0 in absurd cc
must_of-may tag c fs (e ∷ es) (inl h) = inl h
must_of-may tag c fs (e ∷ es) (inr h) = let e = h.0 in absurd cc

filled_of-may : (tag : ℕ) (o : Option (List ℕ)) (fs : List Field) (es : List Parts) → InOrder (may tag o ∷ fs) es → InOrder (filled tag (unwrap_or o []) ∷ fs) es
unfolding InOrder
filled_of-may tag None fs [] h = (refl, h.1)
filled_of-may tag None fs (e ∷ es) (inl h) = absurd h.0
filled_of-may tag None fs (e ∷ es) (inr h) = inr (refl, h.1)
filled_of-may tag (Some c) fs [] h = let e = h.0 in absurd cc
filled_of-may tag (Some c) fs (e ∷ es) (inl h) = inl h
filled_of-may tag (Some c) fs (e ∷ es) (inr h) = let e = h.0 in absurd cc

pub filled_takes : (tag : ℕ) (fs : List Field) (bytes : List ℕ) → SpellsSequence fs (tagged tag bytes).1 → SpellsSequence (filled tag (unwrap_or (tagged tag bytes).0 []) ∷ fs) bytes
filled_takes tag fs bytes s =
    let t = may_takes tag fs bytes s in
    record { elements = t.elements; is_list = t.is_list; in_order = filled_of-may tag (tagged tag bytes).0 fs t.elements t.in_order }

must_be-is : (o : Option (List ℕ)) (rest : List ℕ) (c : List ℕ × List ℕ) → must_be o rest ≡ Some c → (o ≡ Some c.0) × (rest ≡ c.1)
must_be-is None rest c e = absurd cc
must_be-is (Some x) rest c e = let same : (x, rest) ≡ c = cc in (ap (λ (p : List ℕ × List ℕ). some p.0) same, ap (λ (p : List ℕ × List ℕ). p.1) same)

pub content_at-is : (tag : ℕ) (bytes : List ℕ) (c : List ℕ × List ℕ) → content_at tag bytes ≡ Some c → ((tagged tag bytes).0 ≡ Some c.0) × ((tagged tag bytes).1 ≡ c.1)
content_at-is tag bytes c e = must_be-is (tagged tag bytes).0 (tagged tag bytes).1 c e

pub must_takes : (tag : ℕ) (fs : List Field) (bytes : List ℕ) (c : List ℕ × List ℕ) → content_at tag bytes ≡ Some c → SpellsSequence fs c.1 → SpellsSequence (must tag c.0 ∷ fs) bytes
must_takes tag fs bytes c e s =
    let m = content_at-is tag bytes c e in
    let t = may_takes tag fs bytes (subst (SpellsSequence fs) (sym m.1) s) in
    record { elements = t.elements; is_list = t.is_list; in_order = must_of-may tag c.0 fs t.elements (subst (λ o. InOrder (may tag o ∷ fs) t.elements) m.0 t.in_order) }

any_none : (fs : List Field) (es : List Parts) → InOrder fs es → InOrder (any None ∷ fs) es
unfolding InOrder
any_none fs [] h = (refl, h)
any_none fs (e ∷ es) h = inr (refl, h)

any_some : (fs : List Field) (e : Parts) (es : List Parts) → InOrder fs es → InOrder (any (Some e.whole) ∷ fs) (e ∷ es)
unfolding InOrder
any_some fs e es h = inl (refl, h)

pub any_takes : (fs : List Field) (bytes : List ℕ) → SpellsSequence fs (first_whole bytes).1 → SpellsSequence (any (first_whole bytes).0 ∷ fs) bytes
unfolding first_whole
any_takes fs bytes s = elim (by_result (element_at 32 bytes)) [
  | inl f ↦ let s = s in let r : SpellsSequence fs bytes = rw f.1 at s in rw f.1 (record { elements = r.elements; is_list = r.is_list; in_order = any_none fs r.elements r.in_order })
  | inr p ↦
      let t = element_takes 32 bytes p.0 p.1 in
      let s = s in
      let r : SpellsSequence fs p.0.1 = rw p.1 at s in
      rw p.1 (record { elements = p.0.0 ∷ r.elements; is_list = list_from p.0.0 bytes p.0.1 r.elements t.0 t.1 r.is_list; in_order = any_some fs p.0.0 r.elements r.in_order })
]

empty : (xs : List ℕ) → length xs ≡ 0 → xs ≡ []
empty [] e = refl
empty (x ∷ xs) e = absurd (omega (arith, e))

pub end_takes : (rest : List ℕ) → length rest ≡ 0 → SpellsSequence [] rest
unfolding InOrder
end_takes rest e = record { elements = []; is_list = record { each = tt; is_joined = empty rest e }; in_order = tt }

-- ---- what stands there is read

-- no part behind can stand first with this tag
abbrev pub Apart : ℕ → List Field → Type 0
Apart tag [] = Unit {0}
Apart tag (must n c ∷ fs) = eqb n tag ≡ false
Apart tag (may n c ∷ fs) = (eqb n tag ≡ false) × Apart tag fs
Apart tag (filled n c ∷ fs) = (eqb n tag ≡ false) × Apart tag fs
Apart tag (any w ∷ fs) = ⊥

first-apart : (tag : ℕ) (fs : List Field) (e : Parts) (es : List Parts) → Apart tag fs → InOrder fs (e ∷ es) → is_tag tag e.tag ≡ false
unfolding InOrder
first-apart tag [] e es a h = absurd h
first-apart tag (must n c ∷ fs) e es a (inl h) = is_tag-other n tag e.tag a h.0.0
first-apart tag (must n c ∷ fs) e es a (inr h) = absurd h.0
first-apart tag (may n None ∷ fs) e es a (inl h) = absurd h.0
first-apart tag (may n (Some c) ∷ fs) e es a (inl h) = is_tag-other n tag e.tag a.0 h.0.0
first-apart tag (may n c ∷ fs) e es a (inr h) = first-apart tag fs e es a.1 h.1
first-apart tag (filled n c ∷ fs) e es a (inl h) = is_tag-other n tag e.tag a.0 h.0.0
first-apart tag (filled n c ∷ fs) e es a (inr h) = first-apart tag fs e es a.1 h.1
first-apart tag (any w ∷ fs) e es a h = absurd a

abbrev Reads : ℕ → Option (List ℕ) → List Field → List ℕ → Type 0
Reads tag o fs bytes = ((tagged tag bytes).0 ≡ o) × SpellsSequence fs (tagged tag bytes).1

nothing_at : (tag : ℕ) (fs : List Field) (es : List Parts) (bytes : List ℕ) → Apart tag fs → IsList es bytes → InOrder fs es → tagged tag bytes ≡ (None, bytes)
unfolding tagged element_at head_at tag_at
nothing_at tag fs [] bytes a l h = rw l.is_joined refl
nothing_at tag fs (e ∷ es) bytes a l h = rw l.is_joined (rw (element_again 32 e (joined es) l.each.0, first-apart tag fs e es a h) refl)

reads_none : (tag : ℕ) (fs : List Field) (es : List Parts) (bytes : List ℕ) → Apart tag fs → IsList es bytes → InOrder fs es → Reads tag None fs bytes
reads_none tag fs es bytes a l h = rw (nothing_at tag fs es bytes a l h) (refl, record { elements = es; is_list = l; in_order = h })

one_at : (tag : ℕ) (e : Parts) (es : List Parts) (bytes : List ℕ) → IsList (e ∷ es) bytes → e.tag ≡ tag ∷ [] → tagged tag bytes ≡ (Some e.content, joined es)
unfolding tagged
one_at tag e es bytes l t = rw l.is_joined (rw (element_again 32 e (joined es) l.each.0, is_tag-one tag e.tag t) refl)

reads_some : (tag : ℕ) (c : List ℕ) (fs : List Field) (e : Parts) (es : List Parts) (bytes : List ℕ) → IsList (e ∷ es) bytes → e.tag ≡ tag ∷ [] → e.content ≡ c → InOrder fs es → Reads tag (Some c) fs bytes
reads_some tag c fs e es bytes l t is h = rw (one_at tag e es bytes l t) (ap (λ (x : List ℕ). some x) is, record { elements = es; is_list = record { each = l.each.1; is_joined = refl }; in_order = h })

may-reads : (tag : ℕ) (o : Option (List ℕ)) (fs : List Field) (es : List Parts) (bytes : List ℕ) → Apart tag fs → IsList es bytes → InOrder (may tag o ∷ fs) es → Reads tag o fs bytes
unfolding InOrder
may-reads tag None fs [] bytes a l h = reads_none tag fs [] bytes a l h.1
may-reads tag None fs (e ∷ es) bytes a l (inl h) = absurd h.0
may-reads tag None fs (e ∷ es) bytes a l (inr h) = reads_none tag fs (e ∷ es) bytes a l h.1
may-reads tag (Some c) fs [] bytes a l h = let e = h.0 in absurd cc
may-reads tag (Some c) fs (e ∷ es) bytes a l (inl h) = reads_some tag c fs e es bytes l h.0.0 h.0.1 h.1
may-reads tag (Some c) fs (e ∷ es) bytes a l (inr h) = let e = h.0 in absurd cc

must-reads : (tag : ℕ) (c : List ℕ) (fs : List Field) (es : List Parts) (bytes : List ℕ) → IsList es bytes → InOrder (must tag c ∷ fs) es → Reads tag (Some c) fs bytes
unfolding InOrder
must-reads tag c fs [] bytes l h = absurd h.0
must-reads tag c fs (e ∷ es) bytes l (inl h) = reads_some tag c fs e es bytes l h.0.0 h.0.1 h.1
must-reads tag c fs (e ∷ es) bytes l (inr h) = absurd h.0

filled-reads : (tag : ℕ) (c : List ℕ) (fs : List Field) (es : List Parts) (bytes : List ℕ) → Apart tag fs → IsList es bytes → InOrder (filled tag c ∷ fs) es → (o : Option (List ℕ)) × (unwrap_or o [] ≡ c) × Reads tag o fs bytes
unfolding InOrder
filled-reads tag c fs [] bytes a l h = (None, sym h.0, reads_none tag fs [] bytes a l h.1)
filled-reads tag c fs (e ∷ es) bytes a l (inl h) = (Some c, refl, reads_some tag c fs e es bytes l h.0.0 h.0.1 h.1)
filled-reads tag c fs (e ∷ es) bytes a l (inr h) = (None, sym h.0, reads_none tag fs (e ∷ es) bytes a l h.1)

pub may_again : (tag : ℕ) (o : Option (List ℕ)) (fs : List Field) (bytes : List ℕ) → Apart tag fs → SpellsSequence (may tag o ∷ fs) bytes → ((tagged tag bytes).0 ≡ o) × SpellsSequence fs (tagged tag bytes).1
may_again tag o fs bytes a s = may-reads tag o fs s.elements bytes a s.is_list s.in_order

pub must_again : (tag : ℕ) (c : List ℕ) (fs : List Field) (bytes : List ℕ) → SpellsSequence (must tag c ∷ fs) bytes → (rest : List ℕ) × (content_at tag bytes ≡ Some (c, rest)) × SpellsSequence fs rest
must_again tag c fs bytes s =
    let r = must-reads tag c fs s.elements bytes s.is_list s.in_order in
    ((tagged tag bytes).1, rw r.0 refl, r.1)

pub filled_again : (tag : ℕ) (c : List ℕ) (fs : List Field) (bytes : List ℕ) → Apart tag fs → SpellsSequence (filled tag c ∷ fs) bytes → (unwrap_or (tagged tag bytes).0 [] ≡ c) × SpellsSequence fs (tagged tag bytes).1
filled_again tag c fs bytes a s =
    let f = filled-reads tag c fs s.elements bytes a s.is_list s.in_order in
    (ap (λ (o : Option (List ℕ)). unwrap_or o []) f.2.0 ∙ f.1, f.2.1)

none-left : (es : List Parts) (rest : List ℕ) → IsList es rest → InOrder [] es → length rest ≡ 0
unfolding InOrder
none-left [] rest h i = ap length h.is_joined
none-left (e ∷ es) rest h i = absurd i

pub end_again : (rest : List ℕ) → SpellsSequence [] rest → length rest ≡ 0
end_again rest s = none-left s.elements rest s.is_list s.in_order

last-any : (o : Option (List ℕ)) (es : List Parts) (bytes : List ℕ) → IsList es bytes → InOrder (any o ∷ []) es → ((first_whole bytes).0 ≡ o) × (length (first_whole bytes).1 ≡ 0)
unfolding InOrder first_whole element_at head_at tag_at
last-any o [] bytes l h = rw l.is_joined (sym h.0, refl)
last-any None (e ∷ es) bytes l (inl h) = absurd h.0
last-any (Some w) (e ∷ []) bytes l (inl h) = rw l.is_joined (rw (element_again 32 e [] l.each.0) (ap (λ (x : List ℕ). some x) h.0, refl))
last-any (Some w) (e ∷ f ∷ es) bytes l (inl h) = absurd h.1
last-any o (e ∷ es) bytes l (inr h) = absurd h.1

-- one element of any tag, or none, at the end
pub any_again : (o : Option (List ℕ)) (bytes : List ℕ) → SpellsSequence (any o ∷ []) bytes → ((first_whole bytes).0 ≡ o) × (length (first_whole bytes).1 ≡ 0)
any_again o bytes s = last-any o s.elements bytes s.is_list s.in_order

must-some : (tag : ℕ) (c : List ℕ) (fs : List Field) (es : List Parts) (bytes : List ℕ) → IsList es bytes → InOrder (must tag c ∷ fs) es → 0 < length bytes
unfolding InOrder
must-some tag c fs [] bytes h i = absurd i.0
must-some tag c fs (e ∷ es) bytes h i = let lt = IsElement-longer 32 e (joined es) bytes h.each.0 h.is_joined in omega (arith, lt)

pub must-longer : (tag : ℕ) (c : List ℕ) (fs : List Field) (bytes : List ℕ) → SpellsSequence (must tag c ∷ fs) bytes → 0 < length bytes
must-longer tag c fs bytes s = must-some tag c fs s.elements bytes s.is_list s.in_order

-- where an element of another tag stands, this one isn't found
pub other_first : (tag n : ℕ) (c : List ℕ) (fs : List Field) (bytes : List ℕ) → eqb n tag ≡ false → SpellsSequence (must n c ∷ fs) bytes → (tagged tag bytes).0 ≡ None
other_first tag n c fs bytes other s = (may_again tag None (must n c ∷ fs) bytes other (left_out-before tag (must n c ∷ fs) bytes s)).0

-- an element of this tag begins with it
begins-with : (tag first : ℕ) (bytes : List ℕ) (p : Parts × List ℕ) → element_at 32 (first ∷ bytes) ≡ Ok p → is_tag tag p.0.tag ≡ true → first ≡ tag
begins-with tag first bytes p e is =
    let t = element_takes 32 (first ∷ bytes) p e in
    let b = IsElement-begins 32 p.0 t.0 in
    let whole : p.0.whole ≡ tag ∷ b.0 = b.1 ∙ ap (λ (w : List ℕ). w ++ b.0) (is_tag-is tag p.0.tag is) in
    let same : first ∷ bytes ≡ tag ∷ (b.0 ++ p.1) = t.1 ∙ ap (λ (w : List ℕ). w ++ p.1) whole in
    cc

tagged-other : (tag first : ℕ) (bytes : List ℕ) → first ≢ tag → tagged tag (first ∷ bytes) ≡ (None, first ∷ bytes)
unfolding tagged
tagged-other tag first bytes other = elim (by_result (element_at 32 (first ∷ bytes))) [
  | inl f ↦ rw f.1 refl
  | inr p ↦ elim (cases_Bool (is_tag tag p.0.0.tag)) [
    | inl y ↦ absurd (other (begins-with tag first bytes p.0 p.1 y))
    | inr n ↦ rw (p.1, n) refl
  ]
]

-- where another octet stands first, or none, no element of this tag is found
pub tagged_other : (tag : ℕ) (bytes : List ℕ) → 0 < length bytes → get_or bytes 0 0 ≢ tag → (None, bytes) ≡ tagged tag bytes
tagged_other tag [] lt other = absurd (omega arith)
tagged_other tag (first ∷ bytes) lt other = sym (tagged-other tag first bytes other)

pub tagged_none : (tag : ℕ) (bytes : List ℕ) → length bytes ≡ 0 → (None, bytes) ≡ tagged tag bytes
unfolding tagged element_at head_at tag_at
tagged_none tag [] e = refl
tagged_none tag (b ∷ bytes) e = absurd (omega arith)
