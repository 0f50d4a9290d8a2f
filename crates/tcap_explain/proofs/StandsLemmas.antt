-- Elements that stand in a table, line by line.
use Rattle.std.proofs.Common.{◌≡◌, ℕ, true, List, [], ◌∷◌, ◌++◌, Option, Some, None, refl, sym, ap, subst, ◌∙◌, ◌⊎◌, inl, inr}
use Rattle.std.proofs.lemmas.List.{append-nil}
use Rattle.ber_core.specs.Element.{Parts, IsElement}
use Rattle.ber_core.specs.ElementList.{IsList}
use Rattle.ber_core.specs.ElementReading.{element_at}
use Rattle.ber_core.specs.Sequence.{Field, StandsAs, IsLeftOut, InOrder, SpellsSequence}
use Rattle.ber_core.specs.SequenceReading.{is_tag}
use Rattle.ber_core.proofs.CallerLemmas.{test_some, some_is, not_some, is_tag-is, is_tag-one, list_from, element_again, read_is}
use Rattle.tcap_explain.specs.declared.contents.Contents.{Contents}
use Rattle.tcap_explain.specs.declared.contents.Contents.TheVariants as contents
use Rattle.tcap_explain.specs.declared.line.Line.{Line}
use Rattle.tcap_explain.specs.declared.line.Line.TheVariants as line
use Rattle.tcap_explain.specs.declared.line.ListLine.TheVariants as list
use Rattle.tcap_explain.specs.declared.table.Inside.{Inside}
use Rattle.tcap_explain.specs.declared.table.Inside.TheVariants as inside
use Rattle.tcap_explain.specs.Choice.{Choice, leads, only, either}
use Rattle.tcap_explain.specs.Octets.{fits}
use Rattle.tcap_explain.specs.Table.{next, may_end}
use Rattle.tcap_explain.specs.Unmet.{Holds, Stands}
use Rattle.tcap_explain.specs.Unmet.Holds.{octets, elements, listed}
use Rattle.tcap_explain.specs.Unmet.Stands.{ends, begins}

-- ---- what is held

pub octets-fit : (c : Contents) (content : List ℕ) → Holds (inside.Octets c) content → fits c content ≡ true
octets-fit c content (octets k o h) = h

pub elements-stand : (l : Line) (content : List ℕ) → Holds (inside.Elements l) content → Stands l content
elements-stand l content (elements k o h) = h

pub listed-stand : (a b : Line) (content : List ℕ) → Holds (inside.Listed a b) content → Stands a content × Stands b content
listed-stand a b content (listed k l o h i) = (h, i)

-- ---- choices

-- the element has this tag, and holds what it does, and what follows stands at the line behind it
abbrev pub Takes : ℕ → Inside → Line → Parts → List ℕ → Type 0
Takes octet held line e rest = (e.tag ≡ octet ∷ []) × Holds held e.content × Stands line rest

pub either-some : (a b : Option Choice) (x : Choice) → either a b ≡ Some x → (a ≡ Some x) ⊎ (b ≡ Some x)
either-some None b x e = inr e
either-some (Some a) b x e = inl e

pub either-other : (a b : Option Choice) (x : Choice) → either a b ≡ Some x → (a ≡ Some x) ⊎ ((a ≡ None) × (b ≡ Some x))
either-other None b x e = inr (refl, e)
either-other (Some a) b x e = inl e

pub only-other : (octet : ℕ) (tag : List ℕ) (want : Inside) (line : Line) → only octet tag want line ≡ None → tag ≡ octet ∷ [] → ⊥
only-other octet tag want line n t =
    let n = n in
    let no : Some (leads want line) ≡ None = rw (is_tag-one octet tag t) at n in
    cc

pub only-takes : (octet : ℕ) (held want : Inside) (line then : Line) (e : Parts) (rest : List ℕ) → only octet e.tag want line ≡ Some (leads held then) → Holds held e.content → Stands then rest → Takes octet want line e rest
only-takes octet held want line then e rest n h s =
    let t = test_some (is_tag octet e.tag) (let x : Option Choice = Some (leads want line) in x) (leads held then) n in
    let same : leads want line ≡ leads held then = some_is (leads want line) (leads held then) t.1 in
    let held_is : held ≡ want = ap (λ (c : Choice). c.0) (sym same) in
    let then_is : then ≡ line = ap (λ (c : Choice). c.1) (sym same) in
    (is_tag-is octet e.tag t.0, subst (λ (i : Inside). Holds i e.content) held_is h, subst (λ (l : Line). Stands l rest) then_is s)

-- which choice was taken, where there is one
pub only-chooses : (octet : ℕ) (tag : List ℕ) (held want : Inside) (line then : Line) → only octet tag want line ≡ Some (leads held then) → (tag ≡ octet ∷ []) × (then ≡ line)
only-chooses octet tag held want line then n =
    let t = test_some (is_tag octet tag) (let x : Option Choice = Some (leads want line) in x) (leads held then) n in
    (is_tag-is octet tag t.0, ap (λ (c : Choice). c.1) (sym (some_is (leads want line) (leads held then) t.1)))

-- ---- listed sequences

left_out : (f : Field) (fs : List Field) (es : List Parts) → IsLeftOut f → InOrder fs es → InOrder (f ∷ fs) es
unfolding InOrder
left_out f fs [] l h = (l, h)
left_out f fs (e ∷ es) l h = inr (l, h)

pub without : (f : Field) (fs : List Field) (bytes : List ℕ) → IsLeftOut f → SpellsSequence fs bytes → SpellsSequence (f ∷ fs) bytes
without f fs bytes l s = record { elements = s.elements; is_list = s.is_list; in_order = left_out f fs s.elements l s.in_order }

in_place : (f : Field) (fs : List Field) (e : Parts) (es : List Parts) → StandsAs f e → InOrder fs es → InOrder (f ∷ fs) (e ∷ es)
unfolding InOrder
in_place f fs e es s h = inl (s, h)

pub with_it : (f : Field) (fs : List Field) (e : Parts) (rest : List ℕ) → IsElement 32 e → StandsAs f e → SpellsSequence fs rest → SpellsSequence (f ∷ fs) (e.whole ++ rest)
with_it f fs e rest i a s = record { elements = e ∷ s.elements; is_list = list_from e (e.whole ++ rest) rest s.elements i refl s.is_list; in_order = in_place f fs e s.elements a s.in_order }

nothing : InOrder [] []
unfolding InOrder
nothing = tt

pub no_elements : SpellsSequence [] []
no_elements = record { elements = []; is_list = record { each = tt; is_joined = refl }; in_order = nothing }

pub end-stands : (bytes : List ℕ) → Stands (line.List list.End) bytes → SpellsSequence [] bytes
unfolding next
end-stands bytes (ends l m) = no_elements
end-stands bytes (begins l t held e rest i n h s) = absurd (not_some (leads held t) n)

pub end-empty : (bytes : List ℕ) → Stands (line.List list.End) bytes → bytes ≡ []
unfolding next
end-empty bytes (ends l m) = refl
end-empty bytes (begins l t held e rest i n h s) = absurd (not_some (leads held t) n)

-- ---- elements

abbrev Read : Type 0
Read = Parts × List ℕ

-- the same octets begin with one element
pub same_begin : (e f : Parts) (x y : List ℕ) → IsElement 32 e → IsElement 32 f → e.whole ++ x ≡ f.whole ++ y → e ≡ f
same_begin e f x y i j is =
    ap (λ (r : Read). r.0) (read_is (e, x) (f, y) (sym (element_again 32 e x i) ∙ (ap (element_at 32) is ∙ element_again 32 f y j)))

pub same_element : (e f : Parts) (rest : List ℕ) → IsElement 32 e → IsElement 32 f → e.whole ≡ f.whole ++ rest → e ≡ f
same_element e f rest i j is = same_begin e f [] rest i j (append-nil e.whole ∙ is)

-- ---- lists of elements

abbrev pub AreListed : List ℕ → Type 0
AreListed bytes = (es : List Parts) × IsList es bytes

pub some-takes : (held want : Inside) (line then : Line) (e : Parts) (rest : List ℕ) → (let x : Option Choice = Some (leads want line) in x) ≡ Some (leads held then) → Holds held e.content → Stands then rest → Holds want e.content × Stands line rest
some-takes held want line then e rest n h s =
    let same : leads want line ≡ leads held then = some_is (leads want line) (leads held then) n in
    let held_is : held ≡ want = ap (λ (c : Choice). c.0) (sym same) in
    let then_is : then ≡ line = ap (λ (c : Choice). c.1) (sym same) in
    (subst (λ (i : Inside). Holds i e.content) held_is h, subst (λ (l : Line). Stands l rest) then_is s)

listed_from : (l : Line) (bytes : List ℕ) → l ≡ line.List list.Elements → Stands l bytes → AreListed bytes
unfolding next
listed_from l bytes same (ends k m) = ([], record { each = tt; is_joined = refl })
listed_from l bytes same (begins k t held e rest i n h s) =
    let here : next (line.List list.Elements) e.tag e.content ≡ Some (leads held t) = subst (λ (k : Line). next k e.tag e.content ≡ Some (leads held t)) same n in
    let on : line.List list.Elements ≡ t = ap (λ (c : Choice). c.1) (some_is (leads (inside.Octets contents.Any) (line.List list.Elements)) (leads held t) here) in
    let r = listed_from t rest (sym on) s in
    (e ∷ r.0, list_from e (e.whole ++ rest) rest r.0 i refl r.1)

pub elements-listed : (bytes : List ℕ) → Stands (line.List list.Elements) bytes → AreListed bytes
elements-listed bytes s = listed_from (line.List list.Elements) bytes refl s

-- one element and nothing after it
pub one-stands : (bytes : List ℕ) → Stands (line.List list.OneElement) bytes → (e : Parts) × IsElement 32 e × (bytes ≡ e.whole)
unfolding next may_end
one-stands bytes (ends l m) = absurd cc
one-stands bytes (begins l t held e rest i n h s) =
    let k = some-takes held (inside.Octets contents.Any) (line.List list.End) t e rest n h s in
    (e, i, ap (λ (w : List ℕ). e.whole ++ w) (end-empty rest k.1) ∙ append-nil e.whole)

-- one element that holds a list of elements, and nothing after it
pub constructed-stands : (bytes : List ℕ) → Stands (line.List list.OneConstructed) bytes → (e : Parts) × IsElement 32 e × (bytes ≡ e.whole) × AreListed e.content
unfolding next may_end
constructed-stands bytes (ends l m) = absurd cc
constructed-stands bytes (begins l t held e rest i n h s) =
    let k = some-takes held (inside.Elements (line.List list.Elements)) (line.List list.End) t e rest n h s in
    (e, i, ap (λ (w : List ℕ). e.whole ++ w) (end-empty rest k.1) ∙ append-nil e.whole, elements-listed e.content (elements-stand (line.List list.Elements) e.content k.0))
