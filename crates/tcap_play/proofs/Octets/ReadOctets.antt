-- What is read in octets is octets.
use Rattle.std.proofs.Common.{◌≡◌, ◌+◌, ◌-◌, ◌/◌, ◌%◌, ◌≤◌, ◌∙◌, ℕ, zero, suc, Bool, ltb, List, [], ◌∷◌, ◌++◌, length, Some, None, refl, sym, ap, subst, inl, inr, arith, length-append}
use Rattle.std.specs.List.{AllByRecursion}
use Rattle.std.proofs.lemmas.Bool.{cases_Bool, ltb-true}
use Rattle.ber_core.specs.Element.{Parts, IsDefinite, IsIndefinite, IsElement, joined}
use Rattle.ber_core.specs.Length.{IsLength}
use Rattle.ber_core.specs.Sequence.{Field, StandsAs, IsLeftOut, InOrder, SpellsSequence}
use Rattle.ber_core.specs.Sequence.Field.{must, may, filled, any}
use Rattle.ber_core.specs.Written.{written}
use Rattle.tcap_pdu.specs.DialogueSpelling.{PduValue, SpellsRequest, SpellsExternal, SpellsDialogue, structured_syntax}
use Rattle.tcap_pdu.specs.FrameSpelling.{Message, SpellsFrame, fields}
use Rattle.tcap_play.proofs.Octets.OctetLists.{Octets, octets-parts}

-- ---- elements

definite-content : (e : Parts) → IsDefinite e → Octets e.whole → Octets e.content
definite-content e is octets =
    let behind = octets-parts e.tag (is.octets ++ e.content) (subst (λ (w : List ℕ). Octets w) is.is_whole octets) in
    (octets-parts is.octets e.content behind.1).1

indefinite-content : (Inner : Parts → Type 0) (e : Parts) → IsIndefinite Inner e → Octets e.whole → Octets e.content
indefinite-content Inner e is octets =
    let behind = octets-parts e.tag (0x80 ∷ (e.content ++ (0x00 ∷ 0x00 ∷ [])))
    (subst (λ (w : List ℕ). Octets w) is.is_whole octets) in
    (octets-parts e.content (0x00 ∷ 0x00 ∷ []) behind.1).0

pub element-content : (depth : ℕ) (e : Parts) → IsElement depth e → Octets e.whole → Octets e.content
unfolding IsElement
element-content zero e is octets = definite-content e is octets
element-content (suc depth) e (inl is) octets = definite-content e is octets
element-content (suc depth) e (inr is) octets = indefinite-content (IsElement depth) e is octets

-- an element of octets
abbrev InOctets : Parts → Type 0
InOctets e = Octets e.whole × Octets e.content

all-octets : (es : List Parts) → AllByRecursion (IsElement 32) es → Octets (joined es) → AllByRecursion InOctets es
all-octets [] are octets = tt
all-octets (e ∷ es) are octets =
    let both = octets-parts e.whole (joined es) octets in
    ((both.0, element-content 32 e are.0 both.0), all-octets es are.1 both.1)

-- ---- sequences

abbrev pub FieldOctets : Field → Type 0
FieldOctets (must tag c) = Octets c
FieldOctets (may tag None) = Unit {0}
FieldOctets (may tag (Some c)) = Octets c
FieldOctets (filled tag c) = Octets c
FieldOctets (any None) = Unit {0}
FieldOctets (any (Some whole)) = Octets whole

left-out : (f : Field) → IsLeftOut f → FieldOctets f
left-out (must tag c) is = absurd is
left-out (may tag None) is = tt
left-out (may tag (Some c)) is = absurd cc
left-out (filled tag c) is = subst (λ (w : List ℕ). Octets w) (sym is) refl
left-out (any None) is = tt
left-out (any (Some whole)) is = absurd cc

stands-as : (f : Field) (e : Parts) → StandsAs f e → InOctets e → FieldOctets f
stands-as (must tag c) e is octets = subst (λ (w : List ℕ). Octets w) is.1 octets.1
stands-as (may tag None) e is octets = tt
stands-as (may tag (Some c)) e is octets = subst (λ (w : List ℕ). Octets w) is.1 octets.1
stands-as (filled tag c) e is octets = subst (λ (w : List ℕ). Octets w) is.1 octets.1
stands-as (any None) e is octets = tt
stands-as (any (Some whole)) e is octets = subst (λ (w : List ℕ). Octets w) is octets.0

in-order : (fs : List Field) (es : List Parts) → InOrder fs es → AllByRecursion InOctets es → AllByRecursion FieldOctets fs
unfolding InOrder
in-order [] [] is octets = tt
in-order [] (e ∷ es) is octets = tt
in-order (f ∷ fs) [] is octets = (left-out f is.0, in-order fs [] is.1 octets)
in-order (f ∷ fs) (e ∷ es) (inl is) octets = (stands-as f e is.0 octets.0, in-order fs es is.1 octets.1)
in-order (f ∷ fs) (e ∷ es) (inr is) octets = (left-out f is.0, in-order fs (e ∷ es) is.1 octets)

pub spells-octets : (fs : List Field) (bytes : List ℕ) → SpellsSequence fs bytes → Octets bytes → AllByRecursion FieldOctets fs
spells-octets fs bytes is octets =
    in-order fs is.elements is.in_order
    (all-octets is.elements is.is_list.each (subst (λ (w : List ℕ). Octets w) is.is_list.is_joined octets))

-- ---- messages

pub frame-octets : (m : Message) (bytes : List ℕ) → SpellsFrame m bytes → Octets bytes → AllByRecursion FieldOctets (fields m)
frame-octets m bytes is octets =
    spells-octets (fields m) is.element.content is.is_frame.in_sequence
    (element-content 32 is.element is.is_element (subst (λ (w : List ℕ). Octets w) is.is_whole octets))

-- the application context of an AARQ
pub request-context : (version1 : Bool) (context info portion : List ℕ) → SpellsDialogue (PduValue.aarq version1 context info) portion
    → Octets portion → Octets context
unfolding SpellsDialogue
request-context version1 context info portion is octets =
    let here : SpellsExternal structured_syntax 0x60 (SpellsRequest version1 context info) portion = is in
    let request : SpellsRequest version1 context info here.content = here.is_content in
    let external = (spells-octets (must 0x28 here.external ∷ []) portion here.is_external octets).0 in
    let single = (spells-octets (must 0x06 structured_syntax ∷ must 0xa0 here.single ∷ []) here.external here.in_sequence external).1.0 in
    let content = (spells-octets (must 0x60 here.content ∷ []) here.single here.is_pdu single).0 in
    let name = (spells-octets (may 0x80 request.version ∷ must 0xa1 request.name ∷ filled 0xbe info ∷ []) here.content request.in_sequence content).1.0 in
    (spells-octets (must 0x06 context ∷ []) request.name request.holds_context name).0

-- ---- lengths

-- two octets of a length stand in the definite form alone, and count what follows
definite-short : (e : Parts) (first second : ℕ) (c octets : List ℕ) → IsLength octets (length e.content)
    → octets ++ e.content ≡ 0x82 ∷ first ∷ second ∷ c → length c ≤ 65535
definite-short e first second c [] counts same = absurd counts
definite-short e first second c (b ∷ octets) (inl counts) same =
    let head : b ≡ 0x82 = cc in
    absurd (omega (arith, head, counts.0))
definite-short e first second c (b ∷ octets) (inr counts) same =
    let head : b ≡ 0x82 = cc in
    let rest : octets ++ e.content ≡ first ∷ second ∷ c = cc in
    let lengths : length octets + length e.content ≡ length (first ∷ second ∷ c) = sym (length-append octets e.content) ∙ ap length rest in
    let two : length octets ≡ b - 0x80 = counts.2 in
    let within : length e.content ≤ 65535 = counts.4 in
    omega (arith, lengths, two, head, within)

-- an element that was written in the definite form, with a tag of one octet
tail-short : (depth : ℕ) (e : Parts) (tag other first second : ℕ) (c : List ℕ) → IsElement depth e → e.tag ≡ other ∷ []
    → e.whole ≡ tag ∷ 0x82 ∷ first ∷ second ∷ c → length c ≤ 65535
unfolding IsElement
tail-short zero e tag other first second c is tags same =
    let whole : e.tag ++ (is.octets ++ e.content) ≡ tag ∷ 0x82 ∷ first ∷ second ∷ c = sym is.is_whole ∙ same in
    let one : other ∷ (is.octets ++ e.content) ≡ tag ∷ 0x82 ∷ first ∷ second ∷ c =
    ap (λ (t : List ℕ). t ++ (is.octets ++ e.content)) (sym tags) ∙ whole in
    definite-short e first second c is.octets is.is_length cc
tail-short (suc depth) e tag other first second c (inl is) tags same =
    let whole : e.tag ++ (is.octets ++ e.content) ≡ tag ∷ 0x82 ∷ first ∷ second ∷ c = sym is.is_whole ∙ same in
    let one : other ∷ (is.octets ++ e.content) ≡ tag ∷ 0x82 ∷ first ∷ second ∷ c =
    ap (λ (t : List ℕ). t ++ (is.octets ++ e.content)) (sym tags) ∙ whole in
    definite-short e first second c is.octets is.is_length cc
tail-short (suc depth) e tag other first second c (inr is) tags same =
    let behind : List ℕ = e.content ++ (0x00 ∷ 0x00 ∷ []) in
    let whole : e.tag ++ (0x80 ∷ behind) ≡ tag ∷ 0x82 ∷ first ∷ second ∷ c = sym is.is_whole ∙ same in
    let one : other ∷ 0x80 ∷ behind ≡ tag ∷ 0x82 ∷ first ∷ second ∷ c =
    ap (λ (t : List ℕ). t ++ (0x80 ∷ behind)) (sym tags) ∙ whole in
    let marks : ◌≡◌ {A = ℕ} 0x80 0x82 = cc in
    absurd (omega (arith, marks))

-- the content of a written element has a length that can be read
pub content-short : (e : Parts) (tag other : ℕ) (c : List ℕ) → IsElement 32 e → e.tag ≡ other ∷ []
    → e.whole ≡ written (tag ∷ []) c → length c ≤ 65535
content-short e tag other c is tags same = elim (cases_Bool (ltb (length c) 0x80)) [
  | inl a ↦ let low = ltb-true (length c) 0x80 a in omega (arith, low)
  | inr a ↦ elim (cases_Bool (ltb (length c) 0x100)) [
    | inl b ↦ let low = ltb-true (length c) 0x100 b in omega (arith, low)
    | inr b ↦
        let long : e.whole ≡ tag ∷ 0x82 ∷ length c / 0x100 ∷ length c % 0x100 ∷ c = let same = same in rw (a, b) at same in
        tail-short 32 e tag other (length c / 0x100) (length c % 0x100) c is tags long
  ]
]
