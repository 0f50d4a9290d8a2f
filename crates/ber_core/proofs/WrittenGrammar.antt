-- What is written is spelled so.
use Rattle.std.proofs.Common.{◌≡◌, ℕ, ◌+◌, ◌-◌, ◌*◌, ◌/◌, ◌%◌, ◌<◌, ◌≤◌, ltb, List, [], ◌∷◌, ◌++◌, length, Some, None, refl, sym, ap, subst, ◌∙◌, Ok, append-nil, append_assoc, inl, inr, arith, ltb-true, div-add-mod'}
use Rattle.std.proofs.lemmas.Bool.{cases_Bool, lt-ltb, ltb-false}
use Rattle.std.specs.List.{AllByRecursion}
use Rattle.ber_core.specs.Head.{BeginsWithHead}
use Rattle.ber_core.specs.Written.{length_octets, written_head, written, written_parts, written_fields, IsShort, CanWriteAll}
use Rattle.ber_core.specs.Length.{number_after, IsLength}
use Rattle.ber_core.specs.Element.{Parts, IsElement}
use Rattle.ber_core.specs.Tag.{IsTag}
use Rattle.ber_core.specs.Sequence.{Field, InOrder, SpellsSequence}
use Rattle.ber_core.specs.Sequence.Field.{must, may, filled, any}
use Rattle.ber_core.specs.ElementReading.{element_at}
use Rattle.ber_core.proofs.ElementGrammar.{element_again}
use Rattle.ber_core.proofs.SequenceGrammar.{list_from, left_out-before}

two : (n : ℕ) → (0 * 256 + n / 256) * 256 + n % 256 ≡ n
two n = let d = div-add-mod' n 256 in omega (arith, d)

pub length_is : (n : ℕ) → n ≤ 65535 → IsLength (length_octets n) n
unfolding number_after
length_is n le = elim (cases_Bool (ltb n 128)) [
  | inl a ↦ rw a (inl (ltb-true n 128 a, refl, refl))
  | inr a ↦ elim (cases_Bool (ltb n 256)) [
    | inl b ↦ rw (a, b) (inr (omega arith, (λ e. absurd (omega (arith, e))), refl, omega arith, le))
    | inr b ↦ rw (a, b) (inr (omega arith, (λ e. absurd (omega (arith, e))), refl, sym (two n), le))
  ]
]

abbrev part : ℕ → List ℕ → Parts
part tag c = record { tag = tag ∷ []; content = c; whole = written (tag ∷ []) c }

pub part_is : (tag : ℕ) (c : List ℕ) → IsShort tag c → IsElement 32 (part tag c)
unfolding IsElement
part_is tag c h = inl (record { octets = length_octets (length c); is_tag = (h.0, rw h.1 refl); is_length = length_is (length c) h.2; is_whole = refl })

before : (f : Field) (fs : List Field) (e : Parts) → IsElement 32 e → ((es : List Parts) → InOrder fs es → InOrder (f ∷ fs) (e ∷ es)) → SpellsSequence fs (written_fields fs) → SpellsSequence (f ∷ fs) (e.whole ++ written_fields fs)
before f fs e i h s = record { elements = e ∷ s.elements; is_list = list_from e (e.whole ++ written_fields fs) (written_fields fs) s.elements i refl s.is_list; in_order = h s.elements s.in_order }

none_filled : (tag : ℕ) (fs : List Field) (es : List Parts) → InOrder fs es → InOrder (filled tag [] ∷ fs) es
unfolding InOrder
none_filled tag fs [] h = (refl, h)
none_filled tag fs (e ∷ es) h = inr (refl, h)

none_any : (fs : List Field) (es : List Parts) → InOrder fs es → InOrder (any None ∷ fs) es
unfolding InOrder
none_any fs [] h = (refl, h)
none_any fs (e ∷ es) h = inr (refl, h)

pub fields_spelled : (fs : List Field) → CanWriteAll fs → SpellsSequence fs (written_fields fs)
unfolding InOrder
fields_spelled [] h = record { elements = []; is_list = record { each = tt; is_joined = refl }; in_order = tt }
fields_spelled (must tag c ∷ fs) h = before (must tag c) fs (part tag c) (part_is tag c h.0) (λ es o. inl ((refl, refl), o)) (fields_spelled fs h.1)
fields_spelled (may tag None ∷ fs) h = left_out-before tag fs (written_fields fs) (fields_spelled fs h.1)
fields_spelled (may tag (Some c) ∷ fs) h = before (may tag (Some c)) fs (part tag c) (part_is tag c h.0) (λ es o. inl ((refl, refl), o)) (fields_spelled fs h.1)
fields_spelled (filled tag [] ∷ fs) h = let s = fields_spelled fs h.1 in record { elements = s.elements; is_list = s.is_list; in_order = none_filled tag fs s.elements s.in_order }
fields_spelled (filled tag (b ∷ c) ∷ fs) h = before (filled tag (b ∷ c)) fs (part tag (b ∷ c)) (part_is tag (b ∷ c) h.0) (λ es o. inl ((refl, refl), o)) (fields_spelled fs h.1)
fields_spelled (any None ∷ fs) h = let s = fields_spelled fs h.1 in record { elements = s.elements; is_list = s.is_list; in_order = none_any fs s.elements s.in_order }
fields_spelled (any (Some w) ∷ fs) h = let i = h.0 in let s = before (any (Some w)) fs i.0 i.1 (λ es o. inl (i.2, o)) (fields_spelled fs h.1) in subst (λ (x : List ℕ). SpellsSequence (any (Some w) ∷ fs) (x ++ written_fields fs)) i.2 s

-- ---- one element

pub element_spelled : (tag content : List ℕ) → IsTag tag → length content ≤ 65535 → IsElement 32 (written_parts tag content)
unfolding IsElement
element_spelled tag content t le = inl (record { octets = length_octets (length content); is_tag = t; is_length = length_is (length content) le; is_whole = append_assoc tag (length_octets (length content)) content })

pub element_written : (tag content : List ℕ) → IsTag tag → length content ≤ 65535 → element_at 32 (written tag content) ≡ Ok (written_parts tag content, [])
element_written tag content t le = ap (element_at 32) (sym (append-nil (written tag content))) ∙ element_again 32 (written_parts tag content) [] (element_spelled tag content t le)

-- ---- a head

pub head_spelled : (tag : List ℕ) (len : ℕ) → IsTag tag → len ≤ 65535 → BeginsWithHead tag (Some len) [] (written_head tag len)
head_spelled tag len t le = record { octets = length_octets len; is_tag = t; says = length_is len le; parts = ap (λ (w : List ℕ). tag ++ w) (sym (append-nil (length_octets len))) }

-- more than 255 takes two octets
two_at_least : (n : ℕ) (octets : List ℕ) → AllByRecursion (λ b. b < 256) octets → 0 < length octets → n ≡ number_after 0 octets → 256 ≤ n → 2 ≤ length octets
unfolding number_after
two_at_least n [] all lt is le = absurd (omega (arith, lt))
two_at_least n (x ∷ []) all lt is le = let a = all.0 in absurd (omega (arith, a, is, le))
two_at_least n (x ∷ y ∷ more) all lt is le = omega arith

long_enough : (n b : ℕ) (octets : List ℕ) → AllByRecursion (λ c. c < 256) octets → 128 < b → length octets ≡ b - 128 → n ≡ number_after 0 octets → length (length_octets n) ≤ 1 + length octets
long_enough n b octets all lt count is =
    let one : 0 < length octets = omega (arith, lt, count) in
    elim (cases_Bool (ltb n 128)) [
      | inl p ↦ rw p (omega arith)
      | inr p ↦ elim (cases_Bool (ltb n 256)) [
        | inl q ↦ rw (p, q) (omega (arith, one))
        | inr q ↦ let two = two_at_least n octets all one is (ltb-false n 256 q) in rw (p, q) (omega (arith, two))
      ]
    ]

-- no octets of the same length are fewer
pub shortest : (n : ℕ) (octets : List ℕ) → AllByRecursion (λ b. b < 256) octets → IsLength octets n → length (length_octets n) ≤ length octets
shortest n [] all h = absurd h
shortest n (b ∷ octets) all (inl h) =
    let lt : n < 128 = omega (arith, h.0, h.2) in
    rw (lt-ltb n 128 lt) (omega arith)
shortest n (b ∷ octets) all (inr h) = let l = long_enough n b octets all.1 h.0 h.2 h.3 in omega (arith, l)
