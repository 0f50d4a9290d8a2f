-- The length of a written dialogue portion, and how it bounds that of its parts.
use Rattle.std.proofs.Common.{◌≡◌, ℕ, zero, suc, ◌+◌, ◌≤◌, Bool, true, false, List, [], ◌∷◌, ◌++◌, length, refl, ap, ◌∙◌, arith, length-append, append-nil}
use Rattle.ber_core.specs.Sequence.{Field}
use Rattle.ber_core.specs.Sequence.Field.{must, filled}
use Rattle.ber_core.specs.Written.{written, written_field, written_fields}
use Rattle.ber_core.specs.WrittenLength.{element_length}
use Rattle.ber_core.proofs.CallerLemmas.{element_length-least, element_length-most, length-written}
use Rattle.tcap_pdu.specs.DialogueSpelling.{Source, PduValue, structured_syntax, unstructured_syntax, result_number, abort_source, source_tag, source_number}
use Rattle.tcap_pdu.specs.DialogueSpelling.PduValue.{aarq, audt, aare, abrt, foreign}
use Rattle.tcap_pdu.specs.DialogueWritten.{version_octets, opening_fields, request_fields, result_field, diagnostic_field, response_fields, abort_fields, written_external, written_dialogue}
use Rattle.tcap_pdu.specs.DialogueDue.{information_length, opening_length, answer_length, held_length, external_length, portion_length}

pub element_most : (n : ℕ) → element_length n ≤ n + 4
element_most n = element_length-most n

pub element_least : (n : ℕ) → n + 2 ≤ element_length n
element_least n = element_length-least n

pub information_most : (n : ℕ) → information_length n ≤ n + 4
information_most zero = omega arith
information_most (suc n) = element_length-most (suc n)

pub information_least : (n : ℕ) → n ≤ information_length n
information_least zero = omega arith
information_least (suc n) = let l = element_length-least (suc n) in omega (arith, l)

-- ---- lengths of what is written

length-information : (info : List ℕ) → length (written_field (filled 0xbe info)) ≡ information_length (length info)
length-information [] = refl
length-information (b ∷ info) = length-written 0xbe (b ∷ info)

length-version : (v : Bool) → length (version_octets v) ≡ 2
length-version true = refl
length-version false = refl

length-last : (info : List ℕ) → length (written_fields (filled 0xbe info ∷ [])) ≡ information_length (length info)
length-last info = ap length (append-nil (written_field (filled 0xbe info))) ∙ length-information info

length-opening : (v : Bool) (c : List ℕ) (fs : List Field) → length (written_fields (opening_fields v c fs)) ≡ opening_length (length c) + length (written_fields fs)
length-opening v c fs =
    let a = length-append (written (0x80 ∷ []) (version_octets v)) (written_field (must 0xa1 (written (0x06 ∷ []) c)) ++ written_fields fs) in
    let b = length-append (written (0xa1 ∷ []) (written (0x06 ∷ []) c)) (written_fields fs) in
    let version = length-written 0x80 (version_octets v) ∙ ap element_length (length-version v) in
    let name = length-written 0xa1 (written (0x06 ∷ []) c) ∙ ap element_length (length-written 0x06 c) in
    omega (arith, a, b, version, name)

length-answer : (a : Bool) (d : Source) (fs : List Field) → length (written_fields (result_field a ∷ diagnostic_field d ∷ fs)) ≡ answer_length + length (written_fields fs)
length-answer a d fs =
    let result = written (0x02 ∷ []) (result_number a ∷ []) in
    let source = written (source_tag d ∷ []) (written (0x02 ∷ []) (source_number d ∷ [])) in
    let x = length-append (written (0xa2 ∷ []) result) (written (0xa3 ∷ []) source ++ written_fields fs) in
    let y = length-append (written (0xa3 ∷ []) source) (written_fields fs) in
    let first = length-written 0xa2 result ∙ ap element_length (length-written 0x02 (result_number a ∷ [])) in
    let second = length-written 0xa3 source ∙ ap element_length (length-written (source_tag d) (written (0x02 ∷ []) (source_number d ∷ []))) in
    omega (arith, x, y, first, second)

pub length-request : (v : Bool) (c i : List ℕ) → length (written_fields (request_fields v c i)) ≡ opening_length (length c) + information_length (length i)
length-request v c i = length-opening v c (filled 0xbe i ∷ []) ∙ ap (λ n. opening_length (length c) + n) (length-last i)

pub length-response : (v : Bool) (c : List ℕ) (a : Bool) (d : Source) (i : List ℕ) → length (written_fields (response_fields v c a d i)) ≡ opening_length (length c) + answer_length + information_length (length i)
length-response v c a d i =
    let x = length-opening v c (result_field a ∷ diagnostic_field d ∷ filled 0xbe i ∷ []) in
    let y = length-answer a d (filled 0xbe i ∷ []) in
    let z = length-last i in
    omega (arith, x, y, z)

pub length-abort : (b : Bool) (i : List ℕ) → length (written_fields (abort_fields b i)) ≡ element_length 1 + information_length (length i)
length-abort b i =
    let x = length-append (written (0x80 ∷ []) (abort_source b ∷ [])) (written_fields (filled 0xbe i ∷ [])) in
    let y = length-written 0x80 (abort_source b ∷ []) in
    let z = length-last i in
    omega (arith, x, y, z)

pub length-held : (syntax : List ℕ) (tag : ℕ) (fs : List Field) → length syntax ≡ 7 → length (written_fields (must 0x06 syntax ∷ must 0xa0 (written (tag ∷ []) (written_fields fs)) ∷ [])) ≡ held_length (length (written_fields fs))
length-held syntax tag fs is =
    let pdu = written (tag ∷ []) (written_fields fs) in
    let x = length-append (written (0x06 ∷ []) syntax) (written (0xa0 ∷ []) pdu ++ []) in
    let y = length-written 0x06 syntax ∙ ap element_length is in
    let z = ap length (append-nil (written (0xa0 ∷ []) pdu)) ∙ (length-written 0xa0 pdu ∙ ap element_length (length-written tag (written_fields fs))) in
    omega (arith, x, y, z)

length-external : (syntax : List ℕ) (tag : ℕ) (fs : List Field) (n : ℕ) → length syntax ≡ 7 → length (written_fields fs) ≡ n → length (written_external syntax tag fs) ≡ external_length n
unfolding written_external
length-external syntax tag fs n is len =
    length-written 0x28 (written_fields (must 0x06 syntax ∷ must 0xa0 (written (tag ∷ []) (written_fields fs)) ∷ []))
    ∙ (ap element_length (length-held syntax tag fs is) ∙ ap external_length len)

pub length-dialogue : (p : PduValue) → length (written_dialogue p) ≡ portion_length p
unfolding written_dialogue portion_length
length-dialogue (aarq v c i) = length-external structured_syntax 0x60 (request_fields v c i) _ refl (length-request v c i)
length-dialogue (audt v c i) = length-external unstructured_syntax 0x60 (request_fields v c i) _ refl (length-request v c i)
length-dialogue (aare v c a d i) = length-external structured_syntax 0x61 (response_fields v c a d i) _ refl (length-response v c a d i)
length-dialogue (abrt b i) = length-external structured_syntax 0x64 (abort_fields b i) _ refl (length-abort b i)
length-dialogue (foreign e) = refl

-- ---- bounds

pub external_least : (n : ℕ) → n + 8 ≤ external_length n
external_least n =
    let a = element_length-least n in
    let b = element_length-least (element_length n) in
    let c = element_length-least (held_length n) in
    omega (arith, a, b, c)

pub external_most : (n : ℕ) → external_length n ≤ n + 32
external_most n =
    let a = element_length-most n in
    let b = element_length-most (element_length n) in
    let c = element_length-most (held_length n) in
    omega (arith, a, b, c)
