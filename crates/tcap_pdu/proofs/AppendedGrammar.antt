-- What is appended part by part is the written PDU.
use Rattle.std.proofs.Common.{◌≡◌, ℕ, ◌+◌, ◌≤◌, Bool, List, [], ◌∷◌, ◌++◌, length, refl, sym, ap, ◌∙◌, arith, append_assoc, append-nil, length-append}
use Rattle.ber_core.specs.Sequence.{Field}
use Rattle.ber_core.specs.Sequence.Field.{must, filled}
use Rattle.ber_core.specs.Written.{written, written_head, written_field, written_fields}
use Rattle.ber_core.specs.WrittenLength.{element_length}
use Rattle.ber_core.proofs.CallerLemmas.{length-written}
use Rattle.tcap_pdu.specs.DialogueSpelling.{Source, abort_source}
use Rattle.tcap_pdu.specs.DialogueWritten.{opening_fields, request_fields, result_field, diagnostic_field, response_fields, abort_fields, written_external}
use Rattle.tcap_pdu.specs.DialogueDue.{information_length, opening_length, answer_length, held_length, external_front}
use Rattle.tcap_pdu.proofs.DialogueLength.{length-held, length-request, length-response, length-abort}

written_fields-append : (fs gs : List Field) → written_fields (fs ++ gs) ≡ written_fields fs ++ written_fields gs
written_fields-append [] gs = refl
written_fields-append (f ∷ fs) gs = ap (λ (w : List ℕ). written_field f ++ w) (written_fields-append fs gs) ∙ sym (append_assoc (written_field f) (written_fields fs) (written_fields gs))

heads : (a s b t f : List ℕ) → (a ++ (s ++ (b ++ t))) ++ f ≡ a ++ (s ++ ((b ++ (t ++ f)) ++ []))
heads a s b t f =
    append_assoc a (s ++ (b ++ t)) f
    ∙ ap (λ (w : List ℕ). a ++ w) (append_assoc s (b ++ t) f
    ∙ ap (λ (w : List ℕ). s ++ w) (append_assoc b t f ∙ sym (append-nil (b ++ (t ++ f)))))

front-is : (syntax : List ℕ) (tag : ℕ) (fs : List Field) → length syntax ≡ 7 → external_front syntax tag (length (written_fields fs)) ++ written_fields fs ≡ written_external syntax tag fs
unfolding written_external external_front
front-is syntax tag fs is =
    let f = written_fields fs in
    let s = written (0x06 ∷ []) syntax in
    let t = written_head (tag ∷ []) (length f) in
    let held = written_fields (must 0x06 syntax ∷ must 0xa0 (written (tag ∷ []) f) ∷ []) in
    ap (λ (n : ℕ). (written_head (0x28 ∷ []) n ++ (s ++ (written_head (0xa0 ∷ []) (element_length (length f)) ++ t))) ++ f) (sym (length-held syntax tag fs is))
    ∙ (ap (λ (n : ℕ). (written_head (0x28 ∷ []) (length held) ++ (s ++ (written_head (0xa0 ∷ []) n ++ t))) ++ f) (sym (length-written tag f))
    ∙ heads (written_head (0x28 ∷ []) (length held)) s (written_head (0xa0 ∷ []) (length (written (tag ∷ []) f))) t f)

-- behind a front, contents of the length that it tells
behind : (old syntax contents : List ℕ) (tag n : ℕ) (fs : List Field) → length syntax ≡ 7 → length (written_fields fs) ≡ n → contents ≡ written_fields fs → old ++ (external_front syntax tag n ++ contents) ≡ old ++ written_external syntax tag fs
behind old syntax contents tag n fs is len same =
    ap (λ (w : List ℕ). old ++ (external_front syntax tag n ++ w)) same
    ∙ (ap (λ (m : ℕ). old ++ (external_front syntax tag m ++ written_fields fs)) (sym len)
    ∙ ap (λ (w : List ℕ). old ++ w) (front-is syntax tag fs is))

two : (a b c d : List ℕ) → ((a ++ b) ++ c) ++ d ≡ a ++ (b ++ (c ++ d))
two a b c d = append_assoc (a ++ b) c d ∙ append_assoc a b (c ++ d)

four : (a b c d e f : List ℕ) → ((((a ++ b) ++ c) ++ d) ++ e) ++ f ≡ a ++ (b ++ (c ++ (d ++ (e ++ f))))
four a b c d e f = append_assoc (((a ++ b) ++ c) ++ d) e f ∙ two (a ++ b) c d (e ++ f) ∙ append_assoc a b (c ++ (d ++ (e ++ f)))

-- a front, head by head
pub front-appended : (old syntax : List ℕ) (tag n held within : ℕ) → held ≡ held_length n → within ≡ element_length n → (((old ++ written_head (0x28 ∷ []) held) ++ written (0x06 ∷ []) syntax) ++ written_head (0xa0 ∷ []) within) ++ written_head (tag ∷ []) n ≡ old ++ external_front syntax tag n
unfolding external_front
front-appended old syntax tag n held within is same =
    let a = written_head (0x28 ∷ []) held in
    let s = written (0x06 ∷ []) syntax in
    let b = written_head (0xa0 ∷ []) within in
    let t = written_head (tag ∷ []) n in
    two (old ++ a) s b t
    ∙ (append_assoc old a (s ++ (b ++ t))
    ∙ (ap (λ (m : ℕ). old ++ (written_head (0x28 ∷ []) m ++ (s ++ (b ++ t)))) is
    ∙ ap (λ (m : ℕ). old ++ (written_head (0x28 ∷ []) (held_length n) ++ (s ++ (written_head (0xa0 ∷ []) m ++ t)))) same))

pub request-appended : (old syntax : List ℕ) (tag n : ℕ) (v : Bool) (c i : List ℕ) → length syntax ≡ 7 → n ≡ opening_length (length c) + information_length (length i) → ((old ++ external_front syntax tag n) ++ written_fields (opening_fields v c [])) ++ written_fields (filled 0xbe i ∷ []) ≡ old ++ written_external syntax tag (request_fields v c i)
request-appended old syntax tag n v c i is len =
    two old (external_front syntax tag n) (written_fields (opening_fields v c [])) (written_fields (filled 0xbe i ∷ []))
    ∙ behind old syntax (written_fields (opening_fields v c []) ++ written_fields (filled 0xbe i ∷ [])) tag n (request_fields v c i) is (length-request v c i ∙ sym len) (sym (written_fields-append (opening_fields v c []) (filled 0xbe i ∷ [])))

pub response-appended : (old syntax : List ℕ) (tag n : ℕ) (v : Bool) (c : List ℕ) (a : Bool) (d : Source) (i : List ℕ) → length syntax ≡ 7 → n ≡ opening_length (length c) + answer_length + information_length (length i) → ((((old ++ external_front syntax tag n) ++ written_fields (opening_fields v c [])) ++ written_field (result_field a)) ++ written_field (diagnostic_field d)) ++ written_fields (filled 0xbe i ∷ []) ≡ old ++ written_external syntax tag (response_fields v c a d i)
response-appended old syntax tag n v c a d i is len =
    four old (external_front syntax tag n) (written_fields (opening_fields v c [])) (written_field (result_field a)) (written_field (diagnostic_field d)) (written_fields (filled 0xbe i ∷ []))
    ∙ behind old syntax (written_fields (opening_fields v c []) ++ written_fields (result_field a ∷ diagnostic_field d ∷ filled 0xbe i ∷ [])) tag n (response_fields v c a d i) is (length-response v c a d i ∙ sym len) (sym (written_fields-append (opening_fields v c []) (result_field a ∷ diagnostic_field d ∷ filled 0xbe i ∷ [])))

pub abort-appended : (old syntax : List ℕ) (tag n : ℕ) (b : Bool) (i : List ℕ) → length syntax ≡ 7 → n ≡ element_length 1 + information_length (length i) → ((old ++ external_front syntax tag n) ++ written (0x80 ∷ []) (abort_source b ∷ [])) ++ written_fields (filled 0xbe i ∷ []) ≡ old ++ written_external syntax tag (abort_fields b i)
abort-appended old syntax tag n b i is len =
    two old (external_front syntax tag n) (written (0x80 ∷ []) (abort_source b ∷ [])) (written_fields (filled 0xbe i ∷ []))
    ∙ behind old syntax (written_fields (abort_fields b i)) tag n (abort_fields b i) is (length-abort b i ∙ sym len) refl

-- ---- the room that each part wants

pub length-three : (a b c whole : List ℕ) → (a ++ b) ++ c ≡ whole → length a + length b + length c ≡ length whole
length-three a b c whole e =
    let x = length-append (a ++ b) c in
    let y = length-append a b in
    let z = ap length e in
    omega (arith, x, y, z)

length-four : (a b c d whole : List ℕ) → ((a ++ b) ++ c) ++ d ≡ whole → length a + length b + length c + length d ≡ length whole
length-four a b c d whole e =
    let x = length-append ((a ++ b) ++ c) d in
    let y = length-three a b c ((a ++ b) ++ c) refl in
    let z = ap length e in
    omega (arith, x, y, z)

length-five : (a b c d e whole : List ℕ) → (((a ++ b) ++ c) ++ d) ++ e ≡ whole → length a + length b + length c + length d + length e ≡ length whole
length-five a b c d e whole is =
    let x = length-append (((a ++ b) ++ c) ++ d) e in
    let y = length-append ((a ++ b) ++ c) d in
    let z = length-three a b c ((a ++ b) ++ c) refl in
    let w = ap length is in
    omega (arith, x, y, z, w)

-- what is left of the room behind a part
pub room-behind : (old part new : List ℕ) (rest cap cap' : ℕ) → new ≡ old ++ part → length old + length part + rest ≤ cap → cap ≤ cap' → length new + rest ≤ cap'
room-behind old part new rest cap cap' is room grows =
    let x = ap length is in
    let y = length-append old part in
    omega (arith, x, y, room, grows)

pub front-length : (syntax : List ℕ) (tag n held within : ℕ) → held ≡ held_length n → within ≡ element_length n → length (written_head (0x28 ∷ []) held) + length (written (0x06 ∷ []) syntax) + length (written_head (0xa0 ∷ []) within) + length (written_head (tag ∷ []) n) ≡ length (external_front syntax tag n)
front-length syntax tag n held within is same =
    length-four (written_head (0x28 ∷ []) held) (written (0x06 ∷ []) syntax) (written_head (0xa0 ∷ []) within) (written_head (tag ∷ []) n) (external_front syntax tag n) (front-appended [] syntax tag n held within is same)

pub request-length : (syntax : List ℕ) (tag n : ℕ) (v : Bool) (c i : List ℕ) → length syntax ≡ 7 → n ≡ opening_length (length c) + information_length (length i) → length (external_front syntax tag n) + length (written_fields (opening_fields v c [])) + length (written_fields (filled 0xbe i ∷ [])) ≡ length (written_external syntax tag (request_fields v c i))
request-length syntax tag n v c i is len =
    length-three (external_front syntax tag n) (written_fields (opening_fields v c [])) (written_fields (filled 0xbe i ∷ [])) (written_external syntax tag (request_fields v c i)) (request-appended [] syntax tag n v c i is len)

pub response-length : (syntax : List ℕ) (tag n : ℕ) (v : Bool) (c : List ℕ) (a : Bool) (d : Source) (i : List ℕ) → length syntax ≡ 7 → n ≡ opening_length (length c) + answer_length + information_length (length i) → length (external_front syntax tag n) + length (written_fields (opening_fields v c [])) + length (written_field (result_field a)) + length (written_field (diagnostic_field d)) + length (written_fields (filled 0xbe i ∷ [])) ≡ length (written_external syntax tag (response_fields v c a d i))
response-length syntax tag n v c a d i is len =
    length-five (external_front syntax tag n) (written_fields (opening_fields v c [])) (written_field (result_field a)) (written_field (diagnostic_field d)) (written_fields (filled 0xbe i ∷ [])) (written_external syntax tag (response_fields v c a d i)) (response-appended [] syntax tag n v c a d i is len)

pub abort-length : (syntax : List ℕ) (tag n : ℕ) (b : Bool) (i : List ℕ) → length syntax ≡ 7 → n ≡ element_length 1 + information_length (length i) → length (external_front syntax tag n) + length (written (0x80 ∷ []) (abort_source b ∷ [])) + length (written_fields (filled 0xbe i ∷ [])) ≡ length (written_external syntax tag (abort_fields b i))
abort-length syntax tag n b i is len =
    length-three (external_front syntax tag n) (written (0x80 ∷ []) (abort_source b ∷ [])) (written_fields (filled 0xbe i ∷ [])) (written_external syntax tag (abort_fields b i)) (abort-appended [] syntax tag n b i is len)
