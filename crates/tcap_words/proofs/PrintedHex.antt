-- What the line of HEX that `canon` prints spells.
use Rattle.std.proofs.Common.{◌≡◌, ℕ, zero, suc, ◌/◌, ◌%◌, ◌<◌, ◌≤◌, List, [], ◌∷◌, length, slice_index, true, false, Ok, codes, inl, inr, refl, sym, ap, ◌∙◌, arith}
use Rattle.std.proofs.lemmas.Bool.{cases_lt, le-ltb}
use Rattle.std.proofs.lemmas.List.{append_cancel_right, get_or_past}
use Rattle.std.proofs.lemmas.List.Elements.{All-head, All-tail}
use Rattle.std.specs.List.{AllPass}
use Rattle.hex.specs.Hex.{is_hex_digit, lower_digits, encode_with, encode_lower, decode_of}
use Rattle.hex.proofs.HexLemmas.{decode_of-ok, decode_of-encode_lower, decode_of-same}
use Rattle.tcap_words.specs.declared.verdict.Verdict.TheVariants.{Good}
use Rattle.tcap_words.specs.Text.{line}
use Rattle.tcap_words.specs.Verdict.{verdict_of}
use Rattle.tcap_words.specs.Canonical.{canonical_of, canon_line, canon_text_of, IsHexLine}
use Rattle.tcap_words.proofs.CanonicalTwice.{text_twice}

abbrev IsDigit : ℕ → Type 0
IsDigit c = is_hex_digit c ≡ true

-- what stands past the digits is no digit
past : (k : ℕ) → 16 ≤ k → is_hex_digit (slice_index lower_digits k) ≡ false
past k le = ap is_hex_digit (get_or_past lower_digits k 0 le)

not_digit : true ≡ false → ⊥
not_digit e = absurd cc

-- a number that is written by two digits is an octet
octet : (b : ℕ) → IsDigit (slice_index lower_digits (b / 16)) → b < 256
octet b h = elim (cases_lt b 256) [
  | inl below ↦ below
  | inr above ↦ absurd (not_digit (sym h ∙ past (b / 16) (omega arith)))
]

octets : (form : List ℕ) → AllPass is_hex_digit (encode_with lower_digits form) → (i : ℕ) → slice_index form i < 256
unfolding encode_with
octets [] h i = omega arith
octets (b ∷ rest) h zero = octet b (All-head IsDigit (slice_index lower_digits (b / 16)) (slice_index lower_digits (b % 16) ∷ encode_with lower_digits rest) h)
octets (b ∷ rest) h (suc i) =
    let second = All-tail IsDigit (slice_index lower_digits (b / 16)) (slice_index lower_digits (b % 16) ∷ encode_with lower_digits rest) h in
    octets rest (All-tail IsDigit (slice_index lower_digits (b % 16)) (encode_with lower_digits rest) second) i

spelled_form : (form bytes hex : List ℕ) → line (encode_lower form) ≡ line hex → decode_of hex ≡ Ok bytes → bytes ≡ form
spelled_form form bytes hex e spelled =
    let same : encode_lower form ≡ hex = append_cancel_right (encode_lower form) hex (codes "\n") e in
    let read : decode_of (encode_lower form) ≡ Ok bytes = ap decode_of same ∙ spelled in
    let digits = decode_of-ok (encode_lower form) bytes read in
    decode_of-same (encode_lower form) bytes form read (decode_of-encode_lower form (octets form digits.1))

printed_line : (form : List ℕ) → length form ≤ 65535 → canon_line Good form ≡ line (encode_lower form)
printed_line form le = rw (le-ltb 65535 (length form) le) refl

pub printed_form : (bytes again : List ℕ) → verdict_of bytes ≡ Good → length (canonical_of bytes) ≤ 65535 → IsHexLine (canon_text_of bytes) again → again ≡ canonical_of bytes
printed_form bytes again good le h =
    let form = canonical_of bytes in
    let text : canon_text_of bytes ≡ line (encode_lower form) = ap (λ v. canon_line v form) good ∙ printed_line form le in
    spelled_form form again h.hex (sym text ∙ h.is_text) h.spelled

pub printed_twice : (bytes again : List ℕ) → verdict_of bytes ≡ Good → length (canonical_of bytes) ≤ 65535 → IsHexLine (canon_text_of bytes) again → (again ≡ canonical_of bytes) × (canon_text_of again ≡ canon_text_of bytes)
printed_twice bytes again good le h =
    let same = printed_form bytes again good le h in
    (same, ap canon_text_of same ∙ text_twice bytes good le)
