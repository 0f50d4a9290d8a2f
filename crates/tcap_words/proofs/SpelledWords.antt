-- Words that spell octets, and words that don't.
use Rattle.std.proofs.Common.{◌≡◌, ◌<◌, ℕ, List, [], ◌∷◌, length, slice_index, None, Result, Ok, Err, true, false, is_some, refl, ap, arith}
use Rattle.hex.specs.declared.error.FromHexError.{FromHexError}
use Rattle.hex.specs.Hex.{is_hex_digit}
use Rattle.hex.proofs.HexLemmas.{decode_of-ok, decode_of-digits}
use Rattle.tcap_words.specs.Spelling.{IsHex, octets_if_read, spelled_by}

-- what is read as no octets gives none
none_read : (read : Result (List ℕ) FromHexError) → ((octets : List ℕ) → read ≡ Ok octets → ⊥) → None ≡ octets_if_read read
none_read (Ok octets) denied = absurd (denied octets refl)
none_read (Err fault) denied = refl

-- a word that isn't hexadecimal spells no octets
pub unspelled : (hex : List ℕ) → (IsHex hex → ⊥) → None ≡ spelled_by hex
unspelled hex denied = none_read _ (λ octets read. let digits = decode_of-ok hex octets read in denied (digits.0, digits.1))

-- hexadecimal spells octets
pub spelled : (hex : List ℕ) → IsHex hex → is_some (spelled_by hex) ≡ true
spelled hex is = let digits = decode_of-digits hex is.0 is.1 in ap (λ read. is_some (octets_if_read read)) digits.1

-- a word that doesn't begin with a digit spells no octets
pub not_begun : (hex : List ℕ) → 0 < length hex → is_hex_digit (slice_index hex 0) ≡ false → None ≡ spelled_by hex
not_begun [] some first = absurd (omega arith)
not_begun (x ∷ xs) some first = unspelled (x ∷ xs) (λ is. let digit = is.1 0 0 (omega arith) in cc)
