-- What the tests of a word say.
use Rattle.std.proofs.Common.{◌≡◌, ◌*◌, ◌<◌, ◌&&◌, ◌↔◌, ℕ, ℤ, nat_le, Bool, true, false, not, List, [], ◌∷◌, length, codes, bytes_eq, Option, Some, None, Result, Ok, Err, is_some, is_ok, refl, sym, ap, ◌∙◌, arith, IsTrue, subst, option_and_then, pos, neg_ℤ, zero, suc, ◌-◌, ◌==◌, if◌then◌else◌}
use Rattle.std.specs.List.{AllPass, find, list_all}
use Rattle.std.specs.Str.{IsAscii, IsUtf8}
use Rattle.std.specs.Char.{is_ascii_graphic}
use Rattle.std.proofs.lemmas.List.Sums.{AllPass-from_list_all, list_all-from_AllPass}
use Rattle.std.proofs.lemmas.Str.{IsUtf8-from_ascii}
use Rattle.object_identifiers.specs.Contents.{contents_at}
use Rattle.object_identifiers.specs.TextReading.{arcs_at, arcs_from, character_after, digit_after, with_arc}
use Rattle.object_identifiers.specs.declared.fault.ObjectIdentifierFault.{ObjectIdentifierFault}
use Rattle.object_identifiers.specs.declared.fault.ObjectIdentifierFault.TheVariants.{NotANumber}
use Rattle.ber_core.specs.Results.{◌>>=◌}
use Rattle.hex.specs.declared.error.FromHexError.{FromHexError}
use Rattle.hex.specs.Hex.{decode_of}
use Rattle.std.specs.Prelude.{int_le}
use Rattle.tcap_play.specs.Numbers.{between, number_between, signed_number}
use Rattle.tcap_play.specs.ScriptWords.{address_if}
use Rattle.hex.proofs.HexLemmas.{decode_of-digits, decode_of-ok}
use Rattle.tcap_words.specs.Spelling.{IsHex, octets_if_read, spelled_by}
use Rattle.tcap_words.proofs.CallerLemmas.{unspelled}
use Rattle.tcap_lines.specs.Fits.{is_address, is_dotted, is_octets}

abbrev some_octets : List ℕ → Option (List ℕ)
some_octets octets = Some octets

-- the first octet that is no visible character
abbrev pub first_unwritten : List ℕ → Option ℕ
first_unwritten word = find (λ c. not (is_ascii_graphic c)) word

-- a test of all is what it says
pub all_is : (p : ℕ → Bool) (xs : List ℕ) (b : Bool) → (IsTrue b ↔ AllPass p xs) → b ≡ list_all p xs
all_is p xs b both = go b (list_all p xs) refl refl both where
  go : (b c : Bool) → b ≡ b → list_all p xs ≡ c → (IsTrue b ↔ AllPass p xs) → b ≡ c
  go true true e is both = refl
  go false false e is both = refl
  go true false e is both = sym (list_all-from_AllPass p xs (both.0 refl)) ∙ is
  go false true e is both = both.1 (AllPass-from_list_all p xs is)

abbrev Later : List ℕ → Type 0
Later text = (arcs : List ℕ) (number : Option ℕ) → is_ok (arcs_from arcs number text) ≡ true → IsAscii text

-- an octet of ASCII before octets of ASCII
onto : (c : ℕ) (text : List ℕ) → c < 128 → IsAscii text → IsAscii (c ∷ text)
onto c text low is zero = low
onto c text low is (suc i) = is i

-- behind an arc
behind_arc : (text : List ℕ) (arcs : Result (List ℕ) ObjectIdentifierFault) → Later text → is_ok (arcs >>= (λ more. arcs_from more None text)) ≡ true → IsAscii text
behind_arc text (Ok more) later ok = later more None ok
behind_arc text (Err fault) later ok = absurd cc

-- behind a digit
behind_digit : (arcs : List ℕ) (text : List ℕ) (number : Result ℕ ObjectIdentifierFault) → Later text → is_ok (number >>= (λ n. arcs_from arcs (Some n) text)) ≡ true → IsAscii text
behind_digit arcs text (Ok n) later ok = later arcs (Some n) ok
behind_digit arcs text (Err fault) later ok = absurd cc

first_low : (arcs : List ℕ) (text : List ℕ) (c : ℕ) (number : Result ℕ ObjectIdentifierFault) → is_ok (number >>= (λ n. arcs_from arcs (Some n) text)) ≡ true → is_ok number ≡ true
first_low arcs text c (Ok n) ok = refl
first_low arcs text c (Err fault) ok = ok

-- what has arcs is ASCII
arcs-ascii : (text : List ℕ) → Later text
unfolding arcs_from
arcs-ascii [] arcs number ok = λ i. omega arith
arcs-ascii (c ∷ text) arcs number ok = go (c == 46) refl (arcs-ascii text) ok where
  low : (b : Bool) → (nat_le 48 c && nat_le c 57) ≡ b → is_ok (if b then digit_after number (c - 48) else Err NotANumber) ≡ true → c < 128
  low true is ok = grind (arith, is)
  low false is ok = absurd cc

  go : (b : Bool) → (c == 46) ≡ b → Later text
      → is_ok (if b then (with_arc arcs number >>= (λ more. arcs_from more None text)) else (character_after number c >>= (λ n. arcs_from arcs (Some n) text))) ≡ true
      → IsAscii (c ∷ text)
  go true dot later ok = onto c text (grind (arith, dot)) (behind_arc text (with_arc arcs number) later ok)
  go false other later ok =
      let digit = first_low arcs text c (character_after number c) ok in
      onto c text (low (nat_le 48 c && nat_le c 57) refl digit) (behind_digit arcs text (character_after number c) later ok)

-- octets that are no text are no object identifier in dotted form
pub undotted : (word : List ℕ) → (IsUtf8 word → ⊥) → is_dotted word ≡ false
undotted word denied = go (arcs_at word) refl where
  go : (arcs : Result (List ℕ) ObjectIdentifierFault) → arcs_at word ≡ arcs → is_ok (arcs >>= contents_at) ≡ false
  go (Err fault) is = refl
  go (Ok arcs) is = absurd (denied (IsUtf8-from_ascii word (arcs-ascii word [] None (ap is_ok is))))

-- ---- hexadecimal

abbrev spelled_ok : Result (List ℕ) FromHexError → Bool
spelled_ok read = is_some (octets_if_read read)

-- a word spells octets exactly where it is hexadecimal
pub hex_is : (hex : List ℕ) (b : Bool) → (IsTrue b ↔ IsHex hex) → b ≡ is_some (spelled_by hex)
hex_is hex true both = let is = both.0 refl in let digits = decode_of-digits hex is.0 is.1 in sym (ap spelled_ok digits.1)
hex_is hex false both = ap is_some (unspelled hex (λ is. let yes = both.1 is in cc))

-- a word that spells octets is twice as long
spells : (hex octets : List ℕ) → spelled_by hex ≡ some_octets octets → length hex ≡ 2 * length octets
spells hex octets e = go (decode_of hex) refl e where
  go : (read : Result (List ℕ) FromHexError) → decode_of hex ≡ read → octets_if_read read ≡ some_octets octets → length hex ≡ 2 * length octets
  go (Ok found) is e = let same : found ≡ octets = grind (arith, e) in subst (λ o. length hex ≡ 2 * length o) same (decode_of-ok hex found is).2
  go (Err fault) is e = absurd cc

-- nothing stands behind `-`
by_dash : (digit : ℕ) (digits : List ℕ) → bytes_eq (digit ∷ digits) (codes "-") ≡ true → length digits ≡ 0
by_dash digit [] e = refl
by_dash digit (x ∷ xs) e = grind (arith, e)

-- a word names an address where it spells octets, or is `-`, and is no longer than 510 characters
pub address_is : (word : List ℕ) → (is_octets word && nat_le (length word) 510) ≡ is_address word
address_is [] = refl
address_is (digit ∷ digits) = go (bytes_eq (digit ∷ digits) (codes "-")) refl where
  one : length digits ≡ 0 → (true && nat_le (length (digit ∷ digits)) 510) ≡ true
  one e = grind (arith, e)

  near : (octets : List ℕ) → length (digit ∷ digits) ≡ 2 * length octets → (b : Bool) → nat_le (length octets) 255 ≡ b → nat_le (length (digit ∷ digits)) 510 ≡ is_some (if b then some_octets octets else None)
  near octets long true is = grind (arith, long, is)
  near octets long false is = grind (arith, long, is)

  named : (octets : Option (List ℕ)) → spelled_by (digit ∷ digits) ≡ octets → (is_some octets && nat_le (length (digit ∷ digits)) 510) ≡ is_some (option_and_then address_if octets)
  named None e = refl
  named (Some octets) e = let long = spells (digit ∷ digits) octets e in near octets long (nat_le (length octets) 255) refl

  go : (b : Bool) → bytes_eq (digit ∷ digits) (codes "-") ≡ b
      → (is_some (if b then some_octets [] else spelled_by (digit ∷ digits)) && nat_le (length (digit ∷ digits)) 510) ≡ is_some (option_and_then address_if (if b then some_octets [] else spelled_by (digit ∷ digits)))
  go true e = one (by_dash digit digits e)
  go false e = named (spelled_by (digit ∷ digits)) refl

-- ---- numbers that may be below zero

abbrev lowest : ℤ
lowest = neg_ℤ (pos 2147483648)

abbrev highest : ℤ
highest = pos 2147483647

abbrev some_number : ℤ → Option ℤ
some_number n = Some n

if_some : (b : Bool) (n : ℤ) → b ≡ is_some (if b then some_number n else None)
if_some true n = refl
if_some false n = refl

-- a number that was read is in a narrower range exactly where the word is a number of that range
pub signed_some : (least most n : ℤ) (word : List ℕ) → some_number n ≡ number_between lowest highest word → (int_le least n && int_le n most) ≡ is_some (number_between least most word)
signed_some least most n word is = go (signed_number word) is where
  there : (z : ℤ) (b : Bool) → (int_le lowest z && int_le z highest) ≡ b → some_number n ≡ (if b then some_number z else None) → (int_le least n && int_le n most) ≡ is_some (between least most z)
  there z true h e = let same : n ≡ z = grind (arith, e) in rw same (if_some (int_le least z && int_le z most) z)
  there z false h e = absurd cc

  go : (m : Option ℤ) → some_number n ≡ option_and_then (between lowest highest) m → (int_le least n && int_le n most) ≡ is_some (option_and_then (between least most) m)
  go None e = absurd cc
  go (Some z) e = there z (int_le lowest z && int_le z highest) refl e

-- a word that is no number of 32 bits is none of a narrower range
pub signed_none : (least most : ℤ) (word : List ℕ) → int_le lowest least ≡ true → int_le most highest ≡ true → None ≡ number_between lowest highest word → false ≡ is_some (number_between least most word)
signed_none least most word low high is = go (signed_number word) is where
  out : (z : ℤ) (b c : Bool) → (int_le lowest z && int_le z highest) ≡ b → (int_le least z && int_le z most) ≡ c → None ≡ (if b then some_number z else None) → false ≡ is_some (if c then some_number z else None)
  out z true c h i e = absurd cc
  out z false true h i e = grind (arith, h, i, low, high)
  out z false false h i e = refl

  go : (m : Option ℤ) → None ≡ option_and_then (between lowest highest) m → false ≡ is_some (option_and_then (between least most) m)
  go None e = refl
  go (Some z) e = out z (int_le lowest z && int_le z highest) (int_le least z && int_le z most) refl refl e
