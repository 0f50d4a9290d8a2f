-- An element with a tag and a length of one octet each, read at once.
use Rattle.std.proofs.Common.{◌≡◌, ◌≢◌, ℕ, ◌+◌, ◌-◌, ◌<◌, ◌≤◌, false, eqb, bit_and, List, [], ◌∷◌, length, get_or, take, drop, Some, Ok, refl, subst, ◌∙◌, arith, eq-eqb}
use Rattle.std.proofs.lemmas.Bool.{lt-ltb, ne_eqb}
use Rattle.std.proofs.lemmas.List.{length-drop, take_all}
use Rattle.ber_core.specs.Tag.{is_constructor}
use Rattle.ber_core.specs.HeadReading.{tag_at, length_at, head_at}
use Rattle.ber_core.specs.ElementReading.{parts_of, element_at}
use Rattle.ber_core.specs.SequenceReading.{tagged}
use Rattle.ber_core.proofs.Contents.{after_at-body, body_at-definite}

module _ (first len : ℕ) (body : List ℕ) (nonzero : first ≢ 0) (low : eqb (bit_and first 31) 31 ≡ false) (short : len < 128) (within : len ≤ length body) where
  pub head_is : head_at (first ∷ len ∷ body) ≡ Ok (first ∷ [], is_constructor (first ∷ []), Some len, body)
  unfolding head_at tag_at length_at
  head_is = rw (ne_eqb first 0 nonzero, low, ne_eqb len 128 (λ e. omega (arith, short, e)), ne_eqb len 255 (λ e. omega (arith, short, e)), lt-ltb len 128 short) refl

  pub plain : element_at 32 (first ∷ len ∷ body) ≡ Ok (parts_of (first ∷ len ∷ body) (first ∷ [], is_constructor (first ∷ []), Some len, body) (drop len body), drop len body)
  unfolding element_at
  plain = rw (head_is, after_at-body 32 (first ∷ len ∷ body) _ head_is ∙ body_at-definite 32 len (Some len) body refl within) refl

pub plain_read : (bytes tag content whole rest : List ℕ) → 2 ≤ length bytes → get_or bytes 0 0 ≢ 0 → eqb (bit_and (get_or bytes 0 0) 31) 31 ≡ false → get_or bytes 1 0 < 128 → get_or bytes 1 0 ≤ length (drop 2 bytes) → tag ≡ take 1 bytes → content ≡ take (get_or bytes 1 0) (drop 2 bytes) → rest ≡ drop (get_or bytes 1 0) (drop 2 bytes) → whole ≡ take (2 + get_or bytes 1 0) bytes → element_at 32 bytes ≡ Ok (record { tag = tag; content = content; whole = whole }, rest)
plain_read [] tag content whole rest two nonzero low short within t c r w = absurd (omega arith)
plain_read (b ∷ []) tag content whole rest two nonzero low short within t c r w = absurd (omega arith)
plain_read (first ∷ len ∷ body) tag content whole rest two nonzero low short within t c r w =
    let n : 2 + len ≡ length (first ∷ len ∷ body) - length (drop len body) = omega (arith, within, length-drop len body) in
    rw (t, c, r, w) (plain first len body nonzero low short within ∙ rw n refl)

pub body_is : (bytes : List ℕ) → take (length bytes - 2) (drop 2 bytes) ≡ drop 2 bytes
body_is bytes = take_all _ (drop 2 bytes) (omega (arith, length-drop 2 bytes))

pub plain_in : (bytes body tag content whole rest : List ℕ) → body ≡ drop 2 bytes → 2 ≤ length bytes → get_or bytes 0 0 ≢ 0 → eqb (bit_and (get_or bytes 0 0) 31) 31 ≡ false → get_or bytes 1 0 < 128 → get_or bytes 1 0 ≤ length body → tag ≡ take 1 bytes → content ≡ take (get_or bytes 1 0) body → rest ≡ drop (get_or bytes 1 0) body → whole ≡ take (2 + get_or bytes 1 0) bytes → element_at 32 bytes ≡ Ok (record { tag = tag; content = content; whole = whole }, rest)
plain_in bytes body tag content whole rest is two nonzero low short within t c r w =
    plain_read bytes tag content whole rest two nonzero low short (subst (λ (x : List ℕ). get_or bytes 1 0 ≤ length x) is within) t (subst (λ (x : List ℕ). content ≡ take (get_or bytes 1 0) x) is c) (subst (λ (x : List ℕ). rest ≡ drop (get_or bytes 1 0) x) is r) w

tagged_octet : (tag octet : ℕ) (rest : List ℕ) → tag ≢ 0 → eqb (bit_and tag 31) 31 ≡ false → tagged tag (tag ∷ 1 ∷ octet ∷ rest) ≡ (Some (octet ∷ []), rest)
unfolding tagged
tagged_octet tag octet rest nonzero low =
    rw (plain tag 1 (octet ∷ rest) nonzero low (omega arith) (omega arith), eq-eqb tag tag refl) refl

pub tagged_one : (tag : ℕ) (bytes rest : List ℕ) → tag ≢ 0 → eqb (bit_and tag 31) 31 ≡ false → 3 ≤ length bytes → get_or bytes 0 0 ≡ tag → get_or bytes 1 0 ≡ 1 → rest ≡ drop 3 bytes → tagged tag bytes ≡ (Some (get_or bytes 2 0 ∷ []), rest)
tagged_one tag [] rest nonzero low three first one r = absurd (omega arith)
tagged_one tag (a ∷ []) rest nonzero low three first one r = absurd (omega arith)
tagged_one tag (a ∷ b ∷ []) rest nonzero low three first one r = absurd (omega arith)
tagged_one tag (a ∷ b ∷ octet ∷ more) rest nonzero low three first one r = rw (r, first, one) (tagged_octet tag octet more nonzero low)
