-- What an octet makes of what reading gives: the length and the content.
use Rattle.std.proofs.Common.{◌≡◌, ◌≢◌, ℕ, zero, suc, ◌+◌, ◌-◌, ◌*◌, ◌<◌, ◌≤◌, Bool, true, false, cond, ltb, List, [], ◌∷◌, ◌++◌, length, take, drop, Option, Some, None, Ok, Err, Result, refl, sym, ap, ◌∙◌, inl, inr, arith}
use Rattle.std.proofs.lemmas.Bool.{cases_lt, lt-ltb, le-ltb, ne_eqb}
use Rattle.ber_core.specs.declared.fault.BerFault.{BerFault}
use Rattle.ber_core.specs.declared.fault.BerFault.TheVariants.{Short, BadLength, IndefinitePrimitive}
use Rattle.ber_core.specs.Results.{◌>>=◌}
use Rattle.ber_core.specs.Length.{number_after}
use Rattle.ber_core.specs.HeadReading.{length_at}
use Rattle.ber_core.specs.ElementReading.{skip_at}
use Rattle.ber_core.specs.Scanning.{outer_at, at_tag, at_body, at_length, long_at, at_long}
use Rattle.ber_core.proofs.ResultSteps.{read, refused}
use Rattle.ber_core.proofs.Contents.{inner_at-some}
use Rattle.ber_core.proofs.Octets.{number_after-ge}

abbrev Length : Type 0
Length = Result (Option ℕ × List ℕ) BerFault

-- ---- the first octet

pub length-primitive : (c : Bool) (n b : ℕ) (rest : List ℕ) → b ≡ 128 → c ≡ false → at_length c n (b ∷ rest) ≡ Err IndefinitePrimitive
unfolding length_at
length-primitive c n b rest e f = rw (e, f) refl

pub length-indefinite : (c : Bool) (n b : ℕ) (rest : List ℕ) → b ≡ 128 → c ≡ true → at_length c n (b ∷ rest) ≡ at_body n (None, rest)
unfolding length_at
length-indefinite c n b rest e f = rw (e, f) refl

pub length-reserved : (c : Bool) (n b : ℕ) (rest : List ℕ) → b ≡ 255 → at_length c n (b ∷ rest) ≡ Err BadLength
unfolding length_at
length-reserved c n b rest e = rw e refl

pub length-short_form : (c : Bool) (n b : ℕ) (rest : List ℕ) → b < 128 → at_length c n (b ∷ rest) ≡ at_body n (Some b, rest)
unfolding length_at
length-short_form c n b rest h = rw (ne_eqb b 128 (λ e. absurd (omega arith)), ne_eqb b 255 (λ e. absurd (omega arith)), lt-ltb b 128 h) refl

abbrev sized : List ℕ → ℕ → Length
sized rest k = Ok (Some k, rest)

number-cond : (t : Bool) (m : ℕ) (rest : List ℕ) → (cond t (refused BadLength) (read m) >>= sized rest) ≡ cond t (refused BadLength) (sized rest m)
number-cond true m rest = refl
number-cond false m rest = refl

pub length-long_form : (c : Bool) (n b : ℕ) (rest : List ℕ) → b ≢ 128 → b ≢ 255 → 128 ≤ b → at_length c n (b ∷ rest) ≡ at_long n (b - 128) 0 rest
unfolding length_at
length-long_form c n b rest h i high =
    rw (ne_eqb b 128 h, ne_eqb b 255 i, le-ltb b 128 high)
    (ap (λ (w : Length). cond (ltb (length rest) (b - 128)) (Err Short) w >>= at_body n) (number-cond (ltb 65535 (number_after 0 (take (b - 128) rest))) (number_after 0 (take (b - 128) rest)) (drop (b - 128) rest)))

-- ---- behind a length

pub body-nested : (n : ℕ) (rest : List ℕ) → n < 32 → at_tag (n + 1) rest ≡ at_body n (None, rest)
unfolding outer_at
body-nested n rest h =
    let e : n + 1 ≡ suc n = omega arith in
    let d : 32 - n - 1 ≡ 32 - suc n = omega arith in
    rw (e, inner_at-some (32 - n) rest (omega arith), d) refl

-- ---- a long length

pub long-more : (n left value b : ℕ) (rest : List ℕ) → 1 < left → at_long n left value (b ∷ rest) ≡ at_long n (left - 1) (value * 256 + b) rest
unfolding number_after
long-more n zero value b rest h = absurd (omega arith)
long-more n (suc left) value b rest h =
    let e : suc left - 1 ≡ left = omega arith in
    elim (cases_lt (length rest) left) [
      | inl lt ↦ rw (e, lt-ltb (length rest) left lt, lt-ltb (length (b ∷ rest)) (suc left) (omega arith)) refl
      | inr le ↦ rw (e, le-ltb (length rest) left le, le-ltb (length (b ∷ rest)) (suc left) (omega arith)) refl
    ]

above : (left value : ℕ) (rest : List ℕ) → 65535 < value → long_at left value rest ≡ cond (ltb (length rest) left) (Err Short) (Err BadLength)
above left value rest h =
    let large : 65535 < number_after value (take left rest) = omega (arith, number_after-ge value (take left rest)) in
    rw (lt-ltb 65535 (number_after value (take left rest)) large) refl

-- all numbers above the limit are one
pub long-above : (n left value : ℕ) (rest : List ℕ) → 65535 < value → at_long n left value rest ≡ at_long n left 65536 rest
long-above n left value rest h = ap (λ (w : Length). w >>= at_body n) (above left value rest h ∙ sym (above left 65536 rest (omega arith)))

pub long-spent : (n left value b : ℕ) (rest : List ℕ) → left ≡ 1 → 65535 < value * 256 + b → at_long n left value (b ∷ rest) ≡ Err BadLength
unfolding number_after
long-spent n left value b rest e h = rw (e, le-ltb (length (b ∷ rest)) 1 (omega arith), lt-ltb 65535 (value * 256 + b) h) refl

pub long-last : (n left value b : ℕ) (rest : List ℕ) → left ≡ 1 → value * 256 + b ≤ 65535 → at_long n left value (b ∷ rest) ≡ at_body n (Some (value * 256 + b), rest)
unfolding number_after
long-last n left value b rest e h = rw (e, le-ltb (length (b ∷ rest)) 1 (omega arith), le-ltb 65535 (value * 256 + b) h) refl

-- ---- a content

-- so many octets of it are passed over
pub skip-passed : (n : ℕ) (octets rest : List ℕ) → length octets ≤ n → skip_at (octets ++ rest) n ≡ skip_at rest (n - length octets)
skip-passed n [] rest h = let e : n - 0 ≡ n = omega arith in rw e refl
skip-passed zero (b ∷ octets) rest h = absurd (omega arith)
skip-passed (suc n) (b ∷ octets) rest h =
    let e : suc n - suc (length octets) ≡ n - length octets = omega arith in
    elim (cases_lt (length (octets ++ rest)) n) [
      | inl lt ↦ rw (e, ← skip-passed n octets rest (omega arith), lt-ltb (length (octets ++ rest)) n lt, lt-ltb (length (b ∷ (octets ++ rest))) (suc n) (omega arith)) refl
      | inr le ↦ rw (e, ← skip-passed n octets rest (omega arith), le-ltb (length (octets ++ rest)) n le, le-ltb (length (b ∷ (octets ++ rest))) (suc n) (omega arith)) refl
    ]

pub skip-none : (rest : List ℕ) → skip_at rest 0 ≡ read rest
skip-none rest = rw (le-ltb (length rest) 0 (omega arith)) refl
