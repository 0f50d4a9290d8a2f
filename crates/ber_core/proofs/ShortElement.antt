-- An element of a tag of one octet, with a length of one octet below 128.
use Rattle.std.proofs.Common.{◌≡◌, ◌≢◌, ℕ, ◌+◌, ◌-◌, ◌<◌, ◌≤◌, false, eqb, bit_and, List, [], ◌∷◌, length, get_or, take, drop, Some, refl, ap, subst, arith, eq-eqb}
use Rattle.std.proofs.lemmas.List.{length-drop, take_all}
use Rattle.ber_core.specs.Place.{head_length}
use Rattle.ber_core.specs.SequenceReading.{tagged}
use Rattle.ber_core.proofs.PlainElement.{head_is, plain, body_is}

-- the content of the slice behind the two octets, and what follows it there
abbrev pub behind : List ℕ → List ℕ
behind bytes = take (length bytes - 2) (drop 2 bytes)

abbrev pub short_content : List ℕ → List ℕ
short_content bytes = take (get_or bytes 1 0) (behind bytes)

abbrev pub short_rest : List ℕ → List ℕ
short_rest bytes = take (length (behind bytes) - get_or bytes 1 0) (drop (get_or bytes 1 0) (behind bytes))

-- the tag and the length stand first, and the content is whole
pub record IsShort (tag : ℕ) (bytes : List ℕ) : Type 0 where
  pub two : 2 ≤ length bytes
  pub first : get_or bytes 0 0 ≡ tag
  pub plain : (tag ≢ 0) × (eqb (bit_and tag 31) 31 ≡ false) × (get_or bytes 1 0 < 128)
  pub within : get_or bytes 1 0 ≤ length (behind bytes)

abbrev Reads : ℕ → List ℕ → List ℕ → List ℕ → Type 0
Reads tag bytes content rest = ((Some content, rest) ≡ tagged tag bytes) × (head_length bytes ≡ 2)

reads : (tag len : ℕ) (body : List ℕ) → (tag ≢ 0) × (eqb (bit_and tag 31) 31 ≡ false) × (len < 128) → len ≤ length body → Reads tag (tag ∷ len ∷ body) (take len body) (drop len body)
unfolding tagged head_length
reads tag len body p within =
    (rw (plain tag len body p.0 p.1 p.2 within, eq-eqb tag tag refl) refl, rw (head_is tag len body p.0 p.1 p.2 within) (omega arith))

all_behind : (n : ℕ) (body : List ℕ) → take (length body - n) (drop n body) ≡ drop n body
all_behind n body = take_all _ (drop n body) (omega (arith, length-drop n body))

pub short_reads : (tag : ℕ) (bytes : List ℕ) → IsShort tag bytes → Reads tag bytes (short_content bytes) (short_rest bytes)
short_reads tag [] s = absurd (omega (arith, s.two))
short_reads tag (a ∷ []) s = absurd (omega (arith, s.two))
short_reads tag (a ∷ len ∷ body) s =
    let is = body_is (a ∷ len ∷ body) in
    let within : len ≤ length body = subst (λ (x : List ℕ). len ≤ length x) is s.within in
    rw (all_behind len (behind (a ∷ len ∷ body)), is, s.first) (reads tag len body s.plain within)

pub rest_ends : (tag : ℕ) (bytes : List ℕ) → IsShort tag bytes → get_or bytes 1 0 + (2 + length (short_rest bytes)) ≡ length bytes
rest_ends tag bytes s =
    let n = get_or bytes 1 0 in
    let is = body_is bytes in
    let within = s.within in
    let two = s.two in
    let count = length-drop 2 bytes in
    let left = length-drop n (behind bytes) in
    rw (all_behind n (behind bytes)) (omega (arith, within, two, count, left, ap length is))
