-- What a head, an end or an element makes of what reading gives inside an indefinite element.
use Rattle.std.proofs.Common.{◌≡◌, ◌≢◌, ℕ, ◌+◌, ◌-◌, ◌*◌, ◌<◌, ◌≤◌, Bool, not, eqb, bit_and, true, false, List, [], ◌∷◌, ◌++◌, Option, Some, None, length, take, drop, Result, Ok, refl, sym, ap, ◌∙◌, inr, arith, append_assoc}
use Rattle.std.proofs.lemmas.Bool.{eqb-false}
use Rattle.std.proofs.lemmas.List.{take-append-drop, length-take}
use Rattle.ber_core.specs.declared.fault.BerFault.{BerFault}
use Rattle.ber_core.specs.ElementReading.{skip_at}
use Rattle.ber_core.specs.HeadReading.{head_at}
use Rattle.ber_core.specs.Results.{◌>>=◌}
use Rattle.ber_core.specs.Tag.{IsTag, is_constructor}
use Rattle.ber_core.specs.Scanning.{outer_at, at_tag, at_element, at_body, at_length}
use Rattle.ber_core.proofs.Contents.{after_at-body}
use Rattle.ber_core.proofs.HeadGrammar.{HeadRead, SpellsLength, head_takes, head_again-definite, head_again-indefinite}
use Rattle.ber_core.proofs.ScannerSteps.{tag-nested, tag-element, tag-end, element-short_tag}
use Rattle.ber_core.proofs.ScannerLengths.{length-short_form, length-long_form, long-last, length-indefinite, body-nested, skip-passed, skip-none}

-- a tag of one octet
at_tag-short : (n tag : ℕ) (rest : List ℕ) → tag ≢ 0 → eqb (bit_and tag 31) 31 ≡ false → at_tag n (tag ∷ rest) ≡ at_length (not (eqb (bit_and tag 32) 0)) n rest
at_tag-short n tag rest filled low = tag-element n tag rest (inr filled) ∙ element-short_tag n tag rest filled (eqb-false (bit_and tag 31) 31 low)

-- a content that is there
body-passed : (n len : ℕ) (body : List ℕ) → len ≤ length body → (more : List ℕ) → at_body n (Some len, body ++ more) ≡ outer_at n (drop len body ++ more)
body-passed n len body enough more =
    let count : length (take len body) ≡ len = omega (arith, length-take len body, enough) in
    let parts : body ++ more ≡ take len body ++ (drop len body ++ more) = ap (λ (w : List ℕ). w ++ more) (sym (take-append-drop len body)) ∙ append_assoc (take len body) (drop len body) more in
    let none : len - length (take len body) ≡ 0 = omega (arith, count) in
    let passed : skip_at (body ++ more) len ≡ Ok (drop len body ++ more) = ap (λ (w : List ℕ). skip_at w len) parts ∙ (skip-passed len (take len body) (drop len body ++ more) (omega (arith, count)) ∙ (ap (skip_at (drop len body ++ more)) none ∙ skip-none (drop len body ++ more))) in
    rw passed refl

pub skim-element : (n tag len : ℕ) (body : List ℕ) → tag ≢ 0 → eqb (bit_and tag 31) 31 ≡ false → len < 128 → len ≤ length body → (more : List ℕ) → outer_at n (drop len body ++ more) ≡ at_tag n (tag ∷ len ∷ (body ++ more))
skim-element n tag len body filled low short enough more =
    sym (at_tag-short n tag (len ∷ (body ++ more)) filled low ∙ (length-short_form (not (eqb (bit_and tag 32) 0)) n len (body ++ more) short ∙ body-passed n len body enough more))

-- the same behind a length of two octets
pub skim-long : (n tag len : ℕ) (body : List ℕ) → tag ≢ 0 → eqb (bit_and tag 31) 31 ≡ false → len < 256 → len ≤ length body → (more : List ℕ) → outer_at n (drop len body ++ more) ≡ at_tag n (tag ∷ 129 ∷ len ∷ (body ++ more))
skim-long n tag len body filled low octet enough more =
    let number : 0 * 256 + len ≡ len = omega arith in
    sym (at_tag-short n tag (129 ∷ len ∷ (body ++ more)) filled low
    ∙ (length-long_form (not (eqb (bit_and tag 32) 0)) n 129 (len ∷ (body ++ more)) (λ e. absurd (omega (arith, e))) (λ e. absurd (omega (arith, e))) (omega arith)
    ∙ (long-last n 1 0 len (body ++ more) refl (omega (arith, octet)) ∙ ap (λ (v : ℕ). at_body n (Some v, body ++ more)) number ∙ body-passed n len body enough more)))

pub skim-opens : (n tag len : ℕ) (rest : List ℕ) → n < 32 → tag ≢ 0 → eqb (bit_and tag 31) 31 ≡ false → eqb (bit_and tag 32) 0 ≡ false → len ≡ 128 → outer_at (n + 1) rest ≡ at_tag n (tag ∷ len ∷ rest)
skim-opens n tag len rest lt filled low constructed is =
    let c : not (eqb (bit_and tag 32) 0) ≡ true = rw constructed refl in
    sym (tag-nested (n + 1) rest (λ e. absurd (omega (arith, e))))
    ∙ (body-nested n rest lt ∙ sym (at_tag-short n tag (len ∷ rest) filled low ∙ length-indefinite (not (eqb (bit_and tag 32) 0)) n len rest is c))

pub skim-end : (n : ℕ) (rest : List ℕ) → 0 < n → outer_at (n - 1) rest ≡ at_tag n (0 ∷ 0 ∷ rest)
skim-end n rest h = sym (tag-end n (0 ∷ rest) h)

-- ---- any head

-- a head that was read is read so whatever follows
longer-by : (tag : List ℕ) (c : Bool) (len : Option ℕ) (octets rest : List ℕ) → IsTag tag → c ≡ is_constructor tag → SpellsLength c len octets → head_at (tag ++ (octets ++ rest)) ≡ Ok (tag, c, len, rest)
longer-by tag c (Some n) octets rest t is s = rw is (head_again-definite tag octets rest n t s)
longer-by tag c None octets rest t is s = rw (s.1, is) (head_again-indefinite tag rest t (sym is ∙ s.0))

-- no end begins with a tag
element-tagged : (n : ℕ) (tag rest : List ℕ) → IsTag tag → at_tag n (tag ++ rest) ≡ at_element n (tag ++ rest)
element-tagged n [] rest t = absurd t
element-tagged n (b ∷ further) rest t = tag-element n b (further ++ rest) (inr t.0)

body-headed : (n : ℕ) (bytes : List ℕ) (h : HeadRead) → head_at bytes ≡ Ok h → at_element n bytes ≡ at_body n (h.2, h.3)
body-headed n bytes h e = ap (λ (r : Result (List ℕ) BerFault). r >>= outer_at n) (after_at-body (32 - n) bytes h e)

skim-headed : (n : ℕ) (bytes more : List ℕ) (h : HeadRead) → head_at bytes ≡ Ok h → at_tag n (bytes ++ more) ≡ at_body n (h.2, h.3 ++ more)
skim-headed n bytes more h e =
    let s = head_takes bytes h e in
    let parts : bytes ++ more ≡ h.0 ++ (s.octets ++ (h.3 ++ more)) = ap (λ (w : List ℕ). w ++ more) s.parts ∙ (append_assoc h.0 (s.octets ++ h.3) more ∙ ap (λ (w : List ℕ). h.0 ++ w) (append_assoc s.octets h.3 more)) in
    let read : head_at (h.0 ++ (s.octets ++ (h.3 ++ more))) ≡ Ok (h.0, h.1, h.2, h.3 ++ more) = longer-by h.0 h.1 h.2 s.octets (h.3 ++ more) s.is_tag s.constructs s.spells in
    ap (λ (w : List ℕ). at_tag n w) parts
    ∙ (element-tagged n h.0 (s.octets ++ (h.3 ++ more)) s.is_tag ∙ body-headed n (h.0 ++ (s.octets ++ (h.3 ++ more))) (h.0, h.1, h.2, h.3 ++ more) read)

pub skim-definite : (n len : ℕ) (bytes : List ℕ) (h : HeadRead) → head_at bytes ≡ Ok h → h.2 ≡ Some len → len ≤ length h.3 → (more : List ℕ) → outer_at n (drop len h.3 ++ more) ≡ at_tag n (bytes ++ more)
skim-definite n len bytes h e is enough more =
    sym (skim-headed n bytes more h e ∙ (ap (λ (o : Option ℕ). at_body n (o, h.3 ++ more)) is ∙ body-passed n len h.3 enough more))

pub skim-indefinite : (n : ℕ) (bytes : List ℕ) (h : HeadRead) → head_at bytes ≡ Ok h → h.2 ≡ None → n < 32 → (more : List ℕ) → outer_at (n + 1) (h.3 ++ more) ≡ at_tag n (bytes ++ more)
skim-indefinite n bytes h e is lt more =
    sym (tag-nested (n + 1) (h.3 ++ more) (λ e. absurd (omega (arith, e))))
    ∙ (body-nested n (h.3 ++ more) lt ∙ sym (skim-headed n bytes more h e ∙ ap (λ (o : Option ℕ). at_body n (o, h.3 ++ more)) is))
