-- Octets that fit, or don't.
use Rattle.std.proofs.Common.{inl, inr, ◌≡◌, ℕ, ◌<◌, ◌≤◌, ltb, List, ◌++◌, length, length-append, refl, arith, Ok, Err}
use Rattle.std.proofs.lemmas.Bool.{cases_Bool, ltb-true, ltb-false, lt-ltb, le-ltb}
use Rattle.object_identifiers.specs.declared.fault.ObjectIdentifierFault.{ObjectIdentifierFault}
use Rattle.object_identifiers.specs.Contents.{fitting}

pub fits : (a b : List ℕ) → fitting a ≡ Ok b → (a ≡ b) × (length a ≤ 255)
fits a b e = elim (cases_Bool (ltb 255 (length a))) [
  | inl above ↦ let e = e in absurd (let bad = (rw above at e) in cc)
  | inr below ↦ let e = e in let same : a ≡ b = (let h = (rw below at e) in cc) in (same, ltb-false 255 (length a) below)
]

pub fits_not : (a b : List ℕ) (f : ObjectIdentifierFault) → fitting a ≡ Err f → fitting (a ++ b) ≡ Err f
fits_not a b f e = elim (cases_Bool (ltb 255 (length a))) [
  | inl above ↦
      let e = e in
      let long : 255 < length (a ++ b) = omega (arith, ltb-true 255 (length a) above, length-append a b) in
      let h = (rw above at e) in
      rw (lt-ltb 255 (length (a ++ b)) long) h
  | inr below ↦ let e = e in absurd (let bad = (rw below at e) in cc)
]

pub short_fits : (a : List ℕ) → length a ≤ 255 → fitting a ≡ Ok a
short_fits a short = rw (le-ltb 255 (length a) short) refl
