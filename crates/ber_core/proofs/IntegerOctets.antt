-- One octet in two's complement, both ways.
use Rattle.std.proofs.Common.{◌≡◌, ℕ, ◌-◌, ◌<◌, ◌≤◌, ℤ, pos, negsuc, ltb, refl, ap, inl, inr, arith}
use Rattle.std.specs.Prelude.{FitsSigned}
use Rattle.std.specs.Int.{w8, cast_signed, cast_unsigned}
use Rattle.std.proofs.lemmas.Bool.{cases_Bool, lt-ltb, le-ltb, ltb-true, ltb-false}
use Rattle.ber_core.specs.Integer.{signed_octet, octet_of}

pub octet_of-signed_octet : (b : ℕ) → b < 256 → octet_of (signed_octet b) ≡ b
octet_of-signed_octet b h = elim (cases_Bool (ltb b 128)) [
  | inl y ↦ rw y refl
  | inr n ↦ rw n (omega arith)
]

pub signed_octet-octet_of : (z : ℤ) → FitsSigned w8 z → signed_octet (octet_of z) ≡ z
signed_octet-octet_of (pos n) h = let small : n < 128 = h.sfits in rw (lt-ltb n 128 small) refl
signed_octet-octet_of (negsuc n) h =
    let small : n < 128 = h.sfits in
    rw (le-ltb (255 - n) 128 (omega arith)) (ap (λ (k : ℕ). negsuc k) (omega arith))

pub octet_of-below : (z : ℤ) → FitsSigned w8 z → octet_of z < 256
octet_of-below (pos n) h = let small : n < 128 = h.sfits in omega arith
octet_of-below (negsuc n) h = omega arith

pub signed_octet-fits : (b : ℕ) → b < 256 → FitsSigned w8 (signed_octet b)
signed_octet-fits b h = elim (cases_Bool (ltb b 128)) [
  | inl y ↦ let small : b < 128 = ltb-true b 128 y in rw y (record { sfits = small })
  | inr n ↦ let large : 128 ≤ b = ltb-false b 128 n in let small : 255 - b < 128 = omega arith in rw n (record { sfits = small })
]

-- how a program computes them
pub cast_signed-is : (b : ℕ) → b < 256 → cast_signed w8 b ≡ signed_octet b
cast_signed-is b h = elim (cases_Bool (ltb b 128)) [
  | inl y ↦ rw y refl
  | inr n ↦ rw n (ap (λ (k : ℕ). negsuc k) (omega arith))
]

pub cast_unsigned-is : (z : ℤ) → cast_unsigned w8 z ≡ octet_of z
cast_unsigned-is (pos n) = refl
cast_unsigned-is (negsuc n) = omega arith
