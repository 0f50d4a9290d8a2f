-- Truth values.
use Rattle.std.proofs.Common.{◌≡◌, Bool, false, true, refl}
use Rattle.std.specs.Prelude.{◌&&◌, ◌||◌, not}

pub and_false : (b : Bool) → (b && false) ≡ false
and_false true = refl
and_false false = refl

pub and_true : (b : Bool) → (b && true) ≡ b
and_true true = refl
and_true false = refl

pub or_false : (b : Bool) → (b || false) ≡ b
or_false true = refl
or_false false = refl

pub if_not_false : (b : Bool) → not b ≡ false → b ≡ true
if_not_false true e = refl
if_not_false false e = absurd cc
