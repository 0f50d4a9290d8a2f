-- Octets that are given in a room, by equal octets and an equal number.
use Rattle.std.proofs.Common.{◌≡◌, ℕ, List, sym, subst}
use Rattle.tcap_c.specs.Codec.{Gives}

pub given : (xs ys : List ℕ) (number status count : ℕ) (old new : List ℕ) → xs ≡ ys → number ≡ status
    → Gives xs status count old new → Gives ys number count old new
given xs ys number status count old new same is gives =
    subst (λ (n : ℕ). Gives ys n count old new) (sym is) (subst (λ (zs : List ℕ). Gives zs status count old new) same gives)
