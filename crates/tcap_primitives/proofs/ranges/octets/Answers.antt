use Rattle.std.proofs.Common.{◌≡◌, ℕ, suc, true, nat_lt, List, [], ◌∷◌, get_or, Fits, w8, refl, arith}
use Rattle.std.proofs.lemmas.Bool.Decides.{nat_tests}
use Rattle.std.specs.List.{list_all}
use Rattle.tcap_primitives.proofs.ranges.octets.Goals as goal

below : (b : ℕ) → Fits w8 b → nat_lt b 0x100 ≡ true
below b f = grind (arith, nat_tests, f)

all-octets : (xs : List ℕ) → ((i : ℕ) → Fits w8 (get_or xs i 0)) → list_all (λ b. nat_lt b 0x100) xs ≡ true
all-octets [] f = refl
all-octets (x ∷ xs) f = rw (below x (f 0)) (all-octets xs (λ i. f (suc i)))

pub returns : goal.returns
returns c = all-octets c.args.bytes.now c.type_inv.bytes
