-- A dotted text, arc by arc.
use Rattle.std.proofs.Common.{◌≡◌, ℕ, List, [], ◌∷◌, ◌++◌, ap, sym}
use Rattle.std.proofs.lemmas.List.{append-nil}
use Rattle.std.specs.Fmt.{decimal}
use Rattle.std.specs.List.{flat_map}
use Rattle.object_identifiers.specs.Arcs.{dotted_text, tail_text}

-- the first arc, and each other behind a full stop
pub dotted-tails : (x : ℕ) (more : List ℕ) → dotted_text (x ∷ more) ≡ decimal x ++ flat_map tail_text more
dotted-tails x [] = sym (append-nil (decimal x))
dotted-tails x (y ∷ more) = ap (λ (w : List ℕ). decimal x ++ (46 ∷ w)) (dotted-tails y more)
