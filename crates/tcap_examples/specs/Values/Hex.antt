-- Octets, written as one number.
use Rattle.std.specs.Prelude.{ℕ, zero, suc, ◌^◌, ◌/◌, ◌%◌, List, [], ◌∷◌}

-- The octets of a number, so many of them, the most significant first (own).
abbrev pub hex : ℕ → ℕ → List ℕ
hex zero number = []
hex (suc count) number = (number / (256 ^ count)) % 256 ∷ hex count number
