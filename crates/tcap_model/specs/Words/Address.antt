-- Where messages come from and go to.
use Rattle.std.specs.Prelude.{ℕ, List}

-- The address of a node of the network: octets that nothing here looks into. Two are the same if their
-- octets are, and none is one too (own).
abbrev pub Address : Type 0
Address = List ℕ
