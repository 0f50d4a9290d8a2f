-- How many octets the components of a queue have.
use Rattle.std.specs.Prelude.{ℕ, ◌+◌, List, [], ◌∷◌}
use Rattle.tcap_primitives.specs.declared.queue.Part.{Part}

-- How many octets the components have together (own).
abbrev pub total : List Part → ℕ
total [] = 0
total (p ∷ parts) = p.len + total parts
