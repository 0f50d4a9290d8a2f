-- The local transaction identifier: that of a dialogue, sent as four octets.
use Rattle.std.specs.Prelude.{ℕ, List, length, Bool, false, Option, Some, None, if◌then◌else◌, ◌==◌}
use Rattle.std.specs.Int.{w32, to_be_bytes, from_be_bytes}

-- The octets of a dialogue identifier, the most significant first (Q.773, Transaction ID; that they
-- are four is own).
abbrev pub local_id : ℕ → List ℕ
local_id dialogue = to_be_bytes w32 dialogue

-- The dialogue identifier that four octets are; other octets name no dialogue (own).
abbrev pub dialogue_named : List ℕ → Option ℕ
dialogue_named octets = if length octets == 4 then Some (from_be_bytes w32 octets) else None

-- Whether this is the dialogue (own).
abbrev pub is_that : ℕ → Option ℕ → Bool
is_that dialogue None = false
is_that dialogue (Some named) = named == dialogue
