-- A transaction identifier, by its octets.
use Rattle.std.specs.Prelude.{ℕ, ◌<◌, ◌≤◌, List, length, Option, Some, None, nat_lt, ◌==◌, if◌then◌else◌}

-- The greatest number of octets of a transaction identifier (Q.773, Transaction ID).
abbrev pub id_limit : ℕ
id_limit = 4

-- A transaction identifier has one to four octets (Q.773, Transaction ID).
abbrev pub IsTransId : List ℕ → Type 0
IsTransId octets = (0 < length octets) × (length octets ≤ id_limit)

-- The octets, if they are a transaction identifier (Q.773, Transaction ID).
abbrev pub id_of : List ℕ → Option (List ℕ)
id_of octets =
    if length octets == 0 then None
    else if nat_lt id_limit (length octets) then None
    else Some octets
