-- Octets that a call gives in a room of the caller's: identifiers and texts.
use Rattle.std.specs.Prelude.{◌≡◌, ◌⊎◌, ℕ, ◌<◌, ◌≤◌, Bool, List, [], ◌++◌, length, drop, Option, Some, None}

-- Octets that fit into a room stand at its front, what lay behind them stays, and the number is 0; of others it is 19,
-- and the room is as it was (own).
abbrev pub Fills : List ℕ → ℕ → List ℕ → List ℕ → Type 0
Fills octets number old new =
    ((number ≡ 0) × (length octets ≤ length old) × (new ≡ octets ++ drop (length octets) old))
    ⊎ ((number ≡ 19) × (length old < length octets) × (new ≡ old))

-- The same, and it is told how many they are, whether they fit or not (own).
abbrev pub Gives : List ℕ → ℕ → ℕ → List ℕ → List ℕ → Type 0
Gives octets number count old new = (count ≡ length octets) × Fills octets number old new

-- A call answers this number, and writes nothing (own).
abbrev pub GivesNone : ℕ → ℕ → ℕ → ℕ → List ℕ → List ℕ → Type 0
GivesNone refusal number before count old new = (number ≡ refusal) × (count ≡ before) × (new ≡ old)

-- The octets of a transaction identifier, 1 to 4; none where there is none (own).
abbrev pub octets_if_any : Option (List ℕ) → List ℕ
octets_if_any None = []
octets_if_any (Some octets) = octets

-- An origin and a destination, one behind the other in a room, and how many octets each has (own).
abbrev pub GivesIds : Option (List ℕ) → Option (List ℕ) → ℕ → ℕ → ℕ → List ℕ → List ℕ → Type 0
GivesIds origin destination number origin_count destination_count old new =
    (origin_count ≡ length (octets_if_any origin)) × (destination_count ≡ length (octets_if_any destination))
    × Fills (octets_if_any origin ++ octets_if_any destination) number old new

-- Memory was refused: the number is 1, and nothing is written. Or the text is given, and whether the verdict of its
-- message is good (own).
abbrev pub GivesText : List ℕ → Bool → ℕ → Bool → Bool → ℕ → ℕ → List ℕ → List ℕ → Type 0
GivesText text good number good_before is_good before count old new =
    (GivesNone 1 number before count old new × (is_good ≡ good_before))
    ⊎ (Gives text number count old new × (is_good ≡ good))
