-- An output that waits is taken.
use Rattle.std.specs.Prelude.{◌≡◌, ◌⊎◌, ℕ, ◌<◌, List, [], ◌∷◌, length, drop}
use Rattle.tcap_model.specs.Words.Output.{Output}
use Rattle.tcap_station.specs.Station.{StationState, without_first}
use Rattle.tcap_station.specs.WaitingOutput.{WaitingOutput}
use Rattle.tcap_c.specs.Numbers.{numbers_of}
use Rattle.tcap_c.specs.Parts.{count_of, lengths_of, no_parts, parts_of}
use Rattle.tcap_c.specs.Shows.{IsTold, Shows}
use Rattle.tcap_c.specs.declared.output_numbers.OutputNumbers.{OutputNumbers}

-- How many octets an output has (own).
abbrev pub octet_count : WaitingOutput → ℕ
octet_count w = count_of (lengths_of (parts_of w.output))

-- The struct and the room show an output, and what lies behind its octets is as it was (own).
abbrev pub IsWritten : WaitingOutput → OutputNumbers → List ℕ → List ℕ → Type 0
IsWritten w n old new = Shows w n new × (drop (octet_count w) new ≡ drop (octet_count w) old)

-- An output doesn't fit into the room, and nothing is written (own).
abbrev pub FitsNot : WaitingOutput → OutputNumbers → OutputNumbers → List ℕ → List ℕ → Type 0
FitsNot w before n old new = (length old < octet_count w) × (n ≡ before) × (new ≡ old)

-- An output has no octets, and is told by these numbers, its event left out, each in its range (own).
abbrev pub IsToldBare : OutputNumbers → Output → Type 0
IsToldBare told o = (told ≡ numbers_of o) × (parts_of o ≡ no_parts) × IsTold o

-- Of what waits: where nothing does the number is 18; where the first output doesn't fit it is 19, and nothing has
-- changed; else it is 0, the output is shown, and waits no longer (own).
abbrev pub TakesFront : List WaitingOutput → ℕ → StationState → StationState → OutputNumbers → OutputNumbers
    → List ℕ → List ℕ → Type 0
TakesFront [] number before after n-before n old new =
    (number ≡ 18) × (after ≡ before) × (n ≡ n-before) × (new ≡ old)
TakesFront (w ∷ ws) number before after n-before n old new =
    ((number ≡ 0) × (after ≡ without_first before) × IsWritten w n old new)
    ⊎ ((number ≡ 19) × (after ≡ before) × FitsNot w n-before n old new)
