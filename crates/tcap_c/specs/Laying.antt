-- An output is laid down: its numbers in the struct, its octets at the front of the room.
use Rattle.std.specs.Prelude.{◌≡◌, ℕ, ◌+◌, ◌<◌, ◌≤◌, Bool, true, false, List, ◌++◌, length, drop}
use Rattle.tcap_model.specs.Words.Output.{Output}
use Rattle.tcap_c.specs.Numbers.{numbers_of, with_lengths}
use Rattle.tcap_c.specs.Parts.{Parts, count_of, joined, lengths_of, parts_of}
use Rattle.tcap_c.specs.declared.output_numbers.OutputNumbers.{OutputNumbers}

-- The numbers of an output, with the places of its parts (own).
abbrev pub with_parts : Parts → OutputNumbers → OutputNumbers
with_parts p n = with_lengths (lengths_of p) n

-- Numbers and parts are laid down: these numbers are written, and the parts stand at the front of the room, one after
-- the other; or they are more than the room, and nothing is written (own).
abbrev pub IsLaid : OutputNumbers → Parts → Bool → OutputNumbers → OutputNumbers → List ℕ → List ℕ → Type 0
IsLaid told p true before n old new =
    (n ≡ with_parts p told) × (count_of (lengths_of p) ≤ length old) × (new ≡ joined p ++ drop (count_of (lengths_of p)) old)
IsLaid told p false before n old new = (length old < count_of (lengths_of p)) × (n ≡ before) × (new ≡ old)

-- The numbers and the parts of an output are laid down, its event left out (own).
abbrev pub IsOutputLaid : Output → Bool → OutputNumbers → OutputNumbers → List ℕ → List ℕ → Type 0
IsOutputLaid o fits before n old new = IsLaid (numbers_of o) (parts_of o) fits before n old new

-- Two parts are laid down, the numbers as they are (own).
abbrev pub AreLaid : OutputNumbers → List ℕ → List ℕ → Bool → OutputNumbers → OutputNumbers → List ℕ → List ℕ → Type 0
AreLaid told first second true before n old new =
    (n ≡ told) × (length first + length second ≤ length old)
    × (new ≡ (first ++ second) ++ drop (length (first ++ second)) old)
AreLaid told first second false before n old new =
    (length old < length first + length second) × (n ≡ before) × (new ≡ old)
