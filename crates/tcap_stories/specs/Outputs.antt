-- The outputs of a line, as a story tells them.
use Rattle.std.specs.Prelude.{ℕ, Bool, ◌-◌, ◌||◌, List, [], ◌∷◌, ◌++◌, codes, length, take, drop, map, bytes_eq, Option, Some, None, if◌then◌else◌}
use Rattle.std.specs.Fmt.{decimal}
use Rattle.std.specs.Option.{option_and_then}
use Rattle.tcap_play.specs.Numbers.{number_up_to}
use Rattle.tcap_play.specs.Pieces.{lines_of}
use Rattle.tcap_lines.specs.FaultNames.{fault_name_of}

-- The lines of a text whose every line ends with a line feed (own).
abbrev pub ended_lines : List ℕ → List (List ℕ)
ended_lines text = take (length (lines_of text) - 1) (lines_of text)

-- Whether an output tells a refusal: `S refused ..` (own).
abbrev pub is_refusal : List ℕ → Bool
is_refusal output = bytes_eq (take 10 output) (codes "A refused ") || bytes_eq (take 10 output) (codes "B refused ")

-- The number of the fault by which an output tells a refusal: `S refused N` (own).
abbrev pub refusal_in : List ℕ → Option ℕ
refusal_in output = if is_refusal output then number_up_to 18446744073709551615 (drop 10 output) else None

-- A name behind an output (own).
abbrev pub name_behind : Option (List ℕ) → List ℕ
name_behind None = []
name_behind (Some name) = codes " " ++ name

-- An output as it is told: a refusal has the name of its fault (own).
abbrev pub told : List ℕ → List ℕ
told output = output ++ name_behind (option_and_then fault_name_of (refusal_in output))

-- The outputs of a line of a play, by what the play prints for it (own).
abbrev pub outputs_in : List ℕ → List (List ℕ)
outputs_in text = map told (ended_lines text)

-- Outputs with the number of the line that they come from (own).
abbrev pub numbered : ℕ → List (List ℕ) → List ℕ
numbered number [] = []
numbered number (output ∷ outputs) =
    decimal number ++ (codes " " ++ (output ++ (codes "\n" ++ numbered number outputs)))
