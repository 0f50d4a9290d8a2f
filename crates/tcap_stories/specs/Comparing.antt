-- The outputs of a line beside what is expected of it.
use Rattle.std.specs.Prelude.{ℕ, Bool, true, false, ◌&&◌, List, [], ◌∷◌, ◌++◌, codes, bytes_eq, filter, Option, Some, None, if◌then◌else◌}
use Rattle.std.specs.Fmt.{decimal}
use Rattle.tcap_play.specs.Play.{Printed}
use Rattle.tcap_stories.specs.Outputs.{is_refusal}

-- What is expected, an output or that there is none, and the number of the line that says so (own).
pub record Expectation : Type 0 where
  pub line : ℕ
  pub wanted : Option (List ℕ)

-- Nothing is told, and nothing has failed (own).
abbrev pub silent : Printed
silent = record { text = []; good = true }

-- What is told first, and what is told then (own).
abbrev pub and_then : Printed → Printed → Printed
and_then before after = record { text = before.text ++ after.text; good = before.good && after.good }

-- An output, `nothing` where there is none (own).
abbrev pub or_nothing : Option (List ℕ) → List ℕ
or_nothing None = codes "nothing"
or_nothing (Some output) = output

-- Whether what came is what is expected (own).
abbrev pub agrees : Option (List ℕ) → Option (List ℕ) → Bool
agrees None None = true
agrees None (Some found) = false
agrees (Some wanted) None = false
agrees (Some wanted) (Some found) = bytes_eq wanted found

-- Words, and an output (own).
abbrev pub output_words : List ℕ → Option (List ℕ) → List ℕ
output_words words output = words ++ or_nothing output

-- The words before what was expected by the line of this number (own).
abbrev pub front_words : ℕ → List ℕ
front_words number = codes "line " ++ decimal number

-- That the line of this number has failed (own).
abbrev pub failed_line : ℕ → Option (List ℕ) → Option (List ℕ) → List ℕ
failed_line number wanted found =
    front_words number ++ (output_words (codes " failed: expected ") wanted
    ++ (output_words (codes ", found ") found ++ codes "\n"))

-- What is told of what is expected and what came (own).
abbrev pub held : ℕ → Option (List ℕ) → Option (List ℕ) → Printed
held number wanted found =
    if agrees wanted found then silent else record { text = failed_line number wanted found; good = false }

-- The outputs of the line of this number side by side with what is expected: the first with the first, and so on. Where
-- no more is expected, no output may come; where none comes, none may be expected (own).
abbrev pub side_by_side : ℕ → List (List ℕ) → List Expectation → Printed
side_by_side number [] [] = silent
side_by_side number (output ∷ outputs) [] = and_then (held number None (Some output)) (side_by_side number outputs [])
side_by_side number [] (e ∷ es) = and_then (held e.line e.wanted None) (side_by_side number [] es)
side_by_side number (output ∷ outputs) (e ∷ es) =
    and_then (held e.line e.wanted (Some output)) (side_by_side number outputs es)

-- What is told of the outputs of the line of this number. Where nothing is expected of it, they may be any but
-- refusals: a refusal that nothing names has failed (own).
abbrev pub compared : ℕ → List (List ℕ) → List Expectation → Printed
compared number outputs [] = side_by_side number (filter is_refusal outputs) []
compared number outputs (e ∷ es) = side_by_side number outputs (e ∷ es)
