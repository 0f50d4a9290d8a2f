-- What is told of a story: a play, and what is expected of it.
use Rattle.std.specs.Prelude.{ℕ, ◌+◌, Bool, true, false, List, [], ◌∷◌, codes, Option, Some, None}
use Rattle.std.specs.List.{list_any}
use Rattle.tcap_play.specs.Opening.{Opening, opening_of}
use Rattle.tcap_play.specs.Play.{Played, Printed, Stepped, behind, not_begun, step_by}
use Rattle.tcap_stories.specs.BadLine.{bad_line}
use Rattle.tcap_stories.specs.Comparing.{Expectation, and_then, compared, silent}
use Rattle.tcap_stories.specs.Outputs.{numbered, outputs_in}
use Rattle.tcap_stories.specs.StoryLine.{StoryLine, kind_of, wanted_by}

-- What the first of these lines says, and what those behind it say, up to the next line of a play (own).
abbrev pub expectations_with : ℕ → StoryLine → List Expectation → List Expectation
expectations_with number StoryLine.skipped later = later
expectations_with number (StoryLine.expects text) later = record { line = number; wanted = wanted_by text } ∷ later
expectations_with number StoryLine.plays later = []

-- What is expected from the line of this number on, up to the next line of a play: of the outputs of the line
-- before it (own).
unfoldable pub expectations_from : ℕ → List (List ℕ) → List Expectation
expectations_from number [] = []
expectations_from number (line ∷ lines) = expectations_with number (kind_of line) (expectations_from (number + 1) lines)

-- What is told of the outputs of the line of this number, of which that is expected: the outputs, and where they are
-- others than was expected (own).
abbrev pub told_of : ℕ → List (List ℕ) → List Expectation → Printed
told_of number outputs expectations = behind (numbered number outputs) (compared number outputs expectations)

-- What is told from a line of a play on: a bad line ends the story, which has failed then (own).
abbrev pub told_step : ℕ → List ℕ → List Expectation → (Played → Printed) → Option Stepped → Printed
told_step number line expectations later None = record { text = bad_line number line; good = false }
told_step number line expectations later (Some stepped) =
    and_then (told_of number (outputs_in stepped.text) expectations) (later stepped.after)

-- What is told from a line on, by what it is (own).
abbrev pub told_line : StoryLine → Printed → Printed → Printed
told_line StoryLine.skipped passed played = passed
told_line (StoryLine.expects text) passed played = passed
told_line StoryLine.plays passed played = played

-- What is told from the line of this number on; each line is counted (own).
unfoldable pub told_from : ℕ → Played → List (List ℕ) → Printed
told_from number p [] = silent
told_from number p (line ∷ lines) =
    told_line (kind_of line) (told_from (number + 1) p lines)
    (told_step number line (expectations_from (number + 1) lines)
    (λ q. told_from (number + 1) q lines) (step_by p line))

-- What is told of a story that opens so: before its first line of a play nothing comes (own).
abbrev pub told_behind : Opening → Printed
told_behind opening =
    and_then (compared 0 [] (expectations_from (opening.passed + 1) opening.lines))
    (told_from (opening.passed + 1) (not_begun opening.idle_ms) opening.lines)

-- Whether a line is one of a play, or bad (own).
abbrev pub is_played : StoryLine → Bool
is_played StoryLine.skipped = false
is_played (StoryLine.expects text) = false
is_played StoryLine.plays = true

-- Whether one of these lines is (own).
abbrev pub plays_any : List (List ℕ) → Bool
plays_any lines = list_any (λ line. is_played (kind_of line)) lines

-- What is told besides of a story, by whether a line of it is played: one that plays nothing shows nothing, and has
-- failed (own).
abbrev pub told_if_played : Bool → Printed
told_if_played true = silent
told_if_played false = record { text = codes "no line to play\n"; good = false }

-- What is told of a story that opens so, and whether it has passed (own).
abbrev pub told_whole : Opening → Printed
told_whole opening = and_then (told_behind opening) (told_if_played (plays_any opening.lines))

-- What is told of a story, and whether it has passed (own).
abbrev pub told_story : List ℕ → Printed
told_story script = told_whole (opening_of script)
