-- The words of the program `tcap_story`.
use Rattle.std.specs.Prelude.{ℕ, ◌+◌, ◌==◌, drop, Bool, false, List, [], ◌∷◌, codes, bytes_eq, map, Option, Some, None, if◌then◌else◌}
use Rattle.std.specs.List.{list_any}
use Rattle.tcap_story_cmd.specs.declared.report_text.Report.{Report}
use Rattle.tcap_story_cmd.specs.declared.report_text.Report.TheVariants as report
use Rattle.tcap_story_cmd.specs.declared.words.Request.{Request}
use Rattle.tcap_story_cmd.specs.declared.words.Request.TheVariants as request

-- What the words of the program ask for: how it is called, its version, or the stories of these names (own).
pub data Asked : Type 0 where
  help : Asked
  version : Asked
  stories : (report : Report) (names : List (List ℕ)) → Asked

-- Whether a word is an option: it begins with `-`, and has more characters (own).
abbrev pub is_option : List ℕ → Bool
is_option [] = false
is_option (first ∷ []) = false
is_option (first ∷ second ∷ rest) = first == 45

-- The stories of these names, where none is an option (own).
abbrev pub stories_if : Report → List (List ℕ) → Option Asked
stories_if report names = if list_any is_option names then None else Some (Asked.stories report names)

-- How many words `--junit` stand before the others (own).
abbrev pub junit_count : List (List ℕ) → ℕ
junit_count [] = 0
junit_count (word ∷ words) = if bytes_eq word (codes "--junit") then 1 + junit_count words else 0

-- How stories are told where so many of them stand there (own).
abbrev pub told_by : ℕ → Report
told_by count = if count == 0 then report.Lines else report.JUnit

-- What the words behind them ask for: the first decides. Behind `--` any word is a name; else none of the names is an
-- option (own).
abbrev pub asked_at : Report → List (List ℕ) → Option Asked
asked_at told [] = Some (Asked.stories told [])
asked_at told (word ∷ words) =
    if bytes_eq word (codes "--help") then Some Asked.help
    else if bytes_eq word (codes "--version") then Some Asked.version
    else if bytes_eq word (codes "--") then Some (Asked.stories told words)
    else stories_if told (word ∷ words)

-- What the words behind the program's name ask for (own).
abbrev pub asked_by : List (List ℕ) → Option Asked
asked_by words = asked_at (told_by (junit_count words)) (drop (junit_count words) words)

-- The names of inputs: that of standard input where no other is given (own).
abbrev pub inputs_of : List (List ℕ) → List (List ℕ)
inputs_of [] = codes "-" ∷ []
inputs_of (name ∷ names) = name ∷ names

-- What was asked for (own).
abbrev pub asked : Request → Asked
asked request.Help = Asked.help
asked request.Version = Asked.version
asked (request.Stories report names) = Asked.stories report (map (λ name. name.now) names.now)
