-- Which lines are bad, and what is told of one.
use Rattle.std.specs.Prelude.{◌≡◌, ℕ, false, List, [], ◌∷◌, ◌++◌, codes, drop, bytes_eq, Option, Some, None, if◌then◌else◌}
use Rattle.std.specs.Fmt.{decimal}
use Rattle.tcap_play.specs.Pieces.{is_skipped, words_of}
use Rattle.tcap_play.specs.Play.{Fate, Played, carried, message_in, sent_by, step_by}
use Rattle.tcap_play.specs.ScriptWords.{MessageName, idle_limit_of, name_of}
use Rattle.tcap_lines.specs.FaultText.{line_fault_words}
use Rattle.tcap_lines.specs.LineFaults.{IsFirstFault}
use Rattle.tcap_lines.specs.Reading.{first_fault}
use Rattle.tcap_lines.specs.declared.fault.LineFault.{LineFault}
use Rattle.tcap_stories.specs.ExpectedText.{IsFirstUnwritten, text_fault}
use Rattle.tcap_stories.specs.StoryLine.{StoryLine, is_expectation, kind_of}
use Rattle.tcap_stories.specs.StoryTable.{story_table}

-- A line is bad at a play: it is neither skipped nor says what is expected, and the play has no step for it (own).
abbrev pub IsBad : Played → List ℕ → Type 0
IsBad p line = (kind_of line ≡ StoryLine.plays) × (step_by p line ≡ None)

-- The first word of a line that is wrong (own).
pub data IsWrong : List ℕ → LineFault → Type 0 where
  -- behind `expect`, the first that is no word
  in_text : (text : List ℕ) (found : LineFault) → IsFirstUnwritten 2 (words_of text) found
      → IsWrong (codes "expect " ++ text) found
  -- of any other line, by the table
  by_table : (line : List ℕ) (found : LineFault) → is_skipped line ≡ false → is_expectation line ≡ false
      → IsFirstFault story_table (words_of line) found → IsWrong line found

-- Why a line that has a form is bad, by its first word: its message can't be so treated, an idle limit comes late, or
-- nothing is said to be expected (own).
abbrev pub unfit_words : List ℕ → List ℕ
unfit_words name =
    if bytes_eq name (codes "deliver")
    then codes "word 2, a message to the other side that was neither received nor lost"
    else if bytes_eq name (codes "again") then codes "word 2, a message that was received"
    else if bytes_eq name (codes "lose") then codes "word 2, a message that was neither received nor lost"
    else if bytes_eq name (codes "idle") then codes "word 1, idle in the first line alone"
    else codes "word 2 is missing, the text of an output or nothing"

-- The lines of these words are bad at a play, though each word is what it has to be: those that name a message that
-- can't be so treated, an idle limit behind the first line, and an expectation that says nothing (own).
pub data IsUnfit : Played → List (List ℕ) → Type 0 where
  -- a message that doesn't wait, or goes elsewhere than to the other side, or was never sent
  undelivered : (p : Played) (word : List ℕ) (name : MessageName) → name_of word ≡ Some name
      → carried name Fate.waiting p ≡ None → IsUnfit p (codes "deliver" ∷ word ∷ [])
  -- one that was not received
  unrepeated : (p : Played) (word : List ℕ) (name : MessageName) → name_of word ≡ Some name
      → carried name Fate.delivered p ≡ None → IsUnfit p (codes "again" ∷ word ∷ [])
  -- one that doesn't wait
  unlost : (p : Played) (word : List ℕ) (name : MessageName) → name_of word ≡ Some name
      → message_in Fate.waiting name.number (sent_by name.engine p) ≡ None → IsUnfit p (codes "lose" ∷ word ∷ [])
  late : (p : Played) (word : List ℕ) (limit : ℕ) → idle_limit_of word ≡ Some limit
      → IsUnfit p (codes "idle" ∷ word ∷ [])
  unsaid : (p : Played) → IsUnfit p (codes "expect" ∷ [])

-- The first of some words (own).
abbrev pub first_of : List (List ℕ) → List ℕ
first_of [] = []
first_of (word ∷ words) = word

-- Why a line of these words is bad, by its first word that is wrong (own).
abbrev pub reason_by : List (List ℕ) → Option LineFault → List ℕ
reason_by words None = unfit_words (first_of words)
reason_by words (Some found) = line_fault_words story_table found

-- What is wrong first with the words of a line, if anything (own).
abbrev pub wrong_in : List ℕ → Option LineFault
wrong_in line =
    if is_expectation line then text_fault (drop 7 line) else first_fault story_table (words_of line)

-- Why a line is bad (own).
abbrev pub reason_of : List ℕ → List ℕ
reason_of line = reason_by (words_of line) (wrong_in line)

-- That the line of this number is bad, and why (own).
abbrev pub bad_line : ℕ → List ℕ → List ℕ
bad_line number line = codes "line " ++ (decimal number ++ (codes " bad: " ++ (reason_of line ++ codes "\n")))
