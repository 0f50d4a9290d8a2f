-- The lines of a story.
use Rattle.std.specs.Prelude.{ℕ, Bool, List, codes, take, drop, bytes_eq, Option, Some, None, if◌then◌else◌}
use Rattle.tcap_play.specs.Pieces.{is_skipped}
use Rattle.tcap_lines.specs.declared.fault.LineFault.{LineFault}
use Rattle.tcap_stories.specs.ExpectedText.{text_fault}

-- A line is skipped, says what is expected, or is any other: that is a line of a play, or bad (own).
pub data StoryLine : Type 0 where
  skipped : StoryLine
  expects : (text : List ℕ) → StoryLine
  plays : StoryLine

-- Whether `expect` and a space stand before a text (own).
abbrev pub is_expectation : List ℕ → Bool
is_expectation line = bytes_eq (take 7 line) (codes "expect ")

-- A line with this text says what is expected, where nothing is wrong with a word of it (own).
abbrev pub expects_if : Option LineFault → List ℕ → StoryLine
expects_if None text = StoryLine.expects text
expects_if (Some found) text = StoryLine.plays

-- What a line is (own).
abbrev pub kind_of : List ℕ → StoryLine
kind_of line =
    if is_skipped line then StoryLine.skipped
    else if is_expectation line then expects_if (text_fault (drop 7 line)) (drop 7 line)
    else StoryLine.plays

-- What is expected: the line of an output, or `nothing`, that there is none (own).
abbrev pub wanted_by : List ℕ → Option (List ℕ)
wanted_by text = if bytes_eq text (codes "nothing") then None else Some text
