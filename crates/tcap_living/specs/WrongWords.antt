-- A line has no form exactly where one of its words is the first that is wrong.
use Rattle.std.specs.Prelude.{◌≡◌, ℕ, List, not, is_some, Some}
use Rattle.tcap_model.specs.Histories.History.{History}
use Rattle.tcap_play.specs.Pieces.{words_of}
use Rattle.tcap_lines.specs.LineFaults.{IsFirstFault}
use Rattle.tcap_lines.specs.Reading.{first_fault}
use Rattle.tcap_lines.specs.declared.fault.LineFault.{LineFault}
use Rattle.tcap_living.specs.LiveLine.{line_of}
use Rattle.tcap_living.specs.LiveTable.{live_table}
use Rattle.tcap_living.specs.LiveText.{line_text, wrong_text}
use Rattle.tcap_living.specs.declared.format.Format.{Format}

-- Words ask for something exactly where the table finds none of them wrong (own).
abbrev pub IsReadUnlessWrong : List (List ℕ) → Type 0
IsReadUnlessWrong words = is_some (line_of words) ≡ not (is_some (first_fault live_table words))

-- A line's first wrong word is what is printed for it, in either format, whatever its number and whatever came before:
-- never `bad` alone (own).
pub record IsToldBad (line : List ℕ) : Type 0 where
  pub found : LineFault
  pub is_first : IsFirstFault live_table (words_of line) found
  pub prints : (format : Format) (number : ℕ) (h : History) → line_text format number h line ≡ wrong_text format number (Some found)
