-- The first word of a line that is wrong, computed.
use Rattle.std.specs.Prelude.{◌+◌, ℕ, List, [], ◌∷◌, Option, Some, None}
use Rattle.tcap_lines.specs.declared.fault.LineFault.{LineFault}
use Rattle.tcap_lines.specs.declared.fault.WordFault.{WordFault}
use Rattle.tcap_lines.specs.LineFaults.{judged, missing, surplus}
use Rattle.tcap_lines.specs.Table.{LineTable, Wanted, wanted_words}

-- A fault of the word with this number (own).
abbrev pub at_word : ℕ → WordFault → LineFault
at_word number found = record { word = number; fault = found }

-- A fault of the word with this number, or what follows it (own).
abbrev pub or_later : ℕ → Option WordFault → Option LineFault → Option LineFault
or_later number None later = later
or_later number (Some found) later = Some (at_word number found)

-- What is wrong first with words, the first of which has this number and stands behind that word (own).
abbrev pub walk : ℕ → List ℕ → List Wanted → List (List ℕ) → Option LineFault
walk number before [] [] = None
walk number before [] (word ∷ words) = Some (at_word number (surplus word))
walk number before (wanted ∷ later) [] = Some (at_word number (missing wanted))
walk number before (wanted ∷ later) (word ∷ words) =
    or_later number (judged before wanted word) (walk (number + 1) word later words)

-- What is wrong first with the words of a line, if anything (own).
abbrev pub first_fault : LineTable → List (List ℕ) → Option LineFault
first_fault table words = walk 1 [] (wanted_words table words) words
