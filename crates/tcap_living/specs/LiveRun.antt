-- What a run over a reader and a writer reads and writes.
use Rattle.std.specs.Prelude.{◌≡◌, ◌≤◌, ◌<◌, ◌⊎◌, ◌+◌, ℕ, Bool, List, [], ◌∷◌, ◌++◌, length, Option}
use Rattle.std.specs.Io.KnownBytes.{Appends, Consumes, IsAtEnd}
use Rattle.tcap_model.specs.Histories.History.{History}
use Rattle.tcap_play.specs.Pieces.{lines_of}
use Rattle.tcap_text.specs.Input.{longest_script, piece_length}
use Rattle.tcap_text.specs.declared.fault.PlayFault.{PlayFault}
use Rattle.tcap_text.specs.declared.fault.PlayFault.TheVariants as fault
use Rattle.tcap_living.specs.LiveText.{history_from, line_text, live_is_good, live_text_of, text_from}
use Rattle.tcap_living.specs.declared.format.Format.{Format}

-- The most reads of a run (own).
abbrev pub most_reads : ℕ
most_reads = 1125899906842624

-- All that the reader had was read: the answers to its lines were written behind what the writer held, and
-- this tells whether no line is bad (own).
pub record IsLived (format : Format) (start : History) (had left old new : Option (List ℕ)) (good : Bool) : Type 0 where
  pub octets : List ℕ
  pub given : Consumes had left octets
  pub at_end : IsAtEnd left
  pub written : Appends old new (live_text_of format start octets)
  pub verdict : good ≡ live_is_good octets

-- Each line that ended in what was read was answered, before it was read on (own).
pub record IsHalted (format : Format) (start : History) (had left old new : Option (List ℕ)) : Type 0 where
  pub octets : List ℕ
  pub given : Consumes had left octets
  pub whole : List (List ℕ)
  pub held : List ℕ
  pub are_lines : lines_of octets ≡ whole ++ (held ∷ [])
  pub written : Appends old new (text_from format 1 start whole)

-- A line was reached that isn't answered whole. It ends in the octets of the last read, or with the input:
-- all lines that ended before these were answered, and so were those before this one (own).
pub record IsReached (had left : Option (List ℕ)) : Type 0 where
  pub before : List ℕ
  pub piece : List ℕ
  pub given : Consumes had left (before ++ piece)
  pub is_piece : length piece ≤ piece_length
  pub whole : List (List ℕ)
  pub held : List ℕ
  pub were_lines : lines_of before ≡ whole ++ (held ∷ [])
  pub told : List (List ℕ)
  pub line : List ℕ
  pub later : List (List ℕ)
  pub are_lines : lines_of (before ++ piece) ≡ (whole ++ told) ++ (line ∷ later)

-- The lines before it (own).
abbrev pub lines_before : {had left : Option (List ℕ)} → IsReached had left → List (List ℕ)
lines_before reached = reached.whole ++ reached.told

-- Memory was refused for a line that isn't empty: nothing of its answer is written (own).
pub record IsShort (format : Format) (start : History) (had left old new : Option (List ℕ)) : Type 0 where
  pub reached : IsReached had left
  pub wanted : 0 < length reached.line
  pub written : Appends old new (text_from format 1 start (lines_before reached))

-- A write failed: a front of the answer to a line was written (own).
pub record IsCut (format : Format) (start : History) (had left old new : Option (List ℕ)) : Type 0 where
  pub reached : IsReached had left
  pub front : List ℕ
  pub rest : List ℕ
  pub is_text : line_text format (1 + length (lines_before reached)) (history_from start (lines_before reached)) reached.line ≡ front ++ rest
  pub is_some : 0 < length (front ++ rest)
  pub written : Appends old new (text_from format 1 start (lines_before reached) ++ front)

-- A line is longer than it may be (own).
pub record IsLong (format : Format) (start : History) (had left old new : Option (List ℕ)) : Type 0 where
  pub reached : IsReached had left
  pub long : longest_script < length reached.line
  pub written : Appends old new (text_from format 1 start (lines_before reached))

-- As many reads were made as a run may make, each of which gave an octet at least (own).
pub record IsEndless (format : Format) (start : History) (had left old new : Option (List ℕ)) : Type 0 where
  pub halted : IsHalted format start had left old new
  pub many : most_reads ≤ length halted.octets

-- What the reader gave and the writer took where a run came to no verdict (own).
abbrev pub IsUnlived : Format → History → Option (List ℕ) → Option (List ℕ) → Option (List ℕ) → Option (List ℕ) → PlayFault → Type 0
IsUnlived format start had left old new fault.OutOfMemory = IsShort format start had left old new
IsUnlived format start had left old new fault.Read = IsHalted format start had left old new
IsUnlived format start had left old new fault.Write = IsCut format start had left old new
IsUnlived format start had left old new fault.TooLong = IsLong format start had left old new ⊎ IsEndless format start had left old new
