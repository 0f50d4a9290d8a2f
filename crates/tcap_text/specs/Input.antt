-- What is read of a script.
use Rattle.std.specs.Prelude.{◌≤◌, ◌+◌, ℕ, List, length, Option}
use Rattle.std.specs.Io.KnownBytes.{Consumes, IsAtEnd}
use Rattle.tcap_text.specs.declared.fault.PlayFault.{PlayFault}
use Rattle.tcap_text.specs.declared.fault.PlayFault.TheVariants as fault

-- The longest script, in octets (own).
abbrev pub longest_script : ℕ
longest_script = 1048576

-- The most reads of a run (own).
abbrev pub most_reads : ℕ
most_reads = 1000000

-- The octets that a read asks for (own).
abbrev pub piece_length : ℕ
piece_length = 4096

-- The reader gave these octets and is at its end, and they are no more than a script may have (own).
pub record IsScript (old new : Option (List ℕ)) (script : List ℕ) : Type 0 where
  pub given : Consumes old new script
  pub at_end : IsAtEnd new
  pub fits : length script ≤ longest_script

-- The reader gave no more than a script may have (own).
pub record IsLeft (old new : Option (List ℕ)) : Type 0 where
  pub octets : List ℕ
  pub given : Consumes old new octets
  pub fits : length octets ≤ longest_script

-- The reader gave more than a script may have, by no more than one read; or it gave an octet at least in
-- each of as many reads as a run may make (own).
pub record IsPast (old new : Option (List ℕ)) : Type 0 where
  pub octets : List ℕ
  pub given : Consumes old new octets
  pub many : most_reads ≤ length octets
  pub near : length octets ≤ longest_script + piece_length

-- What the reader gave where no script was read (own).
abbrev pub IsUnread : Option (List ℕ) → Option (List ℕ) → PlayFault → Type 0
IsUnread old new fault.OutOfMemory = IsLeft old new
IsUnread old new fault.Read = IsLeft old new
IsUnread old new fault.Write = ⊥
IsUnread old new fault.TooLong = IsPast old new
