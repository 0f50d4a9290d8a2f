-- What the octets of an input do to the line that is under way, and what is added and written for them.
use Rattle.std.specs.Prelude.{◌≡◌, ℕ, ◌+◌, Bool, List, [], ◌++◌, length, Option}
use Rattle.std.specs.Io.KnownBytes.{Appends}
use Rattle.tcap_words.specs.Writing.{IsFront}
use Rattle.tcap_judging.specs.declared.fault.JudgingFault.{JudgingFault}
use Rattle.tcap_judging.specs.declared.fault.JudgingFault.TheVariants as fault
use Rattle.tcap_judging.specs.declared.naming.Naming.{Naming}
use Rattle.tcap_judging.specs.Entry.{Entry, line, numbered}
use Rattle.tcap_judging.specs.EntryText.{entry_text, entries_text, are_good}
use Rattle.tcap_judging.specs.Lines.{IsInLines}
use Rattle.tcap_judging.specs.LineViews.{IsUnderWay}
use Rattle.tcap_judging.specs.Form.{Form}

-- The octets that follow so much of a line make these lines whole, which have their numbers from this one on, and
-- leave so much of a line (own).
pub record Takes (naming : Naming) (begun octets : List ℕ) (number : ℕ) (kept : List ℕ) (is_long : Bool) (next : ℕ)
    (entries : List Entry) : Type 0 where
  pub lines : List (List ℕ)
  pub left : List ℕ
  pub is_in_lines : IsInLines lines left (begun ++ octets)
  pub under_way : IsUnderWay left kept is_long
  pub next_number : next ≡ number + length lines
  pub are_entries : entries ≡ numbered naming number lines

-- The text of the lines that the octets make whole was added, and this tells whether all are good (own).
pub record Adds (form : Form) (naming : Naming) (begun octets : List ℕ) (number : ℕ) (kept : List ℕ) (is_long : Bool)
    (next : ℕ) (old new : List ℕ) (good : Bool) : Type 0 where
  pub entries : List Entry
  pub takes : Takes naming begun octets number kept is_long next entries
  pub added : new ≡ old ++ entries_text form entries
  pub verdict : good ≡ are_good entries

-- The same, written (own).
pub record Writes (form : Form) (naming : Naming) (begun octets : List ℕ) (number : ℕ) (kept : List ℕ) (is_long : Bool)
    (next : ℕ) (old new : Option (List ℕ)) (good : Bool) : Type 0 where
  pub entries : List Entry
  pub takes : Takes naming begun octets number kept is_long next entries
  pub written : Appends old new (entries_text form entries)
  pub verdict : good ≡ are_good entries

-- Some lines are whole in the octets that follow so much of a line, and a front of their text was written, but not
-- all of it (own).
pub record IsPieceCut (form : Form) (naming : Naming) (begun octets : List ℕ) (number : ℕ)
    (old new : Option (List ℕ)) : Type 0 where
  pub lines : List (List ℕ)
  pub left : List ℕ
  pub is_in_lines : IsInLines lines left (begun ++ octets)
  pub written : IsFront (entries_text form (numbered naming number lines)) old new

-- Why not all of that text was written, and what was (own).
abbrev pub IsUntaken : Form → Naming → List ℕ → List ℕ → ℕ → Option (List ℕ) → Option (List ℕ) → JudgingFault → Type 0
IsUntaken form naming begun octets number old new fault.OutOfMemory = Appends old new []
IsUntaken form naming begun octets number old new fault.Read = ⊥
IsUntaken form naming begun octets number old new fault.Write = IsPieceCut form naming begun octets number old new
IsUntaken form naming begun octets number old new fault.TooLong = ⊥

-- Why the text of the last line was not written, and what of it was (own).
abbrev pub IsUnended : Form → Naming → List ℕ → ℕ → Option (List ℕ) → Option (List ℕ) → JudgingFault → Type 0
IsUnended form naming begun number old new fault.OutOfMemory = Appends old new []
IsUnended form naming begun number old new fault.Read = ⊥
IsUnended form naming begun number old new fault.Write = IsFront (entry_text form (line naming number begun)) old new
IsUnended form naming begun number old new fault.TooLong = ⊥
