-- What a run reads and writes, by what its input tells: the entries that are whole in it, and those that only the end
-- of the input makes.
use Rattle.std.specs.Prelude.{◌≡◌, ◌≢◌, ◌≤◌, ◌<◌, ◌⊎◌, ℕ, Bool, List, [], ◌++◌, length, Option}
use Rattle.std.specs.Io.KnownBytes.{Appends, Consumes, IsAtEnd}
use Rattle.tcap_judging.specs.declared.fault.JudgingFault.{JudgingFault}
use Rattle.tcap_judging.specs.declared.fault.JudgingFault.TheVariants as fault
use Rattle.tcap_judging.specs.Entry.{Entry, IsBroken}
use Rattle.tcap_judging.specs.EntryText.{entries_text, are_good}
use Rattle.tcap_judging.specs.Form.{Form}

-- The most reads of a run (own).
abbrev pub most_reads : ℕ
most_reads = 1099511627776

-- The input was read up to its end, or up to octets of a stream at which no message is, the text of all its entries was
-- written behind what the writer held, and this tells whether all are good (own).
pub record IsJudged (form : Form) (Tells : List ℕ → List Entry → List Entry → Type 0)
    (had left old new : Option (List ℕ)) (good : Bool) : Type 0 where
  pub input : List ℕ
  pub entries : List Entry
  pub last : List Entry
  pub given : Consumes had left input
  pub over : IsAtEnd left ⊎ (IsBroken entries × (last ≡ []))
  pub tells : Tells input entries last
  pub written : Appends old new (entries_text form (entries ++ last))
  pub verdict : good ≡ are_good (entries ++ last)

-- The text of the entries that are whole in what was read was written, and no more (own).
pub record IsHalted (form : Form) (Tells : List ℕ → List Entry → List Entry → Type 0)
    (had left old new : Option (List ℕ)) : Type 0 where
  pub input : List ℕ
  pub entries : List Entry
  pub last : List Entry
  pub given : Consumes had left input
  pub tells : Tells input entries last
  pub written : Appends old new (entries_text form entries)

-- A run was halted in an input of at least an octet for each read that a run may make (own).
pub record IsEndless (form : Form) (Tells : List ℕ → List Entry → List Entry → Type 0)
    (had left old new : Option (List ℕ)) : Type 0 where
  pub halted : IsHalted form Tells had left old new
  pub many : most_reads ≤ length halted.input

-- Memory is refused for what the last read gave, or for what the end of the input tells: the text of the entries that
-- are whole before that was written, and no more (own).
pub record IsShort (form : Form) (Tells : List ℕ → List Entry → List Entry → Type 0)
    (had left old new : Option (List ℕ)) : Type 0 where
  pub before : List ℕ
  pub piece : List ℕ
  pub entries : List Entry
  pub last : List Entry
  pub given : Consumes had left (before ++ piece)
  pub wanted : (piece ≢ []) ⊎ (IsAtEnd left × (last ≢ []))
  pub tells : Tells before entries last
  pub written : Appends old new (entries_text form entries)

-- What the last read gave makes these entries whole, or the input ends and makes them (own).
abbrev pub IsMade : (List ℕ → List Entry → List Entry → Type 0) → Option (List ℕ) → List ℕ → List ℕ → List Entry
    → List Entry → List Entry → Type 0
IsMade Tells left before piece entries last made =
    ((later : List Entry) × Tells (before ++ piece) (entries ++ made) later)
    ⊎ ((piece ≡ []) × IsAtEnd left × (made ≡ last))

-- A write failed: the text of the entries that are whole before the last read was written, and of the text of those
-- that the read made whole, or the end of the input, a front, but not all of it (own).
pub record IsCut (form : Form) (Tells : List ℕ → List Entry → List Entry → Type 0)
    (had left old new : Option (List ℕ)) : Type 0 where
  pub before : List ℕ
  pub piece : List ℕ
  pub entries : List Entry
  pub last : List Entry
  pub made : List Entry
  pub given : Consumes had left (before ++ piece)
  pub tells : Tells before entries last
  pub are_made : IsMade Tells left before piece entries last made
  pub front : List ℕ
  pub rest : List ℕ
  pub is_text : entries_text form made ≡ front ++ rest
  pub is_cut : 0 < length rest
  pub written : Appends old new (entries_text form entries ++ front)

-- What the reader gave and the writer took where a run came to no end (own).
abbrev pub IsUnjudged : Form → (List ℕ → List Entry → List Entry → Type 0) → Option (List ℕ) → Option (List ℕ)
    → Option (List ℕ) → Option (List ℕ) → JudgingFault → Type 0
IsUnjudged form Tells had left old new fault.OutOfMemory = IsShort form Tells had left old new
IsUnjudged form Tells had left old new fault.Read = IsHalted form Tells had left old new
IsUnjudged form Tells had left old new fault.Write = IsCut form Tells had left old new
IsUnjudged form Tells had left old new fault.TooLong = IsEndless form Tells had left old new
