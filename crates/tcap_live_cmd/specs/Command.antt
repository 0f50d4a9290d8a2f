-- What a run of the command gives: what it wrote and whether no line was bad, or why it came to no end.
use Rattle.std.specs.Prelude.{◌≡◌, ◌⊎◌, ℕ, Bool, true, false, List, [], Option, Result, Ok, Err, MatchResult}
use Rattle.std.specs.Io.KnownBytes.{Appends, Keeps}
use Rattle.clap.specs.Words.{Text}
use Rattle.tcap_living.specs.LiveRun.{IsCut, IsEndless, IsHalted, IsLived, IsLong, IsShort}
use Rattle.tcap_model.specs.Histories.History.{History, Start}
use Rattle.tcap_words.specs.Writing.{IsFront}
use Rattle.tcap_live_cmd.specs.CommandLine.{Ask, AskNothing, Asked}
use Rattle.tcap_live_cmd.specs.Texts.{help_text, version_text}
use Rattle.tcap_live_cmd.specs.declared.refusal.Refusal.{Refusal}
use Rattle.tcap_live_cmd.specs.declared.refusal.Refusal.TheVariants.{BadCommand, OutOfMemory, WriteFailed, ReadFailed, LineTooLong}

-- The history in which nothing has happened to an engine that starts so (own).
abbrev pub nothing_at : Start → History
nothing_at start = record { start = start; pairs = [] }

-- A text was written, and it is good (own).
abbrev pub IsTold : List ℕ → Option (List ℕ) → Option (List ℕ) → Bool → Type 0
IsTold text old new good = Appends old new text × (good ≡ true)

-- What was asked for was done: lines were answered up to the end of the input, or a text was written (own).
abbrev pub IsAnswered : Asked → Option (List ℕ) → Option (List ℕ) → Option (List ℕ) → Option (List ℕ) → Bool → Type 0
IsAnswered (Asked.run format start) had left old new good = IsLived format (nothing_at start) had left old new good
IsAnswered Asked.help had left old new good = IsTold help_text old new good
IsAnswered Asked.version had left old new good = IsTold version_text old new good

-- A write failed (own).
abbrev pub IsUnwritten : Asked → Option (List ℕ) → Option (List ℕ) → Option (List ℕ) → Option (List ℕ) → Type 0
IsUnwritten (Asked.run format start) had left old new = IsCut format (nothing_at start) had left old new
IsUnwritten Asked.help had left old new = IsFront help_text old new
IsUnwritten Asked.version had left old new = IsFront version_text old new

-- Why what was asked for was not done, and what was read and written: only a run wants memory and reads
-- (own).
abbrev pub IsUndone : Asked → Refusal → Option (List ℕ) → Option (List ℕ) → Option (List ℕ) → Option (List ℕ) → Type 0
IsUndone asked BadCommand had left old new = ⊥
IsUndone (Asked.run format start) OutOfMemory had left old new = IsShort format (nothing_at start) had left old new
IsUndone Asked.help OutOfMemory had left old new = ⊥
IsUndone Asked.version OutOfMemory had left old new = ⊥
IsUndone asked WriteFailed had left old new = IsUnwritten asked had left old new
IsUndone (Asked.run format start) ReadFailed had left old new = IsHalted format (nothing_at start) had left old new
IsUndone Asked.help ReadFailed had left old new = ⊥
IsUndone Asked.version ReadFailed had left old new = ⊥
IsUndone (Asked.run format start) LineTooLong had left old new = IsLong format (nothing_at start) had left old new ⊎ IsEndless format (nothing_at start) had left old new
IsUndone Asked.help LineTooLong had left old new = ⊥
IsUndone Asked.version LineTooLong had left old new = ⊥

-- The words ask for something, and it was not done so (own).
abbrev pub IsAskedUndone : List Text → Refusal → Option (List ℕ) → Option (List ℕ) → Option (List ℕ) → Option (List ℕ) → Type 0
IsAskedUndone words refusal had left old new = (asked : Asked) × Ask words asked × IsUndone asked refusal had left old new

-- When a run for these words may be refused, and what it read and wrote: memory may be refused while they
-- are read, whatever they ask for, and nothing is written then (own).
abbrev pub IsRefusal : List Text → Refusal → Option (List ℕ) → Option (List ℕ) → Option (List ℕ) → Option (List ℕ) → Type 0
IsRefusal words BadCommand had left old new = AskNothing words × Keeps old new
IsRefusal words OutOfMemory had left old new = Keeps old new ⊎ IsAskedUndone words OutOfMemory had left old new
IsRefusal words WriteFailed had left old new = IsAskedUndone words WriteFailed had left old new
IsRefusal words ReadFailed had left old new = IsAskedUndone words ReadFailed had left old new
IsRefusal words LineTooLong had left old new = IsAskedUndone words LineTooLong had left old new

-- The status: 0 no line bad, 1 one bad, 2 refused (own).
abbrev pub status_of : Result Bool Refusal → ℕ
status_of (Ok true) = 0
status_of (Ok false) = 1
status_of (Err refusal) = 2

-- What a run for these words gives, what the reader had before and after, and what the writer held (own).
abbrev pub Gave : List Text → Option (List ℕ) → Option (List ℕ) → Option (List ℕ) → Option (List ℕ) → Result Bool Refusal → Type 0
Gave words had left old new answer = MatchResult answer
    (λ good. (asked : Asked) × Ask words asked × IsAnswered asked had left old new good)
    (λ refusal. IsRefusal words refusal had left old new)
