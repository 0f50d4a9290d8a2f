-- What a run of the program gives: what it writes and its verdict, or why it came to none.
use Rattle.std.specs.Prelude.{◌≡◌, ℕ, List, codes, Option, Some, None, Result, Ok, Err}
use Rattle.std.specs.Io.KnownBytes.{Appends, Keeps}
use Rattle.tcap_words.specs.Writing.{IsFront}
use Rattle.tcap_story_cmd.specs.CommandLine.{Asked, asked_by, inputs_of}
use Rattle.tcap_story_cmd.specs.Run.{IsTold, IsUntold}
use Rattle.tcap_story_cmd.specs.Texts.{help_text, version_text}
use Rattle.tcap_story_cmd.specs.declared.refusal.Refusal.{Refusal}
use Rattle.tcap_story_cmd.specs.declared.refusal.Refusal.TheVariants as refusal
use Rattle.tcap_story_cmd.specs.declared.verdict.Verdict.{Verdict}
use Rattle.tcap_story_cmd.specs.declared.verdict.Verdict.TheVariants as verdict

-- The words of the line on standard error (own).
abbrev pub refusal_words : Refusal → List ℕ
refusal_words refusal.BadCommand = codes "bad command; --help tells the options"
refusal_words refusal.OutOfMemory = codes "out of memory"
refusal_words refusal.WriteFailed = codes "write failed"

-- This text was written, and standard input stays as it was (own).
abbrev pub IsWritten : List ℕ → (had left old new : Option (List ℕ)) → Verdict → Type 0
IsWritten text had left old new v = Appends old new text × (left ≡ had) × (v ≡ verdict.Passed)

-- Why it was not written to its end (own).
abbrev pub IsUnwritten : List ℕ → (had left old new : Option (List ℕ)) → Refusal → Type 0
IsUnwritten text had left old new refusal.BadCommand = ⊥
IsUnwritten text had left old new refusal.OutOfMemory = ⊥
IsUnwritten text had left old new refusal.WriteFailed = IsFront text old new × (left ≡ had)

-- What is asked for was done, with this verdict (own).
abbrev pub IsAnswered : (List ℕ → Option (List ℕ)) → Asked → (had left old new : Option (List ℕ)) → Verdict → Type 0
IsAnswered octets_of Asked.help had left old new v = IsWritten help_text had left old new v
IsAnswered octets_of Asked.version had left old new v = IsWritten version_text had left old new v
IsAnswered octets_of (Asked.stories report names) had left old new v = IsTold report octets_of (inputs_of names) had left old new v

-- Why what is asked for was not done, and what was (own).
abbrev pub IsUnanswered : (List ℕ → Option (List ℕ)) → Asked → (had left old new : Option (List ℕ)) → Refusal → Type 0
IsUnanswered octets_of Asked.help had left old new r = IsUnwritten help_text had left old new r
IsUnanswered octets_of Asked.version had left old new r = IsUnwritten version_text had left old new r
IsUnanswered octets_of (Asked.stories report names) had left old new r = IsUntold report octets_of (inputs_of names) had left old new r

-- What a run does for what is asked for, if anything is (own).
abbrev pub DoneFor : Option Asked → (List ℕ → Option (List ℕ)) → (had left old new : Option (List ℕ)) → Result Verdict Refusal → Type 0
DoneFor None octets_of had left old new (Ok v) = ⊥
DoneFor None octets_of had left old new (Err r) = (r ≡ refusal.BadCommand) × Keeps old new × (left ≡ had)
DoneFor (Some asked) octets_of had left old new (Ok v) = IsAnswered octets_of asked had left old new v
DoneFor (Some asked) octets_of had left old new (Err r) = IsUnanswered octets_of asked had left old new r

-- What a run for these words gives: what standard input had before and after, and what the writer held (own).
abbrev pub Gave : List (List ℕ) → (List ℕ → Option (List ℕ)) → (had left old new : Option (List ℕ)) → Result Verdict Refusal → Type 0
Gave words octets_of had left old new answer = DoneFor (asked_by words) octets_of had left old new answer

-- The status: 0 where all have passed, 1 where one has failed, 2 where one was not read, or the run came to no end (own).
abbrev pub status_of : Result Verdict Refusal → ℕ
status_of (Ok verdict.Passed) = 0
status_of (Ok verdict.Failed) = 1
status_of (Ok verdict.NotRead) = 2
status_of (Err r) = 2
