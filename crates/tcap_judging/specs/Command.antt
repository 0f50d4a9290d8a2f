-- What a run of the command gives: what it writes and its verdict, or why it came to none.
use Rattle.std.specs.Prelude.{◌≡◌, ◌⊎◌, ℕ, Bool, true, false, List, Option, Result, Ok, Err, MatchResult}
use Rattle.std.specs.Io.KnownBytes.{Appends, Keeps}
use Rattle.clap.specs.Words.{Text}
use Rattle.tcap_judging.specs.CommandLine.{Ask, AskNothing}
use Rattle.tcap_judging.specs.Entry.{LinesTell, StreamTells}
use Rattle.tcap_judging.specs.Form.{form_by}
use Rattle.tcap_judging.specs.HelpText.{help_text, version_text}
use Rattle.tcap_judging.specs.Names.{NameParts}
use Rattle.tcap_judging.specs.Resync.{ResyncTells}
use Rattle.tcap_judging.specs.Run.{IsJudged, IsUnjudged}
use Rattle.tcap_judging.specs.declared.fault.JudgingFault.{JudgingFault}
use Rattle.tcap_judging.specs.declared.fault.JudgingFault.TheVariants as fault
use Rattle.tcap_judging.specs.declared.refusal.Refusal.{Refusal}
use Rattle.tcap_judging.specs.declared.refusal.Refusal.TheVariants.{BadCommand, Fault, NoNames, BadNames}
use Rattle.tcap_judging.specs.declared.request.Request.{Request}
use Rattle.tcap_judging.specs.declared.request.Request.TheVariants.{Help, Version, Lines, Stream, Resync}
use Rattle.tcap_words.specs.Writing.{IsFront}

-- The names by which a run prints what messages name, if by some (own).
abbrev pub Names : Type 0
Names = Option (List NameParts)

-- What a reader has yet to give, or a writer took, where that is known (own).
abbrev pub Octets : Type 0
Octets = Option (List ℕ)

-- What is asked for was written, and this is the verdict (own).
abbrev pub IsAnswered : Names → Request → Octets → Octets → Octets → Octets → Bool → Type 0
IsAnswered names Help had left old new good = Appends old new help_text × (good ≡ true)
IsAnswered names Version had left old new good = Appends old new version_text × (good ≡ true)
IsAnswered names (Lines layout naming) had left old new good =
    IsJudged (form_by layout names) (LinesTell naming) had left old new good
IsAnswered names (Stream layout) had left old new good =
    IsJudged (form_by layout names) StreamTells had left old new good
IsAnswered names (Resync layout) had left old new good =
    IsJudged (form_by layout names) ResyncTells had left old new good

-- A text was not written, since a write failed: a front of it was, but not all of it (own).
abbrev pub IsTextCut : List ℕ → Octets → Octets → JudgingFault → Type 0
IsTextCut text old new fault.OutOfMemory = ⊥
IsTextCut text old new fault.Read = ⊥
IsTextCut text old new fault.Write = IsFront text old new
IsTextCut text old new fault.TooLong = ⊥

-- Why what is asked for was not written to its end, and what was (own).
abbrev pub IsUnanswered : Names → Request → Octets → Octets → Octets → Octets → JudgingFault → Type 0
IsUnanswered names Help had left old new f = IsTextCut help_text old new f
IsUnanswered names Version had left old new f = IsTextCut version_text old new f
IsUnanswered names (Lines layout naming) had left old new f =
    IsUnjudged (form_by layout names) (LinesTell naming) had left old new f
IsUnanswered names (Stream layout) had left old new f = IsUnjudged (form_by layout names) StreamTells had left old new f
IsUnanswered names (Resync layout) had left old new f = IsUnjudged (form_by layout names) ResyncTells had left old new f

-- What is asked for is read from standard input (own).
abbrev pub Reads : Request → Type 0
Reads Help = ⊥
Reads Version = ⊥
Reads (Lines layout naming) = Unit {0}
Reads (Stream layout) = Unit {0}
Reads (Resync layout) = Unit {0}

-- The words ask for something that came to no end (own).
abbrev pub IsAskedInVain : Names → List Text → Octets → Octets → Octets → Octets → JudgingFault → Type 0
IsAskedInVain names words had left old new f = (request : Request) × Ask words request
    × IsUnanswered names request had left old new f

-- Why a run came to no verdict: the words ask for nothing, or memory was refused before they were read, and nothing
-- was written; or what they ask for came to no end. What is wrong with a list of names no run tells (own).
abbrev pub IsRefusal : Names → List Text → Octets → Octets → Octets → Octets → Refusal → Type 0
IsRefusal names words had left old new BadCommand = AskNothing words × Keeps old new
IsRefusal names words had left old new (Fault fault.OutOfMemory) = Keeps old new
    ⊎ IsAskedInVain names words had left old new fault.OutOfMemory
IsRefusal names words had left old new (Fault fault.Read) = IsAskedInVain names words had left old new fault.Read
IsRefusal names words had left old new (Fault fault.Write) = IsAskedInVain names words had left old new fault.Write
IsRefusal names words had left old new NoNames = ⊥
IsRefusal names words had left old new (BadNames number) = ⊥
IsRefusal names words had left old new (Fault fault.TooLong) = IsAskedInVain names words had left old new fault.TooLong

-- The status: 0 good, 1 not good, 2 refused (own).
abbrev pub status_of : Result Bool Refusal → ℕ
status_of (Ok true) = 0
status_of (Ok false) = 1
status_of (Err refusal) = 2

-- What a run for these words gives, by these names, what the reader had before and after, and what the writer held
-- (own).
abbrev pub Gave : Names → List Text → Octets → Octets → Octets → Octets → Result Bool Refusal → Type 0
Gave names words had left old new answer = MatchResult answer
    (λ good. (request : Request) × Ask words request × IsAnswered names request had left old new good)
    (λ refusal. IsRefusal names words had left old new refusal)
