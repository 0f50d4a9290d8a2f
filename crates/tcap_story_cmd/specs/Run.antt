-- What a run over named stories reads and writes.
use Rattle.std.specs.Prelude.{◌≡◌, ℕ, List, [], ◌++◌, Option, Result}
use Rattle.std.specs.Io.KnownBytes.{Appends, Keeps}
use Rattle.tcap_words.specs.Writing.{IsFront}
use Rattle.tcap_story_cmd.specs.Counting.{AreCounts}
use Rattle.tcap_story_cmd.specs.Reading.{AreHalted, AreRead, IsRead}
use Rattle.tcap_story_cmd.specs.Stories.{Entry, report_by, reports, told_stories, verdict_by, verdict_on}
use Rattle.tcap_story_cmd.specs.declared.refusal.Refusal.{Refusal}
use Rattle.tcap_story_cmd.specs.declared.refusal.Refusal.TheVariants as refusal
use Rattle.tcap_story_cmd.specs.declared.report_text.Report.{Report}
use Rattle.tcap_story_cmd.specs.declared.tally.Tally.{Tally}
use Rattle.tcap_story_cmd.specs.declared.unread.Unread.{Unread}
use Rattle.tcap_story_cmd.specs.declared.verdict.Verdict.{Verdict}

-- A story was read under a name, and the report on it added, with this verdict (own).
pub record IsTaken (report : Report) (octets_of : List ℕ → Option (List ℕ)) (name : List ℕ) (had left : Option (List ℕ)) (before after : List ℕ) (v : Verdict) : Type 0 where
  pub input : Result (List ℕ) Unread
  pub read : IsRead octets_of name had left input
  pub told : after ≡ before ++ report_by report name input
  pub verdict : v ≡ verdict_by input

-- The stories of the first of these names were read, and the others are left; the reports on them were added, in their
-- order, and counted (own).
pub record AreTold (report : Report) (octets_of : List ℕ → Option (List ℕ)) (names others : List (List ℕ)) (had left : Option (List ℕ)) (before after : List ℕ) (tally : Tally) : Type 0 where
  pub entries : List Entry
  pub read : AreRead octets_of names entries others had left
  pub told : after ≡ before ++ reports report entries
  pub counts : AreCounts tally entries

-- The stories of all names were read, this is what is told of them, and the verdict on all (own).
pub record IsText (report : Report) (octets_of : List ℕ → Option (List ℕ)) (names : List (List ℕ)) (had left : Option (List ℕ)) (text : List ℕ) (v : Verdict) : Type 0 where
  pub entries : List Entry
  pub read : AreRead octets_of names entries [] had left
  pub told : text ≡ told_stories report entries
  pub verdict : v ≡ verdict_on entries

-- The stories of all names were read, what is told of them was written behind what the writer held, and this is the
-- verdict on all (own).
pub record IsTold (report : Report) (octets_of : List ℕ → Option (List ℕ)) (names : List (List ℕ)) (had left old new : Option (List ℕ)) (v : Verdict) : Type 0 where
  pub entries : List Entry
  pub read : AreRead octets_of names entries [] had left
  pub written : Appends old new (told_stories report entries)
  pub verdict : v ≡ verdict_on entries

-- The stories of all names were read, and a front of what is told of them was written, but not all of it (own).
pub record IsCut (report : Report) (octets_of : List ℕ → Option (List ℕ)) (names : List (List ℕ)) (had left old new : Option (List ℕ)) : Type 0 where
  pub entries : List Entry
  pub read : AreRead octets_of names entries [] had left
  pub written : IsFront (told_stories report entries) old new

-- Why stories were not told: memory was refused, and nothing was written; or a write failed (own).
abbrev pub IsUntold : Report → (List ℕ → Option (List ℕ)) → List (List ℕ) → (had left old new : Option (List ℕ)) → Refusal → Type 0
IsUntold report octets_of names had left old new refusal.BadCommand = ⊥
IsUntold report octets_of names had left old new refusal.OutOfMemory = AreHalted octets_of names had left × Keeps old new
IsUntold report octets_of names had left old new refusal.WriteFailed = IsCut report octets_of names had left old new
