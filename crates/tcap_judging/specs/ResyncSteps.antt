-- What a step of a stream that goes on behind its faults comes to.
use Rattle.std.specs.Prelude.{◌≡◌, ◌==◌, ◌&&◌, ◌||◌, not, nat_lt, ℕ, ◌+◌, ◌*◌, Bool, true, false, List, [], ◌++◌, length, Option}
use Rattle.std.specs.Io.KnownBytes.{Appends}
use Rattle.tcap_words.specs.Writing.{IsFront}
use Rattle.tcap_judging.specs.declared.fault.JudgingFault.{JudgingFault}
use Rattle.tcap_judging.specs.declared.fault.JudgingFault.TheVariants as fault
use Rattle.tcap_judging.specs.Form.{Form}
use Rattle.tcap_judging.specs.declared.place.Place.{Place}
use Rattle.tcap_judging.specs.declared.place.Place.TheVariants.{Reading, Searching, Within}
use Rattle.tcap_judging.specs.Entry.{Entry}
use Rattle.tcap_judging.specs.EntryText.{entries_text, are_good}
use Rattle.tcap_judging.specs.Resync.{Tells, passed_in}

-- The offset of the first octet behind a place (own).
abbrev pub offset_at : Place → ℕ
offset_at (Reading offset) = offset
offset_at (Searching first count) = first + count
offset_at (Within first count left) = first + count

-- How much a place has before it: a search goes before what it finds (own).
abbrev pub left_at : Place → ℕ → ℕ
left_at (Reading offset) len = 2 * len
left_at (Searching first count) len = 1 + 2 * len
left_at (Within first count left) len = 1 + 2 * len

-- Where a stream ends no more octets come (own).
abbrev pub IsAhead : (ends : Bool) → List ℕ → Bool → Type 0
IsAhead true more later_ends = (more ≡ []) × (later_ends ≡ true)
IsAhead false more later_ends = Unit {0}

-- From a place with these octets behind it a stream tells these entries and stands at the later place with the rest
-- behind it: whatever comes, what it tells from there it tells behind these entries. Where it is over, it tells no more
-- there (own).
pub record Leads (ends : Bool) (place : Place) (octets : List ℕ) (made : List Entry) (later : Place) (rest : List ℕ)
    (is_over : Bool) : Type 0 where
  pub goes : (more : List ℕ) (later_ends : Bool) (others : List Entry) → IsAhead ends more later_ends
      → Tells later_ends later (rest ++ more) others → Tells later_ends place (octets ++ more) (made ++ others)
  pub over : is_over ≡ true → Tells ends later rest []

-- The text of what is told on the way was added (own).
pub record AddsSteps (form : Form) (ends : Bool) (place : Place) (octets : List ℕ) (later : Place) (rest : List ℕ)
    (is_over : Bool) (old new : List ℕ) (good : Bool) : Type 0 where
  pub made : List Entry
  pub leads : Leads ends place octets made later rest is_over
  pub added : new ≡ old ++ entries_text form made
  pub verdict : good ≡ are_good made

-- The text of all that octets tell while more may follow was written (own).
pub record WritesSteps (form : Form) (place : Place) (octets : List ℕ) (later : Place) (rest : List ℕ)
    (old new : Option (List ℕ)) (good : Bool) : Type 0 where
  pub made : List Entry
  pub leads : Leads false place octets made later rest true
  pub written : Appends old new (entries_text form made)
  pub verdict : good ≡ are_good made

-- A front of that text was written, but not all of it (own).
pub record AreStepsCut (form : Form) (place : Place) (octets : List ℕ) (old new : Option (List ℕ)) : Type 0 where
  pub made : List Entry
  pub later : Place
  pub rest : List ℕ
  pub leads : Leads false place octets made later rest true
  pub written : IsFront (entries_text form made) old new

-- Why not all of that text was written, and what was (own).
abbrev pub AreStepsUntaken : Form → Place → List ℕ → Option (List ℕ) → Option (List ℕ) → JudgingFault → Type 0
AreStepsUntaken form place octets old new fault.OutOfMemory = Appends old new []
AreStepsUntaken form place octets old new fault.Read = ⊥
AreStepsUntaken form place octets old new fault.Write = AreStepsCut form place octets old new
AreStepsUntaken form place octets old new fault.TooLong = ⊥

-- A stream that ends has more to tell: octets are left, or a search isn't over; within a faulty message octets are left
-- behind it, or a good one begins in it (own).
abbrev pub has_more : Place → List ℕ → Bool
has_more (Reading offset) octets = not (length octets == 0)
has_more (Searching first count) octets = true
has_more (Within first count left) octets = nat_lt left (length octets) || nat_lt (passed_in true octets) left

-- What the end of the stream tells behind the later place it tells behind this one; and it has no more to tell (own).
pub record StandsBehind (place : Place) (octets : List ℕ) (later : Place) (rest : List ℕ) : Type 0 where
  pub tells : (entries : List Entry) → Tells true later rest entries → Tells true place octets entries
  pub no_more : has_more later rest ≡ true → has_more place octets ≡ true

-- The text of all that the end of the stream tells was written, and this tells whether the stream is good, where so
-- much of what stands before is known (own).
pub record WritesEnd (form : Form) (place : Place) (octets : List ℕ) (old new : Option (List ℕ)) (good ends : Bool) :
    Type 0 where
  pub made : List Entry
  pub tells : Tells true place octets made
  pub written : Appends old new (entries_text form made)
  pub verdict : ends ≡ (good && are_good made)

-- A front of that text was written, but not all of it (own).
pub record IsEndCut (form : Form) (place : Place) (octets : List ℕ) (old new : Option (List ℕ)) : Type 0 where
  pub made : List Entry
  pub tells : Tells true place octets made
  pub written : IsFront (entries_text form made) old new

-- Why not all of that text was written, and what was (own).
abbrev pub IsEndUntold : Form → Place → List ℕ → Option (List ℕ) → Option (List ℕ) → JudgingFault → Type 0
IsEndUntold form place octets old new fault.OutOfMemory = Appends old new [] × (has_more place octets ≡ true)
IsEndUntold form place octets old new fault.Read = ⊥
IsEndUntold form place octets old new fault.Write = IsEndCut form place octets old new
IsEndUntold form place octets old new fault.TooLong = ⊥
