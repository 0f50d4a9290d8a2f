-- What a piece of a stream does to what is kept of it, and what is added and written for it.
use Rattle.std.specs.Prelude.{◌≡◌, ◌<◌, ℕ, ◌+◌, Bool, List, [], ◌++◌, length, Option, None}
use Rattle.std.specs.Io.KnownBytes.{Appends}
use Rattle.ber_core.specs.declared.fault.FeedFault.{FeedFault}
use Rattle.ber_core.specs.Stream.{cut_into, cut_of}
use Rattle.tcap_words.specs.Writing.{IsFront}
use Rattle.tcap_judging.specs.declared.fault.JudgingFault.{JudgingFault}
use Rattle.tcap_judging.specs.declared.fault.JudgingFault.TheVariants as fault
use Rattle.tcap_judging.specs.Entry.{Entry, broken_entries, message_entries, octets_in, unfinished_entries}
use Rattle.tcap_judging.specs.EntryText.{entries_text, are_good}
use Rattle.tcap_judging.specs.Form.{Form}

-- The lines of the messages that begin the octets were added, and this is what stands behind the last of them (own).
pub record AddsMessages (form : Form) (octets : List ℕ) (offset : ℕ) (rest : List ℕ) (next : ℕ)
    (fault : Option FeedFault) (old new : List ℕ) (good : Bool) : Type 0 where
  pub messages : List (List ℕ)
  pub is_cut : cut_of octets ≡ cut_into messages rest fault
  pub is_rest : cut_of rest ≡ cut_into [] rest fault
  pub is_next : next ≡ offset + octets_in messages
  pub added : new ≡ old ++ entries_text form (message_entries offset messages)
  pub verdict : good ≡ are_good (message_entries offset messages)

-- The octets, of which the first has this offset, are cut so: entries are whole in them, and these octets are kept
-- (own).
pub record TakesOctets (octets : List ℕ) (offset : ℕ) (kept : List ℕ) (next : ℕ) (fault : Option FeedFault)
    (made : List Entry) : Type 0 where
  pub messages : List (List ℕ)
  pub is_cut : cut_of octets ≡ cut_into messages kept fault
  pub is_next : next ≡ offset + octets_in messages
  pub are_made : made ≡ message_entries offset messages ++ broken_entries next kept fault

-- The text of these entries was added, and this tells whether all are good (own).
pub record AddsOctets (form : Form) (octets : List ℕ) (offset : ℕ) (kept : List ℕ) (next : ℕ)
    (fault : Option FeedFault) (old new : List ℕ) (good : Bool) : Type 0 where
  pub made : List Entry
  pub takes : TakesOctets octets offset kept next fault made
  pub added : new ≡ old ++ entries_text form made
  pub verdict : good ≡ are_good made

-- The same, written (own).
pub record WritesOctets (form : Form) (octets : List ℕ) (offset : ℕ) (kept : List ℕ) (next : ℕ)
    (fault : Option FeedFault) (old new : Option (List ℕ)) (good : Bool) : Type 0 where
  pub made : List Entry
  pub takes : TakesOctets octets offset kept next fault made
  pub written : Appends old new (entries_text form made)
  pub verdict : good ≡ are_good made

-- Some entries are whole in the octets, and a front of their text was written, but not all of it (own).
pub record AreOctetsCut (form : Form) (octets : List ℕ) (offset : ℕ) (old new : Option (List ℕ)) : Type 0 where
  pub kept : List ℕ
  pub next : ℕ
  pub fault : Option FeedFault
  pub made : List Entry
  pub takes : TakesOctets octets offset kept next fault made
  pub written : IsFront (entries_text form made) old new

-- Why not all of that text was written, and what was (own).
abbrev pub AreOctetsUntaken : Form → List ℕ → ℕ → Option (List ℕ) → Option (List ℕ) → JudgingFault → Type 0
AreOctetsUntaken form octets offset old new fault.OutOfMemory = Appends old new []
AreOctetsUntaken form octets offset old new fault.Read = ⊥
AreOctetsUntaken form octets offset old new fault.Write = AreOctetsCut form octets offset old new
AreOctetsUntaken form octets offset old new fault.TooLong = ⊥

-- Why the text of the message that isn't whole was not written, and what of it was (own).
abbrev pub IsRestUntold : Form → List ℕ → ℕ → Option (List ℕ) → Option (List ℕ) → JudgingFault → Type 0
IsRestUntold form rest offset old new fault.OutOfMemory = Appends old new [] × (0 < length rest)
IsRestUntold form rest offset old new fault.Read = ⊥
IsRestUntold form rest offset old new fault.Write = IsFront (entries_text form (unfinished_entries offset rest None))
    old new
IsRestUntold form rest offset old new fault.TooLong = ⊥
