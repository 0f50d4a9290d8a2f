-- What the steps of a run over a stream write.
use Rattle.std.specs.Prelude.{◌≡◌, ◌≢◌, ℕ, Bool, List, [], ◌++◌, length, Option, ◌&&◌}
use Rattle.std.specs.Io.KnownBytes.{Appends}
use Rattle.ber_core.specs.Feeding.{Left, StandsBehind}
use Rattle.ber_core.specs.Stream.{cut_of}
use Rattle.tcap_text.specs.declared.fault.PlayFault.{PlayFault}
use Rattle.tcap_text.specs.declared.fault.PlayFault.TheVariants as fault
use Rattle.tcap_text.specs.StreamText.{verdict_lines, all_good, last_line_by, ends_by}
use Rattle.tcap_words.specs.Writing.{IsFront}

-- The lines of some messages were written, and of no more: memory runs out for the next (own).
pub record IsTold (messages : List (List ℕ)) (old new : Option (List ℕ)) : Type 0 where
  pub told : List (List ℕ)
  pub untold : List (List ℕ)
  pub are_messages : messages ≡ told ++ untold
  pub written : Appends old new (verdict_lines told)

-- Why not every message's line was written, and what was (own).
abbrev pub IsUntold : List (List ℕ) → Option (List ℕ) → Option (List ℕ) → PlayFault → Type 0
IsUntold messages old new fault.OutOfMemory = IsTold messages old new
IsUntold messages old new fault.Read = ⊥
IsUntold messages old new fault.Write = IsFront (verdict_lines messages) old new
IsUntold messages old new fault.TooLong = ⊥

-- The messages that a piece completes of a stream (own).
pub record AreCompleted (stream piece : List ℕ) (completed : List (List ℕ)) : Type 0 where
  pub messages : (cut_of (stream ++ piece)).messages ≡ (cut_of stream).messages ++ completed

-- The piece was taken, the line of each message that it completes was written, and this tells whether all
-- of them are good (own).
pub record IsTaken (stream piece : List ℕ) (left : Left) (old new : Option (List ℕ)) (good : Bool) : Type 0 where
  pub completed : List (List ℕ)
  pub are_completed : AreCompleted stream piece completed
  pub stands : StandsBehind (stream ++ piece) left
  pub written : Appends old new (verdict_lines completed)
  pub verdict : good ≡ all_good completed

-- Why not every line of the messages that a piece completes was written, and what was (own).
pub record IsUntaken (stream piece : List ℕ) (old new : Option (List ℕ)) (fault : PlayFault) : Type 0 where
  pub completed : List (List ℕ)
  pub are_completed : AreCompleted stream piece completed
  pub untold : IsUntold completed old new fault

-- Why the last line was not written, and what of it was (own).
abbrev pub IsUnended : Left → Option (List ℕ) → Option (List ℕ) → PlayFault → Type 0
IsUnended left old new fault.OutOfMemory = Appends old new [] × (last_line_by left.fault (length left.rest) ≢ [])
IsUnended left old new fault.Read = ⊥
IsUnended left old new fault.Write = IsFront (last_line_by left.fault (length left.rest)) old new
IsUnended left old new fault.TooLong = ⊥

-- The last line was written, and this tells whether a stream ends well of which all messages are good or
-- not (own).
abbrev pub IsFinished : Left → Bool → Option (List ℕ) → Option (List ℕ) → Bool → Type 0
IsFinished left good old new ends = Appends old new (last_line_by left.fault (length left.rest)) × (ends ≡ (good && ends_by left.fault (length left.rest)))
