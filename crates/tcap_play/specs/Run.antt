-- What a run over a reader and a writer reads and writes.
use Rattle.std.specs.Prelude.{◌≡◌, Bool, List, ℕ, Option}
use Rattle.std.specs.Io.KnownBytes.{Appends, Keeps}
use Rattle.tcap_play.specs.Play.{play_text_of, play_is_good}
use Rattle.tcap_text.specs.Input.{IsScript, IsLeft, IsPast}
use Rattle.tcap_text.specs.declared.fault.PlayFault.{PlayFault}
use Rattle.tcap_text.specs.declared.fault.PlayFault.TheVariants as fault
use Rattle.tcap_words.specs.Writing.{IsFront}

-- All that the reader had is the script: what its play prints was written behind what the writer held, and
-- this is its verdict (own).
pub record IsPlayed (had left old new : Option (List ℕ)) (good : Bool) : Type 0 where
  pub script : List ℕ
  pub is_script : IsScript had left script
  pub written : Appends old new (play_text_of script)
  pub verdict : good ≡ play_is_good script

-- All that the reader had is the script, and a prefix of what its play prints, never all of it, was written
-- behind what the writer held (own).
pub record IsPlayCut (had left old new : Option (List ℕ)) : Type 0 where
  pub script : List ℕ
  pub is_script : IsScript had left script
  pub written : IsFront (play_text_of script) old new

-- What the reader gave and the writer took where a run came to no verdict: nothing is written but where a
-- write fails (own).
abbrev pub IsFaulty : Option (List ℕ) → Option (List ℕ) → Option (List ℕ) → Option (List ℕ) → PlayFault → Type 0
IsFaulty had left old new fault.OutOfMemory = IsLeft had left × Keeps old new
IsFaulty had left old new fault.Read = IsLeft had left × Keeps old new
IsFaulty had left old new fault.Write = IsPlayCut had left old new
IsFaulty had left old new fault.TooLong = IsPast had left × Keeps old new
