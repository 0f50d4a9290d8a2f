-- The words of a refusal, and how a fault of a run is told.
use Rattle.std.specs.Prelude.{ℕ, List, codes}
use Rattle.tcap_live_cmd.specs.declared.refusal.Refusal.{Refusal}
use Rattle.tcap_live_cmd.specs.declared.refusal.Refusal.TheVariants.{BadCommand, OutOfMemory, WriteFailed, ReadFailed, LineTooLong}
use Rattle.tcap_text.specs.declared.fault.PlayFault.{PlayFault}
use Rattle.tcap_text.specs.declared.fault.PlayFault.TheVariants as fault

-- The words of the line on standard error (own).
abbrev pub refusal_words : Refusal → List ℕ
refusal_words BadCommand = codes "bad command; --help tells the options"
refusal_words OutOfMemory = codes "out of memory"
refusal_words WriteFailed = codes "write failed"
refusal_words ReadFailed = codes "read failed"
refusal_words LineTooLong = codes "line too long"

-- The refusal that tells a fault of a run (own).
abbrev pub refusal_of : PlayFault → Refusal
refusal_of fault.OutOfMemory = OutOfMemory
refusal_of fault.Read = ReadFailed
refusal_of fault.Write = WriteFailed
refusal_of fault.TooLong = LineTooLong
