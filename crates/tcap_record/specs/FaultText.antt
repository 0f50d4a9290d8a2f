-- What the faults print.
use Rattle.std.specs.Prelude.{ℕ, List, ◌++◌, codes}
use Rattle.std.specs.Fmt.{decimal}
use Rattle.tcap_record.specs.declared.fault.RecordFault.{RecordFault}
use Rattle.tcap_record.specs.declared.fault.ReplayFault.{ReplayFault}
use Rattle.tcap_record.specs.declared.fault.ReplayFault.TheVariants as replay
use Rattle.tcap_record.specs.declared.fault.WriteFault.{WriteFault}
use Rattle.tcap_record.specs.declared.fault.WriteFault.TheVariants.{TooLong, OutOfMemory}

-- Where octets are no record, in words (own).
abbrev pub record_text : RecordFault → List ℕ
record_text fault = codes "no record: octet " ++ decimal fault.place

-- Why a replay stopped, in words (own).
abbrev pub replay_text : ReplayFault → List ℕ
replay_text (replay.OutOfMemory done) = codes "out of memory after " ++ (decimal done ++ codes " events")
replay_text (replay.Damaged done place) =
    codes "no record after " ++ (decimal done ++ (codes " events: octet " ++ decimal place))

-- Why an event was not written, in words (own).
abbrev pub write_text : WriteFault → List ℕ
write_text TooLong = codes "too long"
write_text OutOfMemory = codes "out of memory"
