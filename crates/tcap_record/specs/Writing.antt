-- Why an event is not written.
use Rattle.std.specs.Prelude.{◌≡◌, ℕ, ◌+◌, ◌<◌, false, length, IsTrue}
use Rattle.tcap_model.specs.Words.Event.{Event}
use Rattle.tcap_record.specs.declared.fault.WriteFault.{WriteFault}
use Rattle.tcap_record.specs.declared.fault.WriteFault.TheVariants.{TooLong, OutOfMemory}
use Rattle.tcap_record.specs.Records.{is_counted_event, record_of}

-- A part of the event has too many octets; or none has, and a vector of so many octets had no room for its
-- record (own).
abbrev pub Refuses : WriteFault → Event → ℕ → ℕ → Type 0
Refuses TooLong event len capacity = is_counted_event event ≡ false
Refuses OutOfMemory event len capacity = IsTrue (is_counted_event event) × (capacity < len + length (record_of event))
