-- What the calls answer C: one table of numbers.
use Rattle.std.specs.Prelude.{ℕ, Result, Ok, Err}
use Rattle.ber_core.specs.declared.fault.OutOfMemory.{OutOfMemory}
use Rattle.tcap_model.specs.Words.Fault.{fault_number}
use Rattle.tcap_primitives.specs.FaultViews.{fault_view}
use Rattle.tcap_primitives.specs.declared.fault.Fault.{Fault}
use Rattle.tcap_c.specs.declared.status.Status.{Status}
use Rattle.tcap_c.specs.declared.status.Status.TheVariants as status

-- The number of a status, which is part of the product: 1 to 15 are those of the engine's faults (own).
abbrev pub status_number : Status → ℕ
status_number status.Done = 0
status_number (status.Refused fault) = fault_number (fault_view fault)
status_number status.BadArgument = 16
status_number status.NotOpen = 17
status_number status.Nothing = 18
status_number status.RoomTooSmall = 19

-- What a request that the station takes or refuses answers (own).
abbrev pub taken_number : {T : Type 0} → Result T Fault → ℕ
taken_number (Ok x) = 0
taken_number (Err fault) = fault_number (fault_view fault)

-- What octets that are received answer: memory is the only thing that can be refused (own).
abbrev pub received_number : {T : Type 0} → Result T OutOfMemory → ℕ
received_number (Ok x) = 0
received_number (Err refused) = 1
