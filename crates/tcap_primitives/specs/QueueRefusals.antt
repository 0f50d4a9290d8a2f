-- Why a component isn't queued.
use Rattle.std.specs.Prelude.{List, Option, Some, None, if◌then◌else◌}
use Rattle.tcap_component.specs.Component.{ComponentParts}
use Rattle.tcap_component.specs.Written.{coded_part, has_code, has_parameter}
use Rattle.tcap_component.specs.declared.fault.WriteFault.{WriteFault}
use Rattle.tcap_component.specs.declared.fault.WriteFault.TheVariants as write
use Rattle.tcap_model.specs.Procedures.QueueRules.{Queued, queued, queue_limit, fits}
use Rattle.tcap_model.specs.Words.Fault.{Fault}

-- The fault of a request whose component can't be written (own).
abbrev pub written_fault : WriteFault → Fault
written_fault write.OutOfMemory = Fault.out_of_memory
written_fault write.BadParameter = Fault.bad_parameter
written_fault write.BadOid = Fault.bad_oid
written_fault write.TooLong = Fault.too_long

-- Why a component doesn't come into a queue: it can't be written, or it doesn't fit (own).
abbrev pub queue_fault : List Queued → ComponentParts → Option Fault
queue_fault queue c =
    if has_code (coded_part c)
    then (if has_parameter (coded_part c) then (if fits queue_limit queue (queued None c) then None else Some Fault.too_long) else Some Fault.bad_parameter)
    else Some Fault.bad_oid
