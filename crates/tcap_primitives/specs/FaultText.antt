-- What the faults of a request print.
use Rattle.std.specs.Prelude.{ℕ, List, codes}
use Rattle.tcap_primitives.specs.declared.fault.Fault.{Fault}
use Rattle.tcap_primitives.specs.declared.fault.Fault.TheVariants as fault

-- Why a request is refused, in words (own).
abbrev pub fault_text : Fault → List ℕ
fault_text fault.OutOfMemory = codes "out of memory"
fault_text fault.UnknownDialogue = codes "unknown dialogue"
fault_text fault.WrongState = codes "the state of the dialogue doesn't have the request"
fault_text fault.InvokeIdInUse = codes "the invoke identifier is in use"
fault_text fault.NoSuchInvocation = codes "no such invocation"
fault_text fault.BadTimeout = codes "bad timeout"
fault_text fault.TooLong = codes "too long"
fault_text fault.DialoguesFull = codes "as many dialogues stand as may"
fault_text fault.DialogueIdsSpent = codes "no dialogue identifier is left"
fault_text fault.NumbersSpent = codes "no invocation number is left"
fault_text fault.BadOid = codes "not an object identifier"
fault_text fault.BadParameter = codes "bad parameter"
fault_text fault.NotClassFour = codes "not of class 4 alone"
fault_text fault.MomentTooLate = codes "the moment is too late"
fault_text fault.NoContext = codes "no context"
