-- The faults of a list of invocations: their numbers, and what they print.
use Rattle.std.specs.Prelude.{ℕ, List, codes}
use Rattle.tcap_invocation.specs.declared.fault.AddFault.{AddFault}
use Rattle.tcap_invocation.specs.declared.fault.AddFault.TheVariants.{OutOfMemory, InUse, BadTimeout}

-- The number of a fault (own).
abbrev pub fault_number : AddFault → ℕ
fault_number OutOfMemory = 1
fault_number InUse = 2
fault_number BadTimeout = 3

-- Why an invocation isn't taken into the list, in words (own).
abbrev pub fault_text : AddFault → List ℕ
fault_text OutOfMemory = codes "out of memory"
fault_text InUse = codes "the invoke identifier is in use"
fault_text BadTimeout = codes "bad timeout"
