-- What the faults print.
use Rattle.std.specs.Prelude.{ℕ, List, codes, ◌==◌, if◌then◌else◌}
use Rattle.tcap_component.specs.declared.fault.WriteFault.{WriteFault}
use Rattle.tcap_component.specs.declared.fault.WriteFault.TheVariants.{OutOfMemory, BadParameter, BadOid, TooLong}
use Rattle.tcap_component.specs.declared.fault.ComponentFault.{ComponentFault}

-- Why a component was not written, in words (own).
abbrev pub write_text : WriteFault → List ℕ
write_text OutOfMemory = codes "out of memory"
write_text BadParameter = codes "bad parameter"
write_text BadOid = codes "bad object identifier"
write_text TooLong = codes "too long"

-- A general problem in words, by its code (Q.773, General Problem).
abbrev pub problem_text : ℕ → List ℕ
problem_text code =
    if code == 0 then codes "unrecognized component"
    else if code == 1 then codes "mistyped component"
    else if code == 2 then codes "badly structured component"
    else codes "faulty component"

-- Why a component can't be read, in words (own).
abbrev pub fault_text : ComponentFault → List ℕ
fault_text fault = problem_text fault.problem.code
