-- What is sent for a faulty message that ends a live dialogue.
use Rattle.std.specs.Prelude.{ℕ, ◌==◌, Bool, false, List, [], ◌∷◌, Option, None, if◌then◌else◌}
use Rattle.tcap_pdu.specs.declared.fault.FrameFault.{FrameFault}
use Rattle.tcap_pdu.specs.FrameSpelling.{Message}
use Rattle.tcap_model.specs.Procedures.Reception.{fault_abort}

-- The first octet is that of a Continue (Q.773, Structure of TC messages).
abbrev pub begins_continue : List ℕ → Bool
begins_continue [] = false
begins_continue (first ∷ bytes) = first == 0x65

-- A faulty Continue is answered by an Abort with the cause of its fault to the origin at its front, if
-- one stands there; a faulty End and a faulty Abort are never answered (Q.774, Abnormal procedures).
abbrev pub fault_answer : List ℕ → FrameFault → Option (List ℕ) → Option Message
fault_answer bytes fault origin = if begins_continue bytes then fault_abort fault origin else None
