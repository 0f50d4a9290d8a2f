-- The message that a request sends, and why there is none.
use Rattle.std.specs.Prelude.{◌≡◌, ◌⊎◌, Bool, List, [], ◌∷◌, Option, Some, None, IsTrue}
use Rattle.tcap_model.specs.Words.Fault.{Fault}
use Rattle.tcap_pdu.specs.FrameSpelling.{Message}
use Rattle.tcap_primitives.specs.FaultViews.{fault_view}
use Rattle.tcap_primitives.specs.SendingViews.{sending_view}
use Rattle.tcap_primitives.specs.declared.fault.Fault.{Fault as RequestFault}
use Rattle.tcap_primitives.specs.declared.fault.Fault.TheVariants as fault
use Rattle.tcap_primitives.specs.declared.sending.outgoing.Outgoing.{Outgoing}

-- The faults of a request of dialogue handling that are due before its message is looked at (own).
abbrev pub early_faults : List Fault
early_faults =
    Fault.wrong_state ∷ Fault.bad_oid ∷ Fault.bad_parameter ∷ Fault.no_context ∷ Fault.not_class_four ∷ []

-- The message that goes out, if one does (own).
abbrev pub outgoing_view : Option Outgoing → Option Message
outgoing_view None = None
outgoing_view (Some m) = Some (sending_view m.sending)

-- Why a message isn't written: this fault is due, or none is and memory was refused, for something would have been
-- sent or told (own).
abbrev pub IsUnwritten : RequestFault → Option Fault → Bool → Type 0
IsUnwritten f due wants = (due ≡ Some (fault_view f)) ⊎ ((f ≡ fault.OutOfMemory) × (due ≡ None) × IsTrue wants)
