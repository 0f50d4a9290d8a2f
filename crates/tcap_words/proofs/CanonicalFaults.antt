-- What was read is not written only where it is too long, or for lack of memory.
use Rattle.std.proofs.Common.{◌≡◌, ℕ, ◌<◌, List, length}
use Rattle.tcap_pdu.specs.declared.fault.PduFault.TheVariants as pdu
use Rattle.tcap_pdu.specs.DialogueSpelling.{PduValue, SpellsDialogue}
use Rattle.tcap_pdu.specs.DialogueWritten.{WriteFault}
use Rattle.tcap_pdu.proofs.CallerLemmas.{spelled_context, spelled_information}
use Rattle.tcap_component.specs.declared.fault.WriteFault.{WriteFault as ComponentWriteFault}
use Rattle.tcap_component.specs.declared.fault.WriteFault.TheVariants as write
use Rattle.tcap_component.specs.Component.{ComponentParts}
use Rattle.tcap_component.specs.Written.{written_component, IsWriteFault}
use Rattle.tcap_component.specs.Written.IsWriteFault.{bad_oid, bad_parameter, too_long}

pub context_written : (p : PduValue) (content : List ℕ) → SpellsDialogue p content → WriteFault p pdu.BadOid → ⊥
context_written p content s h = h (spelled_context p content s)

pub information_written : (p : PduValue) (content : List ℕ) → SpellsDialogue p content → WriteFault p pdu.BadInfo → ⊥
information_written p content s h = h.1 (spelled_information p content s)

pub component_too_long : (c : ComponentParts) (f : ComponentWriteFault) → IsWriteFault c f → f ≡ write.TooLong → 65535 < length (written_component c)
component_too_long c f (bad_oid d h) is = absurd cc
component_too_long c f (bad_parameter d k h) is = absurd cc
component_too_long c f (too_long d k l h) is = h
