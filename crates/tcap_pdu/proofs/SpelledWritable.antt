-- A dialogue PDU that was read can be written, but for its length.
use Rattle.std.proofs.Common.{ℕ, List}
use Rattle.tcap_pdu.specs.DialogueSpelling.{PduValue, SpellsDialogue}
use Rattle.tcap_pdu.specs.DialogueSpelling.PduValue.{aarq, audt, aare, abrt, foreign}
use Rattle.tcap_pdu.specs.DialogueWritten.{IsContextGood, IsInformationGood, HasDiagnostic}

pub spelled_context : (p : PduValue) (bytes : List ℕ) → SpellsDialogue p bytes → IsContextGood p
unfolding SpellsDialogue
spelled_context (aarq v c i) bytes s = s.is_content.is_context
spelled_context (audt v c i) bytes s = s.is_content.is_context
spelled_context (aare v c a d i) bytes s = s.is_content.is_context
spelled_context (abrt b i) bytes s = tt
spelled_context (foreign e) bytes s = tt

pub spelled_information : (p : PduValue) (bytes : List ℕ) → SpellsDialogue p bytes → IsInformationGood p
unfolding SpellsDialogue
spelled_information (aarq v c i) bytes s = s.is_content.is_information
spelled_information (audt v c i) bytes s = s.is_content.is_information
spelled_information (aare v c a d i) bytes s = s.is_content.is_information
spelled_information (abrt b i) bytes s = s.is_content.is_information
spelled_information (foreign e) bytes s = s.1

pub spelled_diagnostic : (p : PduValue) (bytes : List ℕ) → SpellsDialogue p bytes → HasDiagnostic p
unfolding SpellsDialogue
spelled_diagnostic (aarq v c i) bytes s = tt
spelled_diagnostic (audt v c i) bytes s = tt
spelled_diagnostic (aare v c a d i) bytes s = s.is_content.is_diagnostic.in_range
spelled_diagnostic (abrt b i) bytes s = tt
spelled_diagnostic (foreign e) bytes s = tt
