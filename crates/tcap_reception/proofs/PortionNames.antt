-- The context of a dialogue PDU that was read is an object identifier.
use Rattle.std.proofs.Common.{Bool, List, ℕ}
use Rattle.ber_core.specs.ObjectIdentifier.{IsObjectIdentifier}
use Rattle.tcap_pdu.proofs.CallerLemmas.{spelled_context}
use Rattle.tcap_pdu.specs.DialogueSpelling.{SpellsDialogue}
use Rattle.tcap_pdu.specs.DialogueSpelling.PduValue.{aarq}

-- That of an AARQ.
pub request_names : (version1 : Bool) (context info bytes : List ℕ) → SpellsDialogue (aarq version1 context info) bytes → IsObjectIdentifier context
request_names version1 context info bytes spells = spelled_context (aarq version1 context info) bytes spells
