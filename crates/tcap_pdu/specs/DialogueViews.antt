-- Dialogue PDUs as a contract sees them.
use Rattle.tcap_pdu.specs.declared.dialogue_pdu.DialoguePdu.{DialoguePdu}
use Rattle.tcap_pdu.specs.declared.dialogue_pdu.DialoguePdu.TheVariants as pdu
use Rattle.tcap_pdu.specs.declared.dialogue_pdu.Diagnostic.{Diagnostic}
use Rattle.tcap_pdu.specs.declared.dialogue_pdu.Diagnostic.TheVariants as diagnostic
use Rattle.tcap_pdu.specs.DialogueSpelling.{Source, PduValue}
use Rattle.tcap_pdu.specs.DialogueSpelling.Source.{user, provider}
use Rattle.tcap_pdu.specs.DialogueSpelling.PduValue.{aarq, audt, aare, abrt, foreign}

-- A diagnostic (own).
abbrev pub source : Diagnostic → Source
source (diagnostic.User n) = user n
source (diagnostic.Provider n) = provider n

-- A dialogue PDU, by what its slices hold (own).
abbrev pub pdu_value : DialoguePdu → PduValue
pdu_value (pdu.Aarq version1 context info) = aarq version1 context.now info.now
pdu_value (pdu.Audt version1 context info) = audt version1 context.now info.now
pdu_value (pdu.Aare version1 context accepted given info) = aare version1 context.now accepted (source given) info.now
pdu_value (pdu.Abrt by_provider info) = abrt by_provider info.now
pdu_value (pdu.Foreign external) = foreign external.now
