-- The words of a dialogue PDU.
use Rattle.std.specs.Prelude.{ℕ, Bool, true, false, List, ◌++◌, codes, Result, Ok, Err}
use Rattle.std.specs.Fmt.{decimal}
use Rattle.hex.specs.Hex.{encode_lower}
use Rattle.tcap_pdu.specs.DialogueSpelling.{Source, PduValue, result_number}
use Rattle.tcap_pdu.specs.DialogueSpelling.Source.{user, provider}
use Rattle.tcap_pdu.specs.DialogueSpelling.PduValue.{aarq, audt, aare, abrt, foreign}
use Rattle.tcap_pdu.specs.DialogueReading.{dialogue_at}
use Rattle.tcap_pdu.specs.declared.fault.DialogueFault.{DialogueFault}
use Rattle.tcap_words.specs.Text.{octets_words, answer_words}

-- The words of an AARQ or an AUDT behind its name (own).
abbrev pub request_words : Bool → List ℕ → List ℕ → List ℕ
request_words version1 context info = codes " version " ++ (answer_words version1 ++ (codes " context " ++ (encode_lower context ++ (codes " info " ++ octets_words info))))

-- The words of a diagnostic (own).
abbrev pub diagnostic_words : Source → List ℕ
diagnostic_words (user n) = codes "user " ++ decimal n
diagnostic_words (provider n) = codes "provider " ++ decimal n

-- Who aborts: the user or the provider (own).
abbrev pub source_words : Bool → List ℕ
source_words false = codes "user"
source_words true = codes "provider"

-- The words of a dialogue PDU (own).
abbrev pub pdu_words : PduValue → List ℕ
pdu_words (aarq version1 context info) = codes "aarq" ++ request_words version1 context info
pdu_words (audt version1 context info) = codes "audt" ++ request_words version1 context info
pdu_words (aare version1 context accepted diagnostic info) = codes "aare version " ++ (answer_words version1 ++ (codes " context " ++ (encode_lower context ++ (codes " result " ++ (decimal (result_number accepted) ++ (codes " " ++ (diagnostic_words diagnostic ++ (codes " info " ++ octets_words info))))))))
pdu_words (abrt by_provider info) = codes "abrt " ++ (source_words by_provider ++ (codes " info " ++ octets_words info))
pdu_words (foreign external) = codes "foreign " ++ encode_lower external

-- The words under a dialogue portion (own).
abbrev pub portion_words_by : Result PduValue DialogueFault → List ℕ
portion_words_by (Ok pdu) = pdu_words pdu
portion_words_by (Err f) = codes "faulty"

-- The words under a dialogue portion with these contents (own).
abbrev pub portion_words : List ℕ → List ℕ
portion_words content = portion_words_by (dialogue_at content)
