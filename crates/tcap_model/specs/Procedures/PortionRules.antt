-- What the dialogue portion of a message means, by the state of the dialogue.
use Rattle.std.specs.Prelude.{ℕ, true, false, List, [], Option, Some, None, Result, Ok, Err}
use Rattle.tcap_pdu.specs.declared.fault.DialogueFault.{DialogueFault}
use Rattle.tcap_pdu.specs.DialogueSpelling.{PduValue}
use Rattle.tcap_pdu.specs.DialogueSpelling.PduValue.{aarq, audt, aare, abrt, foreign}
use Rattle.tcap_pdu.specs.DialogueReading.{dialogue_at}
use Rattle.tcap_model.specs.Words.State.{State}

-- What becomes of a Begin: it is accepted, without or with an application context and user
-- information; its version isn't ours; or its dialogue portion is abnormal
-- (Q.774, Dialogue begin).
pub data BeginVerdict : Type 0 where
  plain : BeginVerdict
  with_context : (context info : List ℕ) → BeginVerdict
  wrong_version : (context : List ℕ) → BeginVerdict
  abnormal : BeginVerdict

-- The verdict on what was read in the dialogue portion of a Begin: an AARQ is accepted with version 1
-- alone, and anything else is abnormal (Q.774, Dialogue begin).
abbrev pub begin_verdict_by : Result PduValue DialogueFault → BeginVerdict
begin_verdict_by (Ok (aarq true context info)) = BeginVerdict.with_context context info
begin_verdict_by (Ok (aarq false context info)) = BeginVerdict.wrong_version context
begin_verdict_by (Ok (audt version1 context info)) = BeginVerdict.abnormal
begin_verdict_by (Ok (aare version1 context accepted diagnostic info)) = BeginVerdict.abnormal
begin_verdict_by (Ok (abrt by_provider info)) = BeginVerdict.abnormal
begin_verdict_by (Ok (foreign external)) = BeginVerdict.abnormal
begin_verdict_by (Err f) = BeginVerdict.abnormal

-- A Begin has no dialogue portion or an AARQ (Q.774, Dialogue begin).
abbrev pub begin_verdict : Option (List ℕ) → BeginVerdict
begin_verdict None = BeginVerdict.plain
begin_verdict (Some portion) = begin_verdict_by (dialogue_at portion)

-- A message whose dialogue portion is as it should be, with the application context and the user
-- information that are told; or one that is abnormal
-- (Q.774, Abnormal procedures relating to dialogue control).
pub data PortionVerdict : Type 0 where
  normal : (context : Option (List ℕ)) (info : List ℕ) → PortionVerdict
  abnormal : PortionVerdict

-- The answer to an AARQ: an accepted AARE, whatever its version, context and diagnostic are
-- (Q.774, Dialogue continuation; what isn't looked at is own).
abbrev pub response_verdict : Result PduValue DialogueFault → PortionVerdict
response_verdict (Ok (aare version1 context true diagnostic info)) = PortionVerdict.normal (Some context) info
response_verdict (Ok (aare version1 context false diagnostic info)) = PortionVerdict.abnormal
response_verdict (Ok (aarq version1 context info)) = PortionVerdict.abnormal
response_verdict (Ok (audt version1 context info)) = PortionVerdict.abnormal
response_verdict (Ok (abrt by_provider info)) = PortionVerdict.abnormal
response_verdict (Ok (foreign external)) = PortionVerdict.abnormal
response_verdict (Err f) = PortionVerdict.abnormal

-- No dialogue portion may stand there (Q.774, Dialogue continuation).
abbrev pub absent_verdict : Option (List ℕ) → PortionVerdict
absent_verdict None = PortionVerdict.normal None []
absent_verdict (Some portion) = PortionVerdict.abnormal

-- An accepted AARE must stand there (Q.774, Dialogue continuation).
abbrev pub answering_verdict : Option (List ℕ) → PortionVerdict
answering_verdict None = PortionVerdict.abnormal
answering_verdict (Some portion) = response_verdict (dialogue_at portion)

-- In Initiation Sent an accepted AARE stands there exactly where the Begin had an application context
-- (Q.774, Dialogue continuation).
abbrev pub sent_verdict : Option (List ℕ) → Option (List ℕ) → PortionVerdict
sent_verdict None portion = absent_verdict portion
sent_verdict (Some context) portion = answering_verdict portion

-- The dialogue portion of a Continue or an End to a dialogue in this state with this application
-- context; one that isn't live takes no message
-- (Q.774, Dialogue continuation; Q.774, Abnormal procedures relating to dialogue control).
abbrev pub portion_verdict : State → Option (List ℕ) → Option (List ℕ) → PortionVerdict
portion_verdict State.fresh context portion = PortionVerdict.abnormal
portion_verdict State.sent context portion = sent_verdict context portion
portion_verdict (State.received peer) context portion = PortionVerdict.abnormal
portion_verdict (State.active peer) context portion = absent_verdict portion

-- A Unidirectional has no dialogue portion or an AUDT with version 1
-- (Q.774, Unstructured dialogue).
abbrev pub uni_verdict_by : Result PduValue DialogueFault → PortionVerdict
uni_verdict_by (Ok (audt true context info)) = PortionVerdict.normal (Some context) info
uni_verdict_by (Ok (audt false context info)) = PortionVerdict.abnormal
uni_verdict_by (Ok (aarq version1 context info)) = PortionVerdict.abnormal
uni_verdict_by (Ok (aare version1 context accepted diagnostic info)) = PortionVerdict.abnormal
uni_verdict_by (Ok (abrt by_provider info)) = PortionVerdict.abnormal
uni_verdict_by (Ok (foreign external)) = PortionVerdict.abnormal
uni_verdict_by (Err f) = PortionVerdict.abnormal

-- What the dialogue portion of a Unidirectional comes to, where there may be none (Q.774, Unstructured
-- dialogue).
abbrev pub uni_verdict : Option (List ℕ) → PortionVerdict
uni_verdict None = PortionVerdict.normal None []
uni_verdict (Some portion) = uni_verdict_by (dialogue_at portion)
