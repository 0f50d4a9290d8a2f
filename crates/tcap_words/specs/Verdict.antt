-- The verdict on a message.
use Rattle.std.specs.Prelude.{ℕ, ◌+◌, Bool, true, false, List, ◌++◌, codes, length, is_err, Option, Some, None, Result, Ok, Err, nat_lt, if◌then◌else◌}
use Rattle.std.specs.List.{position_from}
use Rattle.std.specs.Fmt.{decimal}
use Rattle.tcap_pdu.specs.FrameSpelling.{Reason, Message}
use Rattle.tcap_pdu.specs.FrameSpelling.Reason.{nothing, cause, portion}
use Rattle.tcap_pdu.specs.FrameSpelling.Message.{unidirectional, begin, end, go_on, abort}
use Rattle.tcap_pdu.specs.DialogueSpelling.{PduValue}
use Rattle.tcap_pdu.specs.DialogueSpelling.PduValue.{aarq, audt, aare, abrt, foreign}
use Rattle.tcap_pdu.specs.DialogueReading.{dialogue_at}
use Rattle.tcap_pdu.specs.declared.fault.DialogueFault.{DialogueFault}
use Rattle.tcap_component.specs.ComponentReading.{components_of}
use Rattle.tcap_pdu.specs.FrameReading.{frame_at}
use Rattle.tcap_pdu.specs.declared.fault.FrameFault.{FrameFault}
use Rattle.tcap_pdu.specs.declared.fault.FrameFault.TheVariants as fault
use Rattle.tcap_words.specs.declared.verdict.Verdict.{Verdict}
use Rattle.tcap_words.specs.declared.verdict.Verdict.TheVariants.{TooLong, UnknownType, BadlyFormatted, Incorrect, Dialogue, Component, Good}

-- The greatest message, in bytes (own).
abbrev pub message_limit : ℕ
message_limit = 65535

-- The verdict on bytes that are no message, by their fault (own).
abbrev pub verdict_of_fault : FrameFault → Verdict
verdict_of_fault fault.Unknown = UnknownType
verdict_of_fault fault.BadlyFormatted = BadlyFormatted
verdict_of_fault fault.Incorrect = Incorrect

-- A message, or the verdict on bytes that are none (own).
abbrev pub message_by : Result Message FrameFault → Result Message Verdict
message_by (Ok m) = Ok m
message_by (Err f) = Err (verdict_of_fault f)

-- The message that bytes spell, or the verdict on bytes that spell none; the length is judged first
-- (own).
unfoldable pub message_of : List ℕ → Result Message Verdict
message_of bytes = if nat_lt message_limit (length bytes) then Err TooLong else message_by (frame_at bytes)

-- Whether a dialogue portion that was read is good outside an Abort: it is not foreign (own).
abbrev pub is_known : Result PduValue DialogueFault → Bool
is_known (Ok (aarq version1 context info)) = true
is_known (Ok (audt version1 context info)) = true
is_known (Ok (aare version1 context accepted diagnostic info)) = true
is_known (Ok (abrt by_provider info)) = true
is_known (Ok (foreign external)) = false
is_known (Err f) = false

-- Whether a dialogue portion that was read is good in an Abort (own).
abbrev pub is_read : Result PduValue DialogueFault → Bool
is_read (Ok pdu) = true
is_read (Err f) = false

-- Whether the dialogue portion of a message other than an Abort is good, if it has one (own).
abbrev pub is_good_portion : Option (List ℕ) → Bool
is_good_portion None = true
is_good_portion (Some content) = is_known (dialogue_at content)

-- Whether the dialogue portion of an Abort is good, if it has one (own).
abbrev pub is_good_reason : Reason → Bool
is_good_reason nothing = true
is_good_reason (cause n) = true
is_good_reason (portion content) = is_read (dialogue_at content)

-- The verdict by the number of the first faulty component, counted from 0 (own).
abbrev pub verdict_by_place : Option ℕ → Verdict
verdict_by_place None = Good
verdict_by_place (Some place) = Component (place + 1)

-- The verdict on the contents of a component portion (own).
abbrev pub components_verdict : List ℕ → Verdict
components_verdict content = verdict_by_place (position_from is_err 0 (components_of content))

-- The verdict on both portions: the dialogue portion goes first (own).
abbrev pub portions_verdict : Option (List ℕ) → List ℕ → Verdict
portions_verdict d c = if is_good_portion d then components_verdict c else Dialogue

-- The verdict on a message (own).
abbrev pub message_verdict : Message → Verdict
message_verdict (unidirectional d c) = portions_verdict d c
message_verdict (begin o d c) = portions_verdict d c
message_verdict (go_on o t d c) = portions_verdict d c
message_verdict (end t d c) = portions_verdict d c
message_verdict (abort t r) = if is_good_reason r then Good else Dialogue

-- The verdict on what was read (own).
abbrev pub verdict_by : Result Message Verdict → Verdict
verdict_by (Ok m) = message_verdict m
verdict_by (Err v) = v

-- The verdict on bytes: the first that holds (own).
abbrev pub verdict_of : List ℕ → Verdict
verdict_of bytes = verdict_by (message_of bytes)

-- Whether a verdict is good (own).
abbrev pub is_good : Verdict → Bool
is_good TooLong = false
is_good UnknownType = false
is_good BadlyFormatted = false
is_good Incorrect = false
is_good Dialogue = false
is_good (Component number) = false
is_good Good = true

-- Whether a verdict's line has a number (own).
abbrev pub is_numbered : Verdict → Bool
is_numbered TooLong = false
is_numbered UnknownType = false
is_numbered BadlyFormatted = false
is_numbered Incorrect = false
is_numbered Dialogue = false
is_numbered (Component number) = true
is_numbered Good = false

-- The words of a verdict's line (own).
abbrev pub verdict_words : Verdict → List ℕ
verdict_words TooLong = codes "fault too long"
verdict_words UnknownType = codes "fault unknown type"
verdict_words BadlyFormatted = codes "fault badly formatted"
verdict_words Incorrect = codes "fault incorrect"
verdict_words Dialogue = codes "fault dialogue"
verdict_words (Component number) = codes "fault component " ++ decimal number
verdict_words Good = codes "good"
