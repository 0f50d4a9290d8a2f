-- What becomes of received bytes.
use Rattle.std.specs.Prelude.{ℕ, Bool, List, [], ◌∷◌, length, nat_lt, Option, Some, None, Result, Ok, Err, ◌==◌, if◌then◌else◌}
use Rattle.tcap_pdu.specs.declared.fault.FrameFault.{FrameFault}
use Rattle.tcap_pdu.specs.FrameSpelling.{Message}
use Rattle.tcap_pdu.specs.FrameReading.{frame_at}
use Rattle.tcap_pdu.specs.FrameWritten.{message_limit}
use Rattle.tcap_pdu.specs.Front.{front_at}
use Rattle.tcap_model.specs.Words.Output.{DropCause}
use Rattle.tcap_model.specs.Words.LocalId.{dialogue_named}
use Rattle.tcap_model.specs.Procedures.PortionRules.{BeginVerdict, PortionVerdict, begin_verdict, uni_verdict}
use Rattle.tcap_model.specs.Procedures.AbortRules.{abort_with, abnormal_abort, version_abort, fault_cause, unrecognized_id, resource_limitation}

-- What becomes of received bytes (own).
pub data Reception : Type 0 where
  -- the message is dropped
  dropped : (why : DropCause) → Reception
  -- an Abort goes to the originator, and nothing else happens
  aborted : (abort : Message) → Reception
  -- a Unidirectional is told, with its components
  unidirectional : (context : Option (List ℕ)) (info components : List ℕ) → Reception
  -- a Begin is accepted: a dialogue is created, with the originator as its peer
  begun : (origin : List ℕ) (context : Option (List ℕ)) (info components : List ℕ) → Reception
  -- a dialogue that is live takes a Continue, an End or an Abort
  taken : (dialogue : ℕ) (message : Message) → Reception
  -- a faulty message ends a dialogue that is live; an Abort goes to the originator, if it is known
  broken : (dialogue : ℕ) (abort : Option Message) (cause : ℕ) → Reception

-- The dialogue of these octets, if it is live (own).
abbrev pub live_named : (ℕ → Bool) → Option ℕ → Option ℕ
live_named is_live None = None
live_named is_live (Some d) = if is_live d then Some d else None

-- The live dialogue that a destination names: the four octets of its identifier (own).
abbrev pub addressed : (ℕ → Bool) → List ℕ → Option ℕ
addressed is_live octets = live_named is_live (dialogue_named octets)

-- The live dialogue that a destination names, where there may be none (own).
abbrev pub addressed_if_any : (ℕ → Bool) → Option (List ℕ) → Option ℕ
addressed_if_any is_live None = None
addressed_if_any is_live (Some octets) = addressed is_live octets

-- ---- messages that can be read

-- A Unidirectional is told or dropped, by its dialogue portion (Q.774, Unstructured dialogue).
abbrev pub uni_by : PortionVerdict → List ℕ → Reception
uni_by (PortionVerdict.normal context info) components = Reception.unidirectional context info components
uni_by PortionVerdict.abnormal components = Reception.dropped DropCause.bad_dialogue

-- A Begin is accepted or aborted, by its dialogue portion (Q.774, Dialogue begin).
abbrev pub begin_by : BeginVerdict → List ℕ → List ℕ → Reception
begin_by BeginVerdict.plain origin components = Reception.begun origin None [] components
begin_by (BeginVerdict.with_context context info) origin components =
    Reception.begun origin (Some context) info components
begin_by (BeginVerdict.wrong_version context) origin components = Reception.aborted (version_abort context origin)
begin_by BeginVerdict.abnormal origin components = Reception.aborted (abnormal_abort origin)

-- A Continue to no live dialogue is aborted with cause 1, unrecognized transaction identifier
-- (Q.774, Abnormal procedures).
abbrev pub continue_by : Option ℕ → List ℕ → Message → Reception
continue_by (Some d) origin m = Reception.taken d m
continue_by None origin m = Reception.aborted (abort_with unrecognized_id origin)

-- An End or an Abort to no live dialogue is dropped (Q.774, Abnormal procedures).
abbrev pub final_message_by : Option ℕ → Message → Reception
final_message_by (Some d) m = Reception.taken d m
final_message_by None m = Reception.dropped DropCause.no_dialogue

-- What becomes of a message, where `is_full` says that no dialogue can be created: a Begin is then
-- aborted with cause 4, resource limitation, whatever its dialogue portion is
-- (Q.774, Transaction sublayer procedures).
abbrev pub message_by : (ℕ → Bool) → Bool → Message → Reception
message_by is_live is_full (Message.unidirectional portion components) = uni_by (uni_verdict portion) components
message_by is_live is_full (Message.begin origin portion components) =
    if is_full then Reception.aborted (abort_with resource_limitation origin) else begin_by (begin_verdict portion)
    origin components
message_by is_live is_full (Message.go_on origin to portion components) =
    continue_by (addressed is_live to) origin (Message.go_on origin to portion components)
message_by is_live is_full (Message.end to portion components) =
    final_message_by (addressed is_live to) (Message.end to portion components)
message_by is_live is_full (Message.abort to reason) = final_message_by (addressed is_live to) (Message.abort to reason)

-- ---- faulty messages

-- The Abort with the cause of a faulty message to its originator, if that is known
-- (Q.774, Abnormal procedures).
abbrev pub fault_abort : FrameFault → Option (List ℕ) → Option Message
fault_abort f None = None
fault_abort f (Some origin) = Some (abort_with (fault_cause f) origin)

-- An Abort goes out, or the message is dropped where the originator isn't known
-- (Q.774, Abnormal procedures).
abbrev pub aborted_or_dropped : Option Message → Reception
aborted_or_dropped None = Reception.dropped DropCause.bad_message
aborted_or_dropped (Some message) = Reception.aborted message

-- A faulty Continue: it ends the live dialogue that it names, and is aborted (own).
abbrev pub faulty_continue : Option ℕ → Option Message → FrameFault → Reception
faulty_continue (Some d) abort f = Reception.broken d abort (fault_cause f)
faulty_continue None abort f = aborted_or_dropped abort

-- A faulty End or Abort: it ends the live dialogue that it names, and is never answered
-- (Q.774, Abnormal procedures).
abbrev pub faulty_last : Option ℕ → FrameFault → Reception
faulty_last (Some d) f = Reception.broken d None (fault_cause f)
faulty_last None f = Reception.dropped DropCause.bad_message

-- What becomes of a faulty message, by its first octet alone: 61 is dropped; 65 is a faulty Continue,
-- 64 and 67 a faulty End and Abort; anything else is treated as a Begin
-- (Q.774, Abnormal procedures; the choice by the first octet is own).
abbrev pub fault_by : ℕ → Option ℕ → Option Message → FrameFault → Reception
fault_by first named abort f =
    if first == 0x61 then Reception.dropped DropCause.bad_message
    else if first == 0x64 then faulty_last named f
    else if first == 0x65 then faulty_continue named abort f
    else if first == 0x67 then faulty_last named f
    else aborted_or_dropped abort

-- What becomes of faulty bytes; no octet at all is a faulty Begin without an originator (own).
abbrev pub faulty : (ℕ → Bool) → List ℕ → FrameFault → Reception
faulty is_live [] f = Reception.dropped DropCause.bad_message
faulty is_live (first ∷ bytes) f =
    fault_by first (addressed_if_any is_live (front_at (first ∷ bytes)).1) (fault_abort f (front_at (first ∷ bytes)).0)
    f

-- ---- all bytes

-- What becomes of what was read (own).
abbrev pub reading_by : (ℕ → Bool) → Bool → List ℕ → Result Message FrameFault → Reception
reading_by is_live is_full bytes (Ok m) = message_by is_live is_full m
reading_by is_live is_full bytes (Err f) = faulty is_live bytes f

-- What becomes of received bytes, where `is_live` says which dialogues are live and `is_full` whether
-- none can be created: above 65,535 bytes they are dropped (Q.774, Transaction sublayer procedures).
abbrev pub reception : (ℕ → Bool) → Bool → List ℕ → Reception
reception is_live is_full bytes =
    if nat_lt message_limit (length bytes) then Reception.dropped DropCause.too_long else reading_by is_live is_full
    bytes (frame_at bytes)
