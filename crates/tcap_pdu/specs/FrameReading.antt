-- A message, read from left to right: the message, or the first fault.
use Rattle.std.specs.Prelude.{ℕ, List, [], ◌∷◌, Option, Some, None, Result, Err, nat_le, ◌==◌, unwrap_or, ok_or, is_ok, if◌then◌else◌}
use Rattle.std.specs.List.{list_all}
use Rattle.ber_core.specs.Options.{◌>>=◌}
use Rattle.ber_core.specs.Element.{Parts}
use Rattle.ber_core.specs.ListReading.{items_of}
use Rattle.ber_core.specs.SequenceReading.{tagged, content_at, ending, alone_at}
use Rattle.tcap_pdu.specs.TransId.{id_of}
use Rattle.tcap_pdu.specs.FrameSpelling.{Reason, Message, cause_limit}
use Rattle.tcap_pdu.specs.FrameSpelling.Reason.{nothing, cause, portion}
use Rattle.tcap_pdu.specs.FrameSpelling.Message.{unidirectional, begin, end, go_on, abort}
use Rattle.tcap_pdu.specs.declared.fault.FrameFault.{FrameFault}
use Rattle.tcap_pdu.specs.declared.fault.FrameFault.TheVariants.{Unknown, BadlyFormatted, Incorrect}
use Rattle.tcap_pdu.specs.declared.frame.read.MessageType.{MessageType}
use Rattle.tcap_pdu.specs.declared.frame.read.MessageType.TheVariants as kind

-- An identifier and what follows it (own).
abbrev pub with_rest : List ℕ → List ℕ → List ℕ × List ℕ
with_rest id rest = (id, rest)

-- A transaction identifier with this tag, and what follows it (Q.773, Transaction ID).
unfoldable pub id_at : ℕ → List ℕ → Option (List ℕ × List ℕ)
id_at tag bytes = content_at tag bytes >>= (λ c. id_of c.0 >>= (λ id. Some (with_rest id c.1)))

-- The contents of a dialogue and of a component portion (own).
abbrev pub pair : Option (List ℕ) → List ℕ → Option (List ℕ) × List ℕ
pair d c = (d, c)

-- The contents of 6B and 6C where they stand, and nothing after them
-- (Q.773, Structure of TC messages).
unfoldable pub portions_at : List ℕ → Option (Option (List ℕ) × List ℕ)
portions_at bytes =
    let d = tagged 0x6b bytes in
    let c = tagged 0x6c d.1 in
    ending (pair d.0 (unwrap_or c.0 [])) c.1

-- The cause that a content of one octet is (Q.773, P-Abort cause).
unfoldable pub cause_at : List ℕ → Option Reason
cause_at [] = None
cause_at (n ∷ []) = if nat_le n cause_limit then Some (cause n) else None
cause_at (n ∷ m ∷ more) = None

-- Behind a P-Abort cause, if one stands there, follows nothing; else a dialogue portion stands there
-- and nothing after it (Q.773, Abort message).
abbrev pub reason_by : Option (List ℕ) → List ℕ → List ℕ → Option Reason
reason_by (Some c) rest bytes = cause_at c >>= (λ r. ending r rest)
reason_by None rest bytes = content_at 0x6b bytes >>= (λ d. ending (portion d.0) d.1)

-- What follows the destination of an Abort: 4A or 6B or nothing (Q.773, Abort message).
unfoldable pub reason_at : List ℕ → Option Reason
reason_at [] = Some nothing
reason_at (b ∷ bytes) = reason_by (tagged 0x4a (b ∷ bytes)).0 (tagged 0x4a (b ∷ bytes)).1 (b ∷ bytes)

-- Unidirectional: [6B], 6C (Q.773, Unidirectional message).
unfoldable pub unidirectional_at : List ℕ → Option Message
unidirectional_at bytes =
    let d = tagged 0x6b bytes in
    content_at 0x6c d.1 >>= (λ c. ending (unidirectional d.0 c.0) c.1)

-- Begin: 48, [6B], [6C] (Q.773, Begin message).
unfoldable pub begin_at : List ℕ → Option Message
begin_at bytes = do
  o ← id_at 0x48 bytes
  p ← portions_at o.1
  Some (begin o.0 p.0 p.1)

-- End: 49, [6B], [6C] (Q.773, End message).
unfoldable pub end_at : List ℕ → Option Message
end_at bytes = do
  t ← id_at 0x49 bytes
  p ← portions_at t.1
  Some (end t.0 p.0 p.1)

-- Continue: 48, 49, [6B], [6C] (Q.773, Continue message).
unfoldable pub go_on_at : List ℕ → Option Message
go_on_at bytes = do
  o ← id_at 0x48 bytes
  t ← id_at 0x49 o.1
  p ← portions_at t.1
  Some (go_on o.0 t.0 p.0 p.1)

-- Abort: 49, then 4A or 6B or nothing (Q.773, Abort message).
unfoldable pub abort_at : List ℕ → Option Message
abort_at bytes = do
  t ← id_at 0x49 bytes
  r ← reason_at t.1
  Some (abort t.0 r)

-- The contents of a message of this type (Q.773, Structure of TC messages).
abbrev pub message_at : MessageType → List ℕ → Option Message
message_at kind.Uni bytes = unidirectional_at bytes
message_at kind.Begin bytes = begin_at bytes
message_at kind.End bytes = end_at bytes
message_at kind.Continue bytes = go_on_at bytes
message_at kind.Abort bytes = abort_at bytes

-- The message type that a tag octet names (Q.773, Message type tag).
abbrev pub type_by : ℕ → Option MessageType
type_by n =
    if n == 0x61 then Some kind.Uni
    else if n == 0x62 then Some kind.Begin
    else if n == 0x64 then Some kind.End
    else if n == 0x65 then Some kind.Continue
    else if n == 0x67 then Some kind.Abort
    else None

-- The message type that a tag names; the long form of a tag number is none of them
-- (Q.773, Message type tag).
unfoldable pub type_at : List ℕ → Option MessageType
type_at [] = None
type_at (n ∷ []) = type_by n
type_at (n ∷ m ∷ more) = None

-- The message with these contents, or the fault: first of the tag, then of the list, then of the
-- sequence (own).
abbrev pub contents_by : Option MessageType → List ℕ → Result Message FrameFault
contents_by None content = Err Unknown
contents_by (Some k) content = if list_all is_ok (items_of content) then ok_or (message_at k content) Incorrect else Err BadlyFormatted

-- The message that the one element is, or the fault (own).
abbrev pub frame_by : Option Parts → Result Message FrameFault
frame_by None = Err BadlyFormatted
frame_by (Some e) = contents_by (type_at e.tag) e.content

-- The message that the bytes are, or the fault (Q.773, Structure of TC messages).
unfoldable pub frame_at : List ℕ → Result Message FrameFault
frame_at bytes = frame_by (alone_at bytes)
