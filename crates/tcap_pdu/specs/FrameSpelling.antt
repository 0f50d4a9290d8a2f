-- The five messages of the transaction sublayer (Q.773), by all their octets.
use Rattle.std.specs.Prelude.{◌≡◌, ℕ, ◌≤◌, List, [], ◌∷◌, Option}
use Rattle.ber_core.specs.Element.{Parts, IsElement, depth_limit}
use Rattle.ber_core.specs.Sequence.{Field, SpellsSequence}
use Rattle.ber_core.specs.Sequence.Field.{must, may, filled}
use Rattle.tcap_pdu.specs.TransId.{IsTransId}

-- What an Abort has behind its destination: nothing, a P-Abort cause, or the contents of a dialogue
-- portion (Q.773, Abort message).
pub data Reason : Type 0 where
  nothing : Reason
  cause : (number : ℕ) → Reason
  portion : (dialogue : List ℕ) → Reason

-- A message and its parts: the originating and the destination transaction identifier, the contents
-- of the dialogue portion, none where it is absent, and those of the component portion, empty where
-- it is absent (Q.773, Structure of TC messages).
pub data Message : Type 0 where
  unidirectional : (dialogue : Option (List ℕ)) (components : List ℕ) → Message
  begin : (origin : List ℕ) (dialogue : Option (List ℕ)) (components : List ℕ) → Message
  end : (destination : List ℕ) (dialogue : Option (List ℕ)) (components : List ℕ) → Message
  go_on : (origin destination : List ℕ) (dialogue : Option (List ℕ)) (components : List ℕ) → Message
  abort : (destination : List ℕ) (reason : Reason) → Message

-- The tag of each message type (Q.773, Message type tag).
abbrev pub message_tag : Message → ℕ
message_tag (unidirectional d c) = 0x61
message_tag (begin o d c) = 0x62
message_tag (end t d c) = 0x64
message_tag (go_on o t d c) = 0x65
message_tag (abort t r) = 0x67

-- Behind the destination of an Abort: the P-Abort cause, the dialogue portion, or nothing
-- (Q.773, Abort message).
abbrev pub reason_fields : Reason → List Field
reason_fields nothing = []
reason_fields (cause n) = must 0x4a (n ∷ []) ∷ []
reason_fields (portion d) = must 0x6b d ∷ []

-- The contents of each message in order: 48 the originating and 49 the destination transaction
-- identifier, 6B the dialogue portion, 6C the component portion, 4A the P-Abort cause
-- (Q.773, Structure of TC messages; that 6C without contents is accepted is own).
abbrev pub fields : Message → List Field
fields (unidirectional d c) = may 0x6b d ∷ must 0x6c c ∷ []
fields (begin o d c) = must 0x48 o ∷ may 0x6b d ∷ filled 0x6c c ∷ []
fields (end t d c) = must 0x49 t ∷ may 0x6b d ∷ filled 0x6c c ∷ []
fields (go_on o t d c) = must 0x48 o ∷ must 0x49 t ∷ may 0x6b d ∷ filled 0x6c c ∷ []
fields (abort t r) = must 0x49 t ∷ reason_fields r

-- The greatest P-Abort cause (Q.773, P-Abort cause).
abbrev pub cause_limit : ℕ
cause_limit = 0x7f

-- A P-Abort cause is one octet 00 to 7F; 5 to 127 are kept as numbers
-- (Q.773, P-Abort cause).
abbrev pub IsReason : Reason → Type 0
IsReason nothing = Unit {0}
IsReason (cause n) = n ≤ cause_limit
IsReason (portion d) = Unit {0}

-- Each transaction identifier has one to four octets (Q.773, Transaction ID).
abbrev pub HasIds : Message → Type 0
HasIds (unidirectional d c) = Unit {0}
HasIds (begin o d c) = IsTransId o
HasIds (end t d c) = IsTransId t
HasIds (go_on o t d c) = IsTransId o × IsTransId t
HasIds (abort t r) = IsTransId t

-- A P-Abort cause, where there is one, is in its range (Q.773, P-Abort cause).
abbrev pub HasCause : Message → Type 0
HasCause (unidirectional d c) = Unit {0}
HasCause (begin o d c) = Unit {0}
HasCause (end t d c) = Unit {0}
HasCause (go_on o t d c) = Unit {0}
HasCause (abort t r) = IsReason r

-- The element is this message: its tag is that of the message type, and its contents are a list of
-- elements in the listed sequence (Q.773, Structure of TC messages).
pub record IsFrame (m : Message) (e : Parts) : Type 0 where
  pub is_tag : e.tag ≡ message_tag m ∷ []
  pub in_sequence : SpellsSequence (fields m) e.content
  pub has_ids : HasIds m
  pub has_cause : HasCause m

-- The bytes are one element and nothing after it, and the element is this message
-- (Q.773, Structure of TC messages).
pub record SpellsFrame (m : Message) (bytes : List ℕ) : Type 0 where
  pub element : Parts
  pub is_element : IsElement depth_limit element
  pub is_whole : bytes ≡ element.whole
  pub is_frame : IsFrame m element
