-- A message by what stands before its dialogue portion and behind it.
use Rattle.std.specs.Prelude.{List, [], ◌∷◌, Bool, true, false}
use Rattle.ber_core.specs.Sequence.{Field}
use Rattle.ber_core.specs.Sequence.Field.{must, filled}
use Rattle.tcap_pdu.specs.FrameSpelling.{Reason, Message}
use Rattle.tcap_pdu.specs.FrameSpelling.Reason.{nothing, cause, portion}
use Rattle.tcap_pdu.specs.FrameSpelling.Message.{unidirectional, begin, end, go_on, abort}

-- The transaction identifiers, which stand before the dialogue portion
-- (Q.773, Structure of TC messages).
abbrev pub identifier_fields : Message → List Field
identifier_fields (unidirectional d c) = []
identifier_fields (begin o d c) = must 0x48 o ∷ []
identifier_fields (end t d c) = must 0x49 t ∷ []
identifier_fields (go_on o t d c) = must 0x48 o ∷ must 0x49 t ∷ []
identifier_fields (abort t r) = must 0x49 t ∷ []

-- The P-Abort cause of an Abort, if it has one (Q.773, Abort message).
abbrev pub cause_fields : Reason → List Field
cause_fields nothing = []
cause_fields (cause n) = must 0x4a (n ∷ []) ∷ []
cause_fields (portion d) = []

-- Behind the dialogue portion the component portion, or in its place the P-Abort cause
-- (Q.773, Structure of TC messages).
abbrev pub closing_fields : Message → List Field
closing_fields (unidirectional d c) = must 0x6c c ∷ []
closing_fields (begin o d c) = filled 0x6c c ∷ []
closing_fields (end t d c) = filled 0x6c c ∷ []
closing_fields (go_on o t d c) = filled 0x6c c ∷ []
closing_fields (abort t r) = cause_fields r

-- Whether the reason is no P-Abort cause (Q.773, Abort message).
abbrev pub is_open : Reason → Bool
is_open nothing = true
is_open (cause n) = false
is_open (portion d) = true

-- Whether the message can hold a dialogue portion; an Abort with a P-Abort cause can't
-- (Q.773, Abort message).
abbrev pub has_place : Message → Bool
has_place (unidirectional d c) = true
has_place (begin o d c) = true
has_place (end t d c) = true
has_place (go_on o t d c) = true
has_place (abort t r) = is_open r
