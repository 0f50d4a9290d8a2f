-- How many bytes a written message has, by the lengths of its parts.
use Rattle.std.specs.Prelude.{◌≡◌, ℕ, zero, suc, ◌+◌, List, [], length, unwrap_or, Option, Some, None}
use Rattle.ber_core.specs.WrittenLength.{element_length as shortest_length}
use Rattle.tcap_pdu.specs.FrameSpelling.{Reason, Message}
use Rattle.tcap_pdu.specs.FrameSpelling.Reason.{nothing, cause, portion}
use Rattle.tcap_pdu.specs.FrameSpelling.Message.{unidirectional, begin, end, go_on, abort}

-- An Abort's reason with these contents of 6B in place of its own; a P-Abort cause stays
-- (Q.773, Abort message).
abbrev pub reason_with : Option (List ℕ) → Reason → Reason
reason_with d (cause n) = cause n
reason_with None nothing = nothing
reason_with None (portion own) = nothing
reason_with (Some d) nothing = portion d
reason_with (Some d) (portion own) = portion d

-- The message with these contents of 6B in place of its own, or without 6B (own).
abbrev pub with_dialogue : Option (List ℕ) → Message → Message
with_dialogue d (unidirectional own c) = unidirectional d c
with_dialogue d (begin o own c) = begin o d c
with_dialogue d (end t own c) = end t d c
with_dialogue d (go_on o t own c) = go_on o t d c
with_dialogue d (abort t r) = abort t (reason_with d r)

-- The contents of 6B of an Abort, if it has one (Q.773, Abort message).
abbrev pub reason_dialogue : Reason → Option (List ℕ)
reason_dialogue nothing = None
reason_dialogue (cause n) = None
reason_dialogue (portion d) = Some d

-- The contents of 6B of a message, if it has one (Q.773, Structure of TC messages).
abbrev pub dialogue_of : Message → Option (List ℕ)
dialogue_of (unidirectional d c) = d
dialogue_of (begin o d c) = d
dialogue_of (end t d c) = d
dialogue_of (go_on o t d c) = d
dialogue_of (abort t r) = reason_dialogue r

-- How many bytes the contents of 6B have, 0 where there is no 6B (own).
abbrev pub dialogue_length : Message → ℕ
dialogue_length m = length (unwrap_or (dialogue_of m) [])

-- A length of contents, none where it is 0: the part is left out (own).
abbrev pub nonzero : ℕ → Option ℕ
nonzero zero = None
nonzero (suc n) = Some (suc n)

-- An Abort with a P-Abort cause has no 6B (Q.773, Abort message).
abbrev pub CanHold : Message → ℕ → Type 0
CanHold (unidirectional d c) n = Unit {0}
CanHold (begin o d c) n = Unit {0}
CanHold (end t d c) n = Unit {0}
CanHold (go_on o t d c) n = Unit {0}
CanHold (abort t nothing) n = Unit {0}
CanHold (abort t (cause number)) n = n ≡ 0
CanHold (abort t (portion d)) n = Unit {0}

-- The bytes of an element of this content length: a tag of one octet, the shortest length octets and
-- the content (X.690, Length octets).
unfoldable pub element_length : ℕ → ℕ
element_length n = shortest_length n

-- The bytes of an optional element (Q.773, tables of information elements).
abbrev pub may_length : Option ℕ → ℕ
may_length None = 0
may_length (Some n) = element_length n

-- The bytes of an optional element that is left out where it is empty
-- (Q.773, tables of information elements).
abbrev pub filled_length : ℕ → ℕ
filled_length n = may_length (nonzero n)

-- The bytes of an Abort's reason, with 6B contents of this length in place of its own
-- (Q.773, Abort message).
abbrev pub reason_length : Option ℕ → Reason → ℕ
reason_length d nothing = may_length d
reason_length d (cause n) = element_length 1
reason_length d (portion own) = may_length d

-- The bytes of the contents of a message, with 6B contents of this length in place of its own
-- (Q.773, Structure of TC messages).
abbrev pub content_length : Option ℕ → Message → ℕ
content_length d (unidirectional own c) = may_length d + element_length (length c)
content_length d (begin o own c) = element_length (length o) + may_length d + filled_length (length c)
content_length d (end t own c) = element_length (length t) + may_length d + filled_length (length c)
content_length d (go_on o t own c) = element_length (length o) + element_length (length t) + may_length d + filled_length (length c)
content_length d (abort t r) = element_length (length t) + reason_length d r

-- The bytes of a written message, with 6B contents of this length in place of its own, or without 6B
-- (Q.773, Structure of TC messages).
abbrev pub frame_length : Option ℕ → Message → ℕ
frame_length d m = element_length (content_length d m)
