-- Why bytes are no message, and the P-Abort cause that answers it.
use Rattle.std.specs.Prelude.{◌≡◌, ℕ, List, [], ◌∷◌}
use Rattle.ber_core.specs.Element.{Parts, IsElement, depth_limit}
use Rattle.ber_core.specs.ElementList.{IsList}
use Rattle.tcap_pdu.specs.FrameSpelling.{Message, message_tag, IsFrame}
use Rattle.tcap_pdu.specs.declared.fault.FrameFault.{FrameFault}
use Rattle.tcap_pdu.specs.declared.fault.FrameFault.TheVariants.{Unknown, BadlyFormatted, Incorrect}

-- The bytes are one element and nothing after it (X.690, Structure of an encoding).
abbrev pub IsOneElement : List ℕ → Type 0
IsOneElement bytes = (e : Parts) × IsElement depth_limit e × (bytes ≡ e.whole)

-- The element's tag is that of a message type (Q.773, Message type tag).
abbrev pub HasMessageTag : Parts → Type 0
HasMessageTag e = (m : Message) × (e.tag ≡ message_tag m ∷ [])

-- The fault of bytes that are no message. The first of four tests that fails decides, and each says
-- that those before it passed (Q.773, P-Abort cause; the order is own).
pub data IsFrameFault : List ℕ → FrameFault → Type 0 where
  -- BadlyFormatted: the bytes are not one element and nothing after it.
  no_element : (bytes : List ℕ) → (IsOneElement bytes → ⊥) → IsFrameFault bytes BadlyFormatted
  -- Unknown: the tag is none of the five.
  no_message : (e : Parts) → IsElement depth_limit e → (HasMessageTag e → ⊥) → IsFrameFault e.whole Unknown
  -- BadlyFormatted: the contents are not a list of elements.
  no_list : (e : Parts) → IsElement depth_limit e → HasMessageTag e → ((es : List Parts) → IsList es e.content → ⊥) → IsFrameFault e.whole BadlyFormatted
  -- Incorrect: they are not the listed sequence.
  no_sequence : (e : Parts) (es : List Parts) → IsElement depth_limit e → HasMessageTag e → IsList es e.content → ((m : Message) → IsFrame m e → ⊥) → IsFrameFault e.whole Incorrect

-- The P-Abort cause that answers a fault: 0 unrecognized message type, 2 badly formatted transaction
-- portion, 3 incorrect transaction portion (Q.773, P-Abort cause).
abbrev pub cause_of : FrameFault → ℕ
cause_of Unknown = 0
cause_of BadlyFormatted = 2
cause_of Incorrect = 3
