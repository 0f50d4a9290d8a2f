-- Where the portions of a message lie in its bytes.
use Rattle.std.specs.Prelude.{[], ◌∷◌, Option, IfSome}
use Rattle.ber_core.specs.Place.{Slice}
use Rattle.ber_core.specs.Way.{IsInside, IsInsideIfAny, IsOnWay, IsOnWayIfAny}
use Rattle.tcap_pdu.specs.declared.frame.Frame.{Frame}
use Rattle.tcap_pdu.specs.declared.frame.AbortPart.{AbortPart}
use Rattle.tcap_pdu.specs.FrameSpelling.{message_tag}
use Rattle.tcap_pdu.specs.FramePortions.{dialogue_slice, components_slice, reason_slice}
use Rattle.tcap_pdu.specs.FrameViews.{message}

-- The portions are the contents of 6B and of 6C in the contents of a message; one that is left out
-- lies anywhere (Q.773, Structure of TC messages).
abbrev pub PortionsIn : Option Slice → Slice → Slice → Type 0
PortionsIn dialogue components content = IfSome dialogue (λ d. IsInside 0x6b d content) × IsInsideIfAny 0x6c components content

-- What an Abort's reason holds is the contents of 6B (Q.773, Abort message).
abbrev pub ReasonIn : AbortPart → Slice → Type 0
ReasonIn reason content = IfSome (reason_slice reason) (λ d. IsInside 0x6b d content)

-- The slices of a message lie in its content (Q.773, Structure of TC messages).
abbrev pub FrameIn : Frame → Slice → Type 0
FrameIn f content = IfSome (dialogue_slice f) (λ d. IsInside 0x6b d content) × IfSome (components_slice f) (λ c. IsInsideIfAny 0x6c c content)

-- The portions of a message are parts of its bytes: the way leads through the message's tag to 6B
-- and to 6C; one that is left out lies anywhere (Q.773, Structure of TC messages).
abbrev pub FrameInPlace : Frame → Slice → Type 0
FrameInPlace f bytes =
    IfSome (dialogue_slice f) (λ d. IsOnWay (message_tag (message f) ∷ 0x6b ∷ []) d bytes)
    × IfSome (components_slice f) (λ c. IsOnWayIfAny (message_tag (message f) ∷ 0x6c ∷ []) c bytes)
