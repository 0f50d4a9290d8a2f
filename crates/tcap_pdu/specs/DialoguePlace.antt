-- Where the slices of a dialogue PDU lie in the contents of the dialogue portion.
use Rattle.std.specs.Prelude.{◌≡◌, ℕ, List, [], ◌∷◌, ◌++◌, Option, Some, None, IfSome}
use Rattle.ber_core.specs.Place.{Slice}
use Rattle.ber_core.specs.Way.{IsOnWay, IsOnWayIfAny}
use Rattle.tcap_pdu.specs.declared.dialogue_pdu.DialoguePdu.{DialoguePdu}
use Rattle.tcap_pdu.specs.declared.dialogue_pdu.DialoguePdu.TheVariants as pdu

-- The tag of a dialogue PDU; a foreign EXTERNAL is not looked into (Q.773, Dialogue portion).
abbrev pub pdu_tag : DialoguePdu → ℕ
pdu_tag (pdu.Aarq v c i) = 0x60
pdu_tag (pdu.Audt v c i) = 0x60
pdu_tag (pdu.Aare v c a d i) = 0x61
pdu_tag (pdu.Abrt b i) = 0x64
pdu_tag (pdu.Foreign e) = 0

-- Behind these tags the application context name is held in A1 and there in 06, the user information
-- in BE (Q.773, Dialogue portion).
abbrev pub HeldOnWay : List ℕ → Slice → Slice → Slice → Type 0
HeldOnWay way context info bytes = IsOnWay (way ++ (0xa1 ∷ 0x06 ∷ [])) context bytes × IsOnWayIfAny (way ++ (0xbe ∷ [])) info bytes

-- The slices of a dialogue PDU lie where the tags lead; an ABRT holds no context (Q.773, Dialogue portion).
abbrev pub PartsOnWay : List ℕ → DialoguePdu → Slice → Type 0
PartsOnWay way (pdu.Aarq v c i) bytes = HeldOnWay way c i bytes
PartsOnWay way (pdu.Audt v c i) bytes = HeldOnWay way c i bytes
PartsOnWay way (pdu.Aare v c a d i) bytes = HeldOnWay way c i bytes
PartsOnWay way (pdu.Abrt b i) bytes = IsOnWayIfAny (way ++ (0xbe ∷ [])) i bytes
PartsOnWay way (pdu.Foreign e) bytes = Unit {0}

-- The slice of a foreign EXTERNAL, if it is one (own).
abbrev pub foreign_slice : DialoguePdu → Option Slice
foreign_slice (pdu.Aarq v c i) = None
foreign_slice (pdu.Audt v c i) = None
foreign_slice (pdu.Aare v c a d i) = None
foreign_slice (pdu.Abrt b i) = None
foreign_slice (pdu.Foreign e) = Some e

-- Behind these tags and its own the PDU's parts are held in the bytes; a foreign EXTERNAL is all
-- (Q.773, Dialogue portion).
abbrev pub PduOnWay : List ℕ → DialoguePdu → Slice → Slice → Type 0
PduOnWay way p all bytes = PartsOnWay (way ++ (pdu_tag p ∷ [])) p bytes × IfSome (foreign_slice p) (λ e. e ≡ all)

-- The slices of the PDU are parts of the contents of a dialogue portion: the way leads through the
-- EXTERNAL, 28, and its single ASN.1 type, A0 (X.690, Encoding of a value of the external type).
abbrev pub PduInPlace : DialoguePdu → Slice → Type 0
PduInPlace p bytes = PduOnWay (0x28 ∷ 0xa0 ∷ []) p bytes bytes
