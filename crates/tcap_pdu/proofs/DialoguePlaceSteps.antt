-- Where the parts of a dialogue PDU lie, step by step.
use Rattle.std.proofs.Common.{ℕ, ◌≡◌, List, [], ◌∷◌, ◌++◌, Option, Some, None, subst, sym}
use Rattle.std.specs.Prelude.{IfSome}
use Rattle.ber_core.specs.Place.{Slice}
use Rattle.ber_core.specs.Way.{IsInside, IsInsideIfAny, GoesOn, IsOnWay, IsOnWayIfAny}
use Rattle.ber_core.proofs.CallerLemmas.{inside-goes, inside-goes-any, way-one, way-one-any, way-in, way-any}
use Rattle.tcap_pdu.specs.declared.dialogue_pdu.DialoguePdu.{DialoguePdu}
use Rattle.tcap_pdu.specs.declared.dialogue_pdu.DialoguePdu.TheVariants as pdu
use Rattle.tcap_pdu.specs.DialoguePlace.{pdu_tag, foreign_slice, HeldOnWay, PartsOnWay, PduOnWay}

-- the application context name, held in A1 behind other elements
pub context-way : (context name rest bytes : Slice) → GoesOn 0xa1 rest bytes → IsInside 0xa1 name rest → IsInside 0x06 context name → IsOnWay (0xa1 ∷ 0x06 ∷ []) context bytes
context-way context name rest bytes g i h = way-in 0xa1 (0x06 ∷ []) context name bytes (inside-goes 0xa1 name rest bytes g i) (way-one 0x06 context name h)

-- the user information, behind other elements
pub info-way : (info rest bytes : Slice) → GoesOn 0xbe rest bytes → IsInsideIfAny 0xbe info rest → IsOnWayIfAny (0xbe ∷ []) info bytes
info-way info rest bytes g i = way-one-any 0xbe info bytes (inside-goes-any 0xbe info rest bytes g i)

pub held-in : (way : List ℕ) (tag : ℕ) (c i mid bytes : Slice) → IsInside tag mid bytes → HeldOnWay way c i mid → HeldOnWay (tag ∷ way) c i bytes
held-in way tag c i mid bytes h w = (way-in tag (way ++ (0xa1 ∷ 0x06 ∷ [])) c mid bytes h w.0, way-any tag (way ++ (0xbe ∷ [])) i mid bytes h w.1)

parts-in : (way : List ℕ) (tag : ℕ) (p : DialoguePdu) (mid bytes : Slice) → IsInside tag mid bytes → PartsOnWay way p mid → PartsOnWay (tag ∷ way) p bytes
parts-in way tag (pdu.Aarq v c i) mid bytes h w = held-in way tag c i mid bytes h w
parts-in way tag (pdu.Audt v c i) mid bytes h w = held-in way tag c i mid bytes h w
parts-in way tag (pdu.Aare v c a d i) mid bytes h w = held-in way tag c i mid bytes h w
parts-in way tag (pdu.Abrt b i) mid bytes h w = way-any tag (way ++ (0xbe ∷ [])) i mid bytes h w
parts-in way tag (pdu.Foreign e) mid bytes h w = tt

-- a PDU behind its own tag
pub pdu-in : (tag : ℕ) (o : Option DialoguePdu) (mid bytes : Slice) → IsInside tag mid bytes → IfSome o (λ p. pdu_tag p ≡ tag) → IfSome o (λ p. PartsOnWay [] p mid) → IfSome o (λ p. PartsOnWay (pdu_tag p ∷ []) p bytes)
pdu-in tag None mid bytes h t w = tt
pdu-in tag (Some p) mid bytes h t w = parts-in [] (pdu_tag p) p mid bytes (subst (λ (n : ℕ). IsInside n mid bytes) (sym t) h) w

-- a PDU in the single ASN.1 type of an EXTERNAL
pub pdu-held : (o : Option DialoguePdu) (mid rest external all : Slice) → GoesOn 0xa0 rest external → IsInside 0xa0 mid rest → IfSome o (λ p. foreign_slice p ≡ None) → IfSome o (λ p. PartsOnWay (pdu_tag p ∷ []) p mid) → IfSome o (λ p. PduOnWay (0xa0 ∷ []) p all external)
pdu-held None mid rest external all g i f w = tt
pdu-held (Some p) mid rest external all g i f w =
    (parts-in (pdu_tag p ∷ []) 0xa0 p mid external (inside-goes 0xa0 mid rest external g i) w, rw f tt)

-- a PDU in an EXTERNAL
pub pdu-placed : (o : Option DialoguePdu) (external bytes : Slice) → IsInside 0x28 external bytes → IfSome o (λ p. PduOnWay (0xa0 ∷ []) p bytes external) → IfSome o (λ p. PduOnWay (0x28 ∷ 0xa0 ∷ []) p bytes bytes)
pdu-placed None external bytes i w = tt
pdu-placed (Some p) external bytes i w = (parts-in (0xa0 ∷ pdu_tag p ∷ []) 0x28 p external bytes i w.0, w.1)
