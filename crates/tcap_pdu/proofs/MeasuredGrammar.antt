-- A message that is measured: its lengths, by those of its parts.
use Rattle.std.proofs.Common.{◌≡◌, ℕ, ◌<◌, ◌≤◌, Option, Some, None, length, option_map, refl, sym, ◌∙◌, arith}
use Rattle.std.specs.Prelude.{IfNone}
use Rattle.tcap_pdu.specs.declared.frame.length.MessageLength.{MessageLength}
use Rattle.tcap_pdu.specs.DialogueDue.{portion_length}
use Rattle.tcap_pdu.specs.DialogueSpelling.{PduValue}
use Rattle.tcap_pdu.specs.FrameLength.{content_length, dialogue_of, frame_length, element_length}
use Rattle.tcap_pdu.specs.FrameMeasured.{IsMeasured, carrying}
use Rattle.tcap_pdu.specs.FrameSpelling.{Message}
use Rattle.tcap_pdu.specs.FrameWritten.{written_frame}
use Rattle.tcap_pdu.proofs.DialogueLength.{length-dialogue}
use Rattle.tcap_pdu.proofs.FrameCarrying.{carrying-length, carrying-content}
use Rattle.tcap_pdu.proofs.LengthGrammar.{own_length, sizes}

-- ---- as it stands

pub own-above : (m : Message) (d : Option ℕ) (o : Option MessageLength) → d ≡ option_map length (dialogue_of m) → 65535 < frame_length d m → IfNone o (65535 < length (written_frame m))
own-above m d None is lt = let own = own_length m d is in omega (arith, own, lt)
own-above m d (Some len) is lt = tt

pub own-measured : (len : MessageLength) (m : Message) (d : Option ℕ) → d ≡ option_map length (dialogue_of m) → len.contents ≡ content_length d m → len.dialogue ≡ 0 → frame_length d m ≤ 65535 → IsMeasured len m None
own-measured len m d is contents none le =
    let own = own_length m d is in
    let s = sizes m d len.contents (element_length len.contents) is contents refl in
    record { is_contents = s.0; is_dialogue = none; is_within = omega (arith, own, le) }

-- ---- with the dialogue portion of a PDU

pub carrying-above : (p : PduValue) (m : Message) (n : ℕ) (o : Option MessageLength) → n ≡ portion_length p → 65535 < frame_length (Some n) m → IfNone o (65535 < length (written_frame (carrying (Some p) m)))
carrying-above p m n None is lt = let whole = carrying-length p m n is in omega (arith, whole, lt)
carrying-above p m n (Some len) is lt = tt

pub carrying-measured : (len : MessageLength) (p : PduValue) (m : Message) (n : ℕ) → n ≡ portion_length p → len.contents ≡ content_length (Some n) m → len.dialogue ≡ n → frame_length (Some n) m ≤ 65535 → IsMeasured len m (Some p)
carrying-measured len p m n is contents dialogue le =
    let whole = carrying-length p m n is in
    record {
      is_contents = carrying-content p m n len.contents is contents;
      is_dialogue = dialogue ∙ (is ∙ sym (length-dialogue p));
      is_within = omega (arith, whole, le);
    }
