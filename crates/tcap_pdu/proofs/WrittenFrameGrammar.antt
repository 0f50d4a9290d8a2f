-- What is written is spelled so, and reading it gives it back.
use Rattle.std.proofs.Common.{◌≡◌, ◌≤◌, [], ◌∷◌, length, Ok, refl, arith}
use Rattle.ber_core.specs.Tag.{IsTag}
use Rattle.ber_core.specs.Written.{written_parts, written_fields}
use Rattle.ber_core.proofs.CallerLemmas.{fields_spelled, element_spelled}
use Rattle.tcap_pdu.specs.FrameSpelling.{Message, message_tag, fields, HasIds, HasCause, SpellsFrame}
use Rattle.tcap_pdu.specs.FrameSpelling.Message.{unidirectional, begin, end, go_on, abort}
use Rattle.tcap_pdu.specs.FrameReading.{frame_at}
use Rattle.tcap_pdu.specs.FrameWritten.{written_frame}
use Rattle.tcap_pdu.proofs.FrameGrammar.{frame_again}
use Rattle.tcap_pdu.proofs.LengthGrammar.{content-fits, length-written, parts-can}

tag_is : (m : Message) → IsTag (message_tag m ∷ [])
tag_is (unidirectional d c) = ((λ e. absurd (omega (arith, e))), refl)
tag_is (begin o d c) = ((λ e. absurd (omega (arith, e))), refl)
tag_is (end t d c) = ((λ e. absurd (omega (arith, e))), refl)
tag_is (go_on o t d c) = ((λ e. absurd (omega (arith, e))), refl)
tag_is (abort t r) = ((λ e. absurd (omega (arith, e))), refl)

content_within : (m : Message) → length (written_frame m) ≤ 65535 → length (written_fields (fields m)) ≤ 65535
content_within m le =
    let w = length-written (message_tag m) (written_fields (fields m)) in
    let n = content-fits (length (written_fields (fields m))) in
    omega (arith, w, n, le)

pub written_spelled : (m : Message) → HasIds m → HasCause m → length (written_frame m) ≤ 65535 → SpellsFrame m (written_frame m)
written_spelled m ids cause le =
    let within = content_within m le in
    record {
      element = written_parts (message_tag m ∷ []) (written_fields (fields m));
      is_element = element_spelled (message_tag m ∷ []) (written_fields (fields m)) (tag_is m) within;
      is_whole = refl;
      is_frame = record { is_tag = refl; in_sequence = fields_spelled (fields m) (parts-can m within); has_ids = ids; has_cause = cause };
    }

pub written_again : (m : Message) → HasIds m → HasCause m → length (written_frame m) ≤ 65535 → frame_at (written_frame m) ≡ Ok m
written_again m ids cause le = frame_again m (written_frame m) (written_spelled m ids cause le)
