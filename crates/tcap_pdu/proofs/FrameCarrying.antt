-- The lengths of a message with the dialogue portion of a PDU in place of its own.
use Rattle.std.proofs.Common.{◌≡◌, ℕ, ◌≤◌, true, List, length, Some, refl, sym, ap, ◌∙◌, arith}
use Rattle.std.specs.Prelude.{IfSome, None}
use Rattle.std.proofs.lemmas.Bool.{false≢true}
use Rattle.ber_core.specs.Sequence.Field.{may}
use Rattle.ber_core.specs.Written.{written_field, written_fields}
use Rattle.tcap_pdu.specs.FrameSpelling.{Message, fields}
use Rattle.tcap_pdu.specs.FrameSpelling.Reason.{nothing, cause, portion}
use Rattle.tcap_pdu.specs.FrameSpelling.Message.{unidirectional, begin, end, go_on, abort}
use Rattle.tcap_pdu.specs.FrameLength.{dialogue_of, content_length, frame_length, with_dialogue}
use Rattle.tcap_pdu.specs.FrameParts.{has_place}
use Rattle.tcap_pdu.specs.FrameWritten.{written_frame}
use Rattle.tcap_pdu.specs.DialogueDue.{content_fault, context_of, portion_length}
use Rattle.tcap_pdu.specs.DialogueSpelling.{PduValue}
use Rattle.tcap_pdu.specs.DialogueWritten.{written_dialogue}
use Rattle.tcap_pdu.proofs.DialogueLength.{length-dialogue}
use Rattle.tcap_pdu.proofs.DueSteps.{context_passed, context_short}
use Rattle.tcap_pdu.proofs.LengthGrammar.{content-fits, length-content, length-with, length-written}

dialogue-held : (w : List ℕ) (m : Message) → has_place m ≡ true → dialogue_of (with_dialogue (Some w) m) ≡ Some w
dialogue-held w (unidirectional d c) h = refl
dialogue-held w (begin o d c) h = refl
dialogue-held w (end t d c) h = refl
dialogue-held w (go_on o t d c) h = refl
dialogue-held w (abort t nothing) h = refl
dialogue-held w (abort t (cause n)) h = absurd (false≢true h)
dialogue-held w (abort t (portion d)) h = refl

-- contents that are held are within the limit of their 6B
pub held-within : (w : List ℕ) (m : Message) → has_place m ≡ true → length (written_field (may 0x6b (dialogue_of (with_dialogue (Some w) m)))) ≤ 65535 → length w ≤ 65535
held-within w m h le =
    let le = le in
    let short : length (written_field (may 0x6b (Some w))) ≤ 65535 = rw (dialogue-held w m h) at le in
    let whole = length-written 0x6b w in
    let least = content-fits (length w) in
    omega (arith, short, whole, least)

pub context-good : (p : PduValue) → content_fault p ≡ None → IfSome (context_of p) (λ c. length c ≤ 255)
context-good p e = context_short (context_of p) (context_passed p e)

-- the message, by the length of the portion
pub carrying-length : (p : PduValue) (m : Message) (n : ℕ) → n ≡ portion_length p → length (written_frame (with_dialogue (Some (written_dialogue p)) m)) ≡ frame_length (Some n) m
carrying-length p m n is = length-with (Some (written_dialogue p)) m ∙ ap (λ (k : ℕ). frame_length (Some k) m) (length-dialogue p ∙ sym is)

-- its contents, by the same
pub carrying-content : (p : PduValue) (m : Message) (n k : ℕ) → n ≡ portion_length p → k ≡ content_length (Some n) m → k ≡ length (written_fields (fields (with_dialogue (Some (written_dialogue p)) m)))
carrying-content p m n k is content = content ∙ sym (length-content (Some (written_dialogue p)) m ∙ ap (λ (k : ℕ). content_length (Some k) m) (length-dialogue p ∙ sym is))
