-- What is appended part by part is the written message.
use Rattle.std.proofs.Common.{◌≡◌, ℕ, ◌+◌, List, [], ◌∷◌, ◌++◌, length, Option, Some, None, refl, sym, ap, ◌∙◌, append_assoc}
use Rattle.ber_core.specs.Sequence.{Field}
use Rattle.ber_core.specs.Sequence.Field.{must, may}
use Rattle.ber_core.specs.Written.{written, written_head, written_field, written_fields}
use Rattle.tcap_pdu.specs.DialogueSpelling.{PduValue}
use Rattle.tcap_pdu.specs.DialogueWritten.{written_dialogue}
use Rattle.tcap_pdu.specs.FrameMeasured.{carrying}
use Rattle.tcap_pdu.specs.FrameSpelling.{Message, Reason, message_tag, fields, reason_fields}
use Rattle.tcap_pdu.specs.FrameSpelling.Reason.{nothing, cause, portion}
use Rattle.tcap_pdu.specs.FrameSpelling.Message.{unidirectional, begin, end, go_on, abort}
use Rattle.tcap_pdu.specs.FrameLength.{dialogue_of, reason_dialogue, reason_with, with_dialogue}
use Rattle.tcap_pdu.specs.FrameParts.{identifier_fields, cause_fields, closing_fields}
use Rattle.tcap_pdu.specs.FrameWritten.{written_frame}
use Rattle.tcap_pdu.proofs.AppendedGrammar.{length-three}

one : (a rest : List ℕ) → a ++ rest ≡ (a ++ []) ++ rest
one a rest = sym (append_assoc a [] rest)

two : (a b rest : List ℕ) → a ++ (b ++ rest) ≡ (a ++ (b ++ [])) ++ rest
two a b rest = sym (append_assoc a (b ++ []) rest ∙ ap (λ (w : List ℕ). a ++ w) (append_assoc b [] rest))

reason-parts : (r : Reason) → written_fields (reason_fields r) ≡ written_field (may 0x6b (reason_dialogue r)) ++ written_fields (cause_fields r)
reason-parts nothing = refl
reason-parts (cause n) = refl
reason-parts (portion d) = refl

frame-parts : (m : Message) → written_fields (fields m) ≡ written_fields (identifier_fields m) ++ (written_field (may 0x6b (dialogue_of m)) ++ written_fields (closing_fields m))
frame-parts (unidirectional d c) = refl
frame-parts (begin o d c) = one (written_field (must 0x48 o)) _
frame-parts (end t d c) = one (written_field (must 0x49 t)) _
frame-parts (go_on o t d c) = two (written_field (must 0x48 o)) (written_field (must 0x49 t)) _
frame-parts (abort t r) = ap (λ (w : List ℕ). written_field (must 0x49 t) ++ w) (reason-parts r) ∙ one (written_field (must 0x49 t)) _

appended : (old ids part closing contents : List ℕ) (tag n : ℕ) → n ≡ length contents → contents ≡ ids ++ (part ++ closing) → ((old ++ (written_head (tag ∷ []) n ++ ids)) ++ part) ++ closing ≡ old ++ written (tag ∷ []) contents
appended old ids part closing contents tag n len parts =
    let head = written_head (tag ∷ []) n in
    append_assoc (old ++ (head ++ ids)) part closing
    ∙ (append_assoc old (head ++ ids) (part ++ closing)
    ∙ (ap (λ (w : List ℕ). old ++ w) (append_assoc head ids (part ++ closing))
    ∙ (ap (λ (w : List ℕ). old ++ (head ++ w)) (sym parts)
    ∙ ap (λ (k : ℕ). old ++ (written_head (tag ∷ []) k ++ contents)) len)))

module _ (m : Message) (n : ℕ) (d : Option (List ℕ)) (len : n ≡ length (written_fields (fields m))) (is : d ≡ dialogue_of m) where
  pub frame-appended : (old : List ℕ) → ((old ++ (written_head (message_tag m ∷ []) n ++ written_fields (identifier_fields m))) ++ written_field (may 0x6b d)) ++ written_fields (closing_fields m) ≡ old ++ written_frame m
  frame-appended old =
      ap (λ (o : Option (List ℕ)). ((old ++ (written_head (message_tag m ∷ []) n ++ written_fields (identifier_fields m))) ++ written_field (may 0x6b o)) ++ written_fields (closing_fields m)) is
      ∙ appended old (written_fields (identifier_fields m)) (written_field (may 0x6b (dialogue_of m))) (written_fields (closing_fields m)) (written_fields (fields m)) (message_tag m) n len (frame-parts m)

  pub frame-room : length (written_head (message_tag m ∷ []) n ++ written_fields (identifier_fields m)) + length (written_field (may 0x6b d)) + length (written_fields (closing_fields m)) ≡ length (written_frame m)
  frame-room = length-three (written_head (message_tag m ∷ []) n ++ written_fields (identifier_fields m)) (written_field (may 0x6b d)) (written_fields (closing_fields m)) (written_frame m) (frame-appended [])

-- ---- with another dialogue portion

tag-kept : (o : Option (List ℕ)) (m : Message) → message_tag m ≡ message_tag (with_dialogue o m)
tag-kept o (unidirectional d c) = refl
tag-kept o (begin i d c) = refl
tag-kept o (end t d c) = refl
tag-kept o (go_on i t d c) = refl
tag-kept o (abort t r) = refl

identifiers-kept : (o : Option (List ℕ)) (m : Message) → identifier_fields m ≡ identifier_fields (with_dialogue o m)
identifiers-kept o (unidirectional d c) = refl
identifiers-kept o (begin i d c) = refl
identifiers-kept o (end t d c) = refl
identifiers-kept o (go_on i t d c) = refl
identifiers-kept o (abort t r) = refl

cause-kept : (o : Option (List ℕ)) (r : Reason) → cause_fields r ≡ cause_fields (reason_with o r)
cause-kept o (cause n) = refl
cause-kept None nothing = refl
cause-kept None (portion d) = refl
cause-kept (Some w) nothing = refl
cause-kept (Some w) (portion d) = refl

closing-kept : (o : Option (List ℕ)) (m : Message) → closing_fields m ≡ closing_fields (with_dialogue o m)
closing-kept o (unidirectional d c) = refl
closing-kept o (begin i d c) = refl
closing-kept o (end t d c) = refl
closing-kept o (go_on i t d c) = refl
closing-kept o (abort t r) = cause-kept o r

module _ (o : Option (List ℕ)) (m : Message) (n : ℕ) (len : n ≡ length (written_fields (fields (with_dialogue o m)))) where
  carried-appended : (old : List ℕ) → ((old ++ (written_head (message_tag m ∷ []) n ++ written_fields (identifier_fields m))) ++ written_field (may 0x6b (dialogue_of (with_dialogue o m)))) ++ written_fields (closing_fields m) ≡ old ++ written_frame (with_dialogue o m)
  carried-appended old =
      let part = written_field (may 0x6b (dialogue_of (with_dialogue o m))) in
      ap (λ (tag : ℕ). ((old ++ (written_head (tag ∷ []) n ++ written_fields (identifier_fields m))) ++ part) ++ written_fields (closing_fields m)) (tag-kept o m)
      ∙ (ap (λ (fs : List Field). ((old ++ (written_head (message_tag (with_dialogue o m) ∷ []) n ++ written_fields fs)) ++ part) ++ written_fields (closing_fields m)) (identifiers-kept o m)
      ∙ (ap (λ (fs : List Field). ((old ++ (written_head (message_tag (with_dialogue o m) ∷ []) n ++ written_fields (identifier_fields (with_dialogue o m)))) ++ part) ++ written_fields fs) (closing-kept o m)
      ∙ frame-appended (with_dialogue o m) n (dialogue_of (with_dialogue o m)) len refl old))

pub message-appended : (p : Option PduValue) (m : Message) (n : ℕ) → n ≡ length (written_fields (fields (carrying p m))) → (old : List ℕ) → ((old ++ (written_head (message_tag m ∷ []) n ++ written_fields (identifier_fields m))) ++ written_field (may 0x6b (dialogue_of (carrying p m)))) ++ written_fields (closing_fields m) ≡ old ++ written_frame (carrying p m)
message-appended None m n len old = frame-appended m n (dialogue_of m) len refl old
message-appended (Some p) m n len old = carried-appended (Some (written_dialogue p)) m n len old

pub message-room : (p : Option PduValue) (m : Message) (n : ℕ) → n ≡ length (written_fields (fields (carrying p m))) → length (written_head (message_tag m ∷ []) n ++ written_fields (identifier_fields m)) + length (written_field (may 0x6b (dialogue_of (carrying p m)))) + length (written_fields (closing_fields m)) ≡ length (written_frame (carrying p m))
message-room p m n len = length-three (written_head (message_tag m ∷ []) n ++ written_fields (identifier_fields m)) (written_field (may 0x6b (dialogue_of (carrying p m)))) (written_fields (closing_fields m)) (written_frame (carrying p m)) (message-appended p m n len [])
