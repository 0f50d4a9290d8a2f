-- The length of what is written, by the lengths of its parts.
use Rattle.std.proofs.Common.{◌≡◌, ◌≢◌, Bool, ℕ, ◌+◌, ◌<◌, ◌≤◌, bit_and, false, IsTrue, ◌↔◌, List, [], ◌∷◌, length, Option, Some, None, unwrap_or, option_map, refl, sym, ap, subst, ◌∙◌, arith, length-append, append-nil}
use Rattle.std.specs.Prelude.{◌==◌, IfNone}
use Rattle.ber_core.specs.WrittenLength.{element_length as shortest_length}
use Rattle.ber_core.proofs.CallerLemmas.{element_length-least, length-written as length-shortest}
use Rattle.ber_core.specs.Sequence.{Field}
use Rattle.ber_core.specs.Sequence.Field.{must, may, filled, any}
use Rattle.ber_core.specs.Written.{written, written_field, written_fields, IsShort, CanWrite, CanWriteAll}
use Rattle.tcap_pdu.specs.FrameSpelling.{Reason, Message, message_tag, fields, reason_fields}
use Rattle.tcap_pdu.specs.FrameSpelling.Reason.{nothing, cause, portion}
use Rattle.tcap_pdu.specs.FrameSpelling.Message.{unidirectional, begin, end, go_on, abort}
use Rattle.tcap_pdu.specs.FrameWritten.{written_frame}
use Rattle.tcap_pdu.specs.FrameLength.{reason_with, with_dialogue, reason_dialogue, dialogue_of, dialogue_length, nonzero, element_length, may_length, filled_length, reason_length, content_length, frame_length}

pub content-fits : (n : ℕ) → n + 2 ≤ element_length n
unfolding element_length
content-fits n = element_length-least n

pub length-written : (tag : ℕ) (c : List ℕ) → length (written (tag ∷ []) c) ≡ element_length (length c)
unfolding element_length
length-written tag c = length-shortest tag c

may-length : (tag : ℕ) (d : Option (List ℕ)) → length (written_field (may tag d)) ≡ may_length (option_map length d)
may-length tag None = refl
may-length tag (Some c) = length-written tag c

filled-length : (tag : ℕ) (c : List ℕ) → length (written_field (filled tag c)) ≡ filled_length (length c)
filled-length tag [] = refl
filled-length tag (b ∷ c) = length-written tag (b ∷ c)

-- the parts, one after the other
last : (f : Field) → length (written_fields (f ∷ [])) ≡ length (written_field f)
last f = ap length (append-nil (written_field f))

two : (f g : Field) → length (written_fields (f ∷ g ∷ [])) ≡ length (written_field f) + length (written_field g)
two f g = length-append (written_field f) (written_fields (g ∷ [])) ∙ ap (λ (n : ℕ). length (written_field f) + n) (last g)

three : (f g h : Field) → length (written_fields (f ∷ g ∷ h ∷ [])) ≡ length (written_field f) + length (written_field g) + length (written_field h)
three f g h =
    let a = length-append (written_field f) (written_fields (g ∷ h ∷ [])) in
    let b = two g h in
    omega (arith, a, b)

four : (f g h i : Field) → length (written_fields (f ∷ g ∷ h ∷ i ∷ [])) ≡ length (written_field f) + length (written_field g) + length (written_field h) + length (written_field i)
four f g h i =
    let a = length-append (written_field f) (written_fields (g ∷ h ∷ i ∷ [])) in
    let b = three g h i in
    omega (arith, a, b)

reason-length : (d : Option (List ℕ)) (t : List ℕ) (r : Reason) → length (written_fields (must 0x49 t ∷ reason_fields (reason_with d r))) ≡ element_length (length t) + reason_length (option_map length d) r
reason-length None t nothing = let a = last (must 0x49 t) in let b = length-written 0x49 t in omega (arith, a, b)
reason-length None t (portion own) = let a = last (must 0x49 t) in let b = length-written 0x49 t in omega (arith, a, b)
reason-length (Some d) t nothing = let a = two (must 0x49 t) (must 0x6b d) in let b = length-written 0x49 t in let e = length-written 0x6b d in omega (arith, a, b, e)
reason-length (Some d) t (portion own) = let a = two (must 0x49 t) (must 0x6b d) in let b = length-written 0x49 t in let e = length-written 0x6b d in omega (arith, a, b, e)
reason-length None t (cause n) = let a = two (must 0x49 t) (must 0x4a (n ∷ [])) in let b = length-written 0x49 t in let e = length-written 0x4a (n ∷ []) in omega (arith, a, b, e)
reason-length (Some d) t (cause n) = let a = two (must 0x49 t) (must 0x4a (n ∷ [])) in let b = length-written 0x49 t in let e = length-written 0x4a (n ∷ []) in omega (arith, a, b, e)

pub length-content : (d : Option (List ℕ)) (m : Message) → length (written_fields (fields (with_dialogue d m))) ≡ content_length (option_map length d) m
length-content d (unidirectional own c) =
    let a = two (may 0x6b d) (must 0x6c c) in
    let e = may-length 0x6b d in
    let f = length-written 0x6c c in
    omega (arith, a, e, f)
length-content d (begin o own c) =
    let a = three (must 0x48 o) (may 0x6b d) (filled 0x6c c) in
    let b = length-written 0x48 o in
    let e = may-length 0x6b d in
    let f = filled-length 0x6c c in
    omega (arith, a, b, e, f)
length-content d (end t own c) =
    let a = three (must 0x49 t) (may 0x6b d) (filled 0x6c c) in
    let b = length-written 0x49 t in
    let e = may-length 0x6b d in
    let f = filled-length 0x6c c in
    omega (arith, a, b, e, f)
length-content d (go_on o t own c) =
    let a = four (must 0x48 o) (must 0x49 t) (may 0x6b d) (filled 0x6c c) in
    let b = length-written 0x48 o in
    let g = length-written 0x49 t in
    let e = may-length 0x6b d in
    let f = filled-length 0x6c c in
    omega (arith, a, b, g, e, f)
length-content d (abort t r) = reason-length d t r

-- the written message, with these contents of 6B in place of its own
pub length-with : (d : Option (List ℕ)) (m : Message) → length (written_frame (with_dialogue d m)) ≡ frame_length (option_map length d) m
length-with d m = length-written (message_tag (with_dialogue d m)) (written_fields (fields (with_dialogue d m))) ∙ ap element_length (length-content d m)

reason-own : (r : Reason) → reason_with (reason_dialogue r) r ≡ r
reason-own nothing = refl
reason-own (cause n) = refl
reason-own (portion d) = refl

-- with its own contents of 6B it is the message itself
pub with_dialogue-own : (m : Message) → with_dialogue (dialogue_of m) m ≡ m
with_dialogue-own (unidirectional d c) = refl
with_dialogue-own (begin o d c) = refl
with_dialogue-own (end t d c) = refl
with_dialogue-own (go_on o t d c) = refl
with_dialogue-own (abort t r) = ap (λ (x : Reason). abort t x) (reason-own r)

pub length-own : (m : Message) → length (written_frame m) ≡ frame_length (option_map length (dialogue_of m)) m
length-own m = ap (λ (n : Message). length (written_frame n)) (sym (with_dialogue-own m)) ∙ length-with (dialogue_of m) m

-- ---- what is within the limit in all can be written

abbrev IsPlain : ℕ → Type 0
IsPlain tag = (tag ≢ 0x00) × (bit_and tag 0x1f == 0x1f ≡ false)

abbrev Tagged : Field → Type 0
Tagged (must tag c) = IsPlain tag
Tagged (may tag c) = IsPlain tag
Tagged (filled tag c) = IsPlain tag
Tagged (any whole) = ⊥

abbrev AllTagged : List Field → Type 0
AllTagged [] = Unit {0}
AllTagged (f ∷ fs) = Tagged f × AllTagged fs

short : (tag : ℕ) (c : List ℕ) → IsPlain tag → length (written (tag ∷ []) c) ≤ 65535 → IsShort tag c
short tag c t le =
    let w = length-written tag c in
    let n = content-fits (length c) in
    (t.0, t.1, omega (arith, w, n, le))

can : (f : Field) → Tagged f → length (written_field f) ≤ 65535 → CanWrite f
can (must tag c) t le = short tag c t le
can (may tag None) t le = tt
can (may tag (Some c)) t le = short tag c t le
can (filled tag []) t le = (t.0, t.1, omega arith)
can (filled tag (b ∷ c)) t le = short tag (b ∷ c) t le
can (any whole) t le = absurd t

all_can : (fs : List Field) → AllTagged fs → length (written_fields fs) ≤ 65535 → CanWriteAll fs
all_can [] t le = tt
all_can (f ∷ fs) t le =
    let a = length-append (written_field f) (written_fields fs) in
    (can f t.0 (omega (arith, a, le)), all_can fs t.1 (omega (arith, a, le)))

plain : (tag : ℕ) → 0 < tag → (bit_and tag 0x1f == 0x1f ≡ false) → IsPlain tag
plain tag lt e = ((λ z. absurd (omega (arith, lt, z))), e)

p48 : IsPlain 0x48
p48 = plain 0x48 (omega arith) refl

p49 : IsPlain 0x49
p49 = plain 0x49 (omega arith) refl

p4a : IsPlain 0x4a
p4a = plain 0x4a (omega arith) refl

p6b : IsPlain 0x6b
p6b = plain 0x6b (omega arith) refl

p6c : IsPlain 0x6c
p6c = plain 0x6c (omega arith) refl

tagged_reason : (r : Reason) → AllTagged (reason_fields r)
tagged_reason nothing = tt
tagged_reason (cause n) = (p4a, tt)
tagged_reason (portion d) = (p6b, tt)

tagged_fields : (m : Message) → AllTagged (fields m)
tagged_fields (unidirectional d c) = (p6b, (p6c, tt))
tagged_fields (begin o d c) = (p48, (p6b, (p6c, tt)))
tagged_fields (end t d c) = (p49, (p6b, (p6c, tt)))
tagged_fields (go_on o t d c) = (p48, (p49, (p6b, (p6c, tt))))
tagged_fields (abort t r) = (p49, tagged_reason r)

pub parts-can : (m : Message) → length (written_fields (fields m)) ≤ 65535 → CanWriteAll (fields m)
parts-can m le = all_can (fields m) (tagged_fields m) le

-- ---- what write_frame and frame_fits count

-- what element_len counts for contents of this length
pub counted : (m : Message) (d : Option ℕ) (n t : ℕ) → n ≡ content_length d m → t ≡ shortest_length n → t ≡ frame_length d m
unfolding element_length
counted m d n t content total = total ∙ ap shortest_length content

-- a message whose contents are above the limit is above it
pub above : (m : Message) (d : Option ℕ) (o : Option ℕ) → 65535 < content_length d m → IfNone o (65535 < frame_length d m)
above m d None lt = let least = content-fits (content_length d m) in omega (arith, least, lt)
above m d (Some n) lt = tt

pub sizes : (m : Message) (d : Option ℕ) (n t : ℕ) → d ≡ option_map length (dialogue_of m) → n ≡ content_length d m → t ≡ element_length n → (n ≡ length (written_fields (fields m))) × (t ≡ length (written_frame m)) × (n + 2 ≤ t)
sizes m d n t own content total =
    let same = ap (λ (x : Option ℕ). content_length x m) own in
    let with = ap (λ (x : Message). length (written_fields (fields x))) (with_dialogue-own m) in
    let is : n ≡ length (written_fields (fields m)) = content ∙ (same ∙ (sym (length-content (dialogue_of m) m) ∙ with)) in
    let least = content-fits n in
    (is, total ∙ (ap element_length is ∙ sym (length-written (message_tag m) (written_fields (fields m)))), omega (arith, least, total))

-- the length of the written message, by the length of its own contents of 6B
pub own_length : (m : Message) (d : Option ℕ) → d ≡ option_map length (dialogue_of m) → length (written_frame m) ≡ frame_length d m
own_length m d is = length-own m ∙ ap (λ (x : Option ℕ). frame_length x m) (sym is)

pub fits-with : (m : Message) (d : Option (List ℕ)) (e : Option ℕ) (r : Bool) → option_map length d ≡ e → (IsTrue r ↔ (frame_length e m ≤ 65535)) → (IsTrue r ↔ (length (written_frame (with_dialogue d m)) ≤ 65535))
fits-with m d e r same h =
    let n : length (written_frame (with_dialogue d m)) ≡ frame_length e m = length-with d m ∙ ap (λ (x : Option ℕ). frame_length x m) same in
    subst (λ (x : ℕ). IsTrue r ↔ (x ≤ 65535)) (sym n) h

size-own : (d : Option (List ℕ)) → d ≢ Some [] → option_map length d ≡ nonzero (length (unwrap_or d []))
size-own None h = refl
size-own (Some []) h = absurd (h refl)
size-own (Some (b ∷ d)) h = refl

-- the length that a number of bytes gives is that of the message with its own contents of 6B
pub length-sized : (m : Message) → dialogue_of m ≢ Some [] → length (written_frame m) ≡ frame_length (nonzero (dialogue_length m)) m
length-sized m h = length-own m ∙ ap (λ (d : Option ℕ). frame_length d m) (size-own (dialogue_of m) h)
