-- What was read, by its verdict.
use Rattle.std.proofs.Common.{◌≡◌, ℕ, ◌≤◌, Bool, true, false, List, length, Result, Ok, Err, refl, sym, ap, ap₂, ◌∙◌, inl, inr}
use Rattle.std.specs.Prelude.{nat_lt}
use Rattle.std.proofs.lemmas.Bool.{le-ltb}
use Rattle.ber_core.proofs.CallerLemmas.{read_is, refused_is, not_read, chosen_by, guard_read}
use Rattle.tcap_pdu.specs.declared.fault.FrameFault.{FrameFault}
use Rattle.tcap_pdu.specs.declared.fault.FrameFault.TheVariants as fault
use Rattle.tcap_pdu.specs.FrameSpelling.{Message, HasIds, HasCause}
use Rattle.tcap_pdu.specs.FrameReading.{frame_at}
use Rattle.tcap_pdu.proofs.CallerLemmas.{frame_takes}
use Rattle.tcap_words.specs.declared.verdict.Verdict.{Verdict}
use Rattle.tcap_words.specs.declared.verdict.Verdict.TheVariants.{TooLong, UnknownType, BadlyFormatted, Incorrect, Dialogue, Component, Good}
use Rattle.tcap_words.specs.Text.{line}
use Rattle.tcap_words.specs.Verdict.{verdict_of_fault, message_by, message_of, message_verdict, verdict_by, verdict_of, is_good, verdict_words}
use Rattle.tcap_words.specs.Canonical.{canonical_frame, canonical_by, canonical_of, canon_verdict, canon_line, canon_text_of, canon_is_good}

abbrev framed : Message → Result Message FrameFault
framed m = Ok m

-- ---- the message

by-read : (r : Result Message FrameFault) (m : Message) → message_by r ≡ Ok m → r ≡ Ok m
by-read (Ok n) m e = ap framed (read_is {E = Verdict} n m e)
by-read (Err f) m e = absurd (not_read (verdict_of_fault f) m e)

pub message-read : (bytes : List ℕ) (m : Message) → message_of bytes ≡ Ok m → frame_at bytes ≡ Ok m
unfolding message_of
message-read bytes m e = by-read (frame_at bytes) m (guard_read (nat_lt 65535 (length bytes)) TooLong (message_by (frame_at bytes)) m e).1

pub message-again : (bytes : List ℕ) (m : Message) → length bytes ≤ 65535 → frame_at bytes ≡ Ok m → message_of bytes ≡ Ok m
unfolding message_of
message-again bytes m le e = rw (le-ltb 65535 (length bytes) le, e) refl

pub read-cause : (bytes : List ℕ) (m : Message) → message_of bytes ≡ Ok m → HasCause m
read-cause bytes m e = (frame_takes bytes m (message-read bytes m e)).is_frame.has_cause

pub read-ids : (bytes : List ℕ) (m : Message) → message_of bytes ≡ Ok m → HasIds m
read-ids bytes m e = (frame_takes bytes m (message-read bytes m e)).is_frame.has_ids

pub canonical_of-read : (bytes : List ℕ) (m : Message) → message_of bytes ≡ Ok m → canonical_of bytes ≡ canonical_frame m
unfolding canonical_of
canonical_of-read bytes m e = ap canonical_by e

-- ---- no message

fault-bad : (f : FrameFault) → is_good (verdict_of_fault f) ≡ false
fault-bad fault.Unknown = refl
fault-bad fault.BadlyFormatted = refl
fault-bad fault.Incorrect = refl

by-bad : (r : Result Message FrameFault) (v : Verdict) → message_by r ≡ Err v → is_good v ≡ false
by-bad (Ok m) v e = absurd (not_read v m (sym e))
by-bad (Err f) v e = ap is_good (sym (refused_is {A = Message} (verdict_of_fault f) v e)) ∙ fault-bad f

pub message-bad : (bytes : List ℕ) (v : Verdict) → message_of bytes ≡ Err v → is_good v ≡ false
unfolding message_of
message-bad bytes v e = elim (chosen_by (nat_lt 65535 (length bytes)) (Err TooLong) (message_by (frame_at bytes)) (Err v) e) [
  | inl h ↦ ap is_good (sym (refused_is {A = Message} TooLong v h.1))
  | inr h ↦ by-bad (frame_at bytes) v h.1
]

pub bad_not_good : (bytes : List ℕ) (v : Verdict) (b : Bool) → message_of bytes ≡ Err v → b ≡ is_good v → b ≡ true → ⊥
bad_not_good bytes v b e is good =
    let bad = message-bad bytes v e in cc

-- ---- the text

pub good_is : (v : Verdict) → is_good v ≡ true → v ≡ Good
good_is TooLong e = absurd cc
good_is UnknownType e = absurd cc
good_is BadlyFormatted e = absurd cc
good_is Incorrect e = absurd cc
good_is Dialogue e = absurd cc
good_is (Component n) e = absurd cc
good_is Good e = refl

-- the verdict on what was read is that on the bytes
judged : (bytes : List ℕ) (m : Message) (v : Verdict) → message_of bytes ≡ Ok m → v ≡ message_verdict m → v ≡ verdict_of bytes
judged bytes m v read is = is ∙ sym (ap verdict_by read)

pub text_good : (bytes : List ℕ) (m : Message) (v : Verdict) (b : Bool) → message_of bytes ≡ Ok m → v ≡ message_verdict m → b ≡ is_good v → b ≡ true → canon_line Good (canonical_frame m) ≡ canon_text_of bytes
text_good bytes m v b read is said good =
    ap₂ canon_line (sym (good_is v (sym said ∙ good)) ∙ judged bytes m v read is) (sym (canonical_of-read bytes m read))

pub flag_good : (bytes : List ℕ) (m : Message) (v : Verdict) (b : Bool) → message_of bytes ≡ Ok m → v ≡ message_verdict m → b ≡ is_good v → b ≡ true → is_good (canon_verdict Good (canonical_frame m)) ≡ canon_is_good bytes
flag_good bytes m v b read is said good =
    ap is_good (ap₂ canon_verdict (sym (good_is v (sym said ∙ good)) ∙ judged bytes m v read is) (sym (canonical_of-read bytes m read)))

line-bad : (v : Verdict) (form : List ℕ) → is_good v ≡ false → line (verdict_words v) ≡ canon_line v form
line-bad TooLong form e = refl
line-bad UnknownType form e = refl
line-bad BadlyFormatted form e = refl
line-bad Incorrect form e = refl
line-bad Dialogue form e = refl
line-bad (Component n) form e = refl
line-bad Good form e = absurd cc

flag-bad : (v : Verdict) (form : List ℕ) → is_good v ≡ false → is_good v ≡ is_good (canon_verdict v form)
flag-bad TooLong form e = refl
flag-bad UnknownType form e = refl
flag-bad BadlyFormatted form e = refl
flag-bad Incorrect form e = refl
flag-bad Dialogue form e = refl
flag-bad (Component n) form e = refl
flag-bad Good form e = absurd cc

pub text_bad : (bytes : List ℕ) (v : Verdict) → message_of bytes ≡ Err v → line (verdict_words v) ≡ canon_text_of bytes
text_bad bytes v e = line-bad v (canonical_of bytes) (message-bad bytes v e) ∙ ap (λ (w : Verdict). canon_line w (canonical_of bytes)) (sym (ap verdict_by e))

pub flag_bad : (bytes : List ℕ) (v : Verdict) → message_of bytes ≡ Err v → is_good v ≡ canon_is_good bytes
flag_bad bytes v e = flag-bad v (canonical_of bytes) (message-bad bytes v e) ∙ ap (λ (w : Verdict). is_good (canon_verdict w (canonical_of bytes))) (sym (ap verdict_by e))
