-- The canonical form of a canonical form is the same again.
use Rattle.std.proofs.Common.{◌≡◌, ℕ, ◌≤◌, Bool, true, false, List, [], length, Option, Some, None, unwrap_or, option_map, Result, Ok, Err, refl, sym, ap, ap₂, subst, ◌∙◌, arith, is_err, inl, inr}
use Rattle.std.specs.Prelude.{if◌then◌else◌}
use Rattle.std.specs.List.{flat_map, position_from}
use Rattle.ber_core.proofs.CallerLemmas.{by_result, chosen_by}
use Rattle.tcap_pdu.specs.declared.fault.DialogueFault.{DialogueFault}
use Rattle.tcap_pdu.specs.FrameSpelling.{Message}
use Rattle.tcap_pdu.specs.FrameSpelling.Reason.{nothing, cause, portion}
use Rattle.tcap_pdu.specs.FrameSpelling.Message.{unidirectional, begin, end, go_on, abort}
use Rattle.tcap_pdu.specs.FrameLength.{dialogue_of}
use Rattle.tcap_pdu.specs.FramePortions.{components_in}
use Rattle.tcap_pdu.specs.FrameWritten.{written_frame}
use Rattle.tcap_pdu.specs.DialogueSpelling.{PduValue}
use Rattle.tcap_pdu.specs.DialogueReading.{dialogue_at}
use Rattle.tcap_pdu.specs.DialogueWritten.{written_dialogue, IsWritable}
use Rattle.tcap_pdu.proofs.CallerLemmas.{dialogue_takes, written_read, written_again, spelled_context, spelled_information, spelled_diagnostic}
use Rattle.tcap_component.specs.ComponentFault.{FaultParts}
use Rattle.tcap_component.specs.Component.{ComponentParts}
use Rattle.tcap_component.specs.ComponentReading.{components_of}
use Rattle.tcap_words.specs.declared.verdict.Verdict.{Verdict}
use Rattle.tcap_words.specs.declared.verdict.Verdict.TheVariants.{Dialogue, Good}
use Rattle.tcap_words.specs.Verdict.{is_known, is_read, is_good_portion, is_good, verdict_by_place, components_verdict, portions_verdict, message_of, message_verdict, verdict_by, verdict_of}
use Rattle.tcap_words.specs.Canonical.{canonical_item, canonical_components, canonical_pdu, canonical_dialogue, canonical_message, canonical_frame, canonical_of, canon_line, canon_text_of}
use Rattle.tcap_words.proofs.CanonicalComponents.{components-again}
use Rattle.tcap_words.proofs.CanonicalFrame.{cause_kept, ids_kept, portion-within, canonical-within}
use Rattle.tcap_words.proofs.MessageSteps.{message-again, message-bad, read-cause, read-ids, canonical_of-read}

-- ---- the dialogue portion

known-read : (r : Result PduValue DialogueFault) → is_known r ≡ true → is_read r ≡ true
known-read (Ok p) e = refl
known-read (Err f) e = absurd cc

not_good : false ≡ true → ⊥
not_good e = absurd cc

pdu-again : (content : List ℕ) (p : PduValue) → dialogue_at content ≡ Ok p → length (canonical_dialogue content) ≤ 65535 → dialogue_at (canonical_dialogue content) ≡ dialogue_at content
pdu-again content p e le =
    let form : canonical_dialogue content ≡ written_dialogue p = ap canonical_pdu e in
    let s = dialogue_takes content p e in
    let w : IsWritable p = record { is_context_good = spelled_context p content s; is_information_good = spelled_information p content s; is_short = subst (λ (x : List ℕ). length x ≤ 65535) form le } in
    ap dialogue_at form ∙ (written_read p w (spelled_diagnostic p content s) ∙ sym e)

dialogue-again : (content : List ℕ) → is_read (dialogue_at content) ≡ true → length (canonical_dialogue content) ≤ 65535 → dialogue_at (canonical_dialogue content) ≡ dialogue_at content
dialogue-again content good le = elim (by_result (dialogue_at content)) [
  | inl f ↦ absurd (not_good (sym (ap is_read f.1) ∙ good))
  | inr p ↦ pdu-again content p.0 p.1 le
]

-- ---- both portions

abbrev portions : Option (List ℕ) → Option (List ℕ)
portions d = option_map canonical_dialogue d

-- a portion is as good as before, and its canonical form the same
abbrev IsSame : Option (List ℕ) → Type 0
IsSame d = (is_good_portion (portions d) ≡ is_good_portion d) × (portions (portions d) ≡ portions d)

portion-same : (d : Option (List ℕ)) → is_good_portion d ≡ true → length (unwrap_or (portions d) []) ≤ 65535 → IsSame d
portion-same None good le = (refl, refl)
portion-same (Some content) good le =
    let same = dialogue-again content (known-read (dialogue_at content) good) le in
    (ap is_known same, ap (λ (r : Result PduValue DialogueFault). Some (canonical_pdu r)) same)

place_none : (o : Option ℕ) → verdict_by_place o ≡ Good → o ≡ None
place_none None e = refl
place_none (Some n) e = absurd cc

not_dialogue : Dialogue ≡ Good → ⊥
not_dialogue e = absurd cc

-- what is said of the canonical form of both portions
record Again (d : Option (List ℕ)) (c : List ℕ) : Type 0 where
  good : portions_verdict (portions d) (canonical_components c) ≡ Good
  dialogue : portions (portions d) ≡ portions d
  parts : canonical_components (canonical_components c) ≡ canonical_components c

abbrev verdict_from : Bool → Verdict → Verdict
verdict_from b v = if b then v else Dialogue

portions-again : (d : Option (List ℕ)) (c : List ℕ) → portions_verdict d c ≡ Good → length (unwrap_or (portions d) []) ≤ 65535 → length (canonical_components c) ≤ 65535 → Again d c
portions-again d c e le lc = elim (chosen_by (is_good_portion d) (components_verdict c) Dialogue Good e) [
  | inr h ↦ absurd (not_dialogue h.1)
  | inl h ↦
      let same = portion-same d h.0 le in
      let listed = components-again c (place_none (position_from is_err 0 (components_of c)) h.1) lc in
      let verdict : components_verdict (canonical_components c) ≡ components_verdict c = ap (λ (xs : List (Result ComponentParts FaultParts)). verdict_by_place (position_from is_err 0 xs)) listed in
      record {
        good = ap₂ verdict_from same.0 verdict ∙ e;
        dialogue = same.1;
        parts = ap (λ (xs : List (Result ComponentParts FaultParts)). flat_map canonical_item xs) listed;
      }
]

-- ---- the message

abbrev IsTwice : Message → Type 0
IsTwice m = (message_verdict (canonical_message m) ≡ Good) × (canonical_message (canonical_message m) ≡ canonical_message m)

reason-again : (t content : List ℕ) → message_verdict (abort t (portion content)) ≡ Good → length (canonical_dialogue content) ≤ 65535 → IsTwice (abort t (portion content))
reason-again t content e le = elim (chosen_by (is_read (dialogue_at content)) Good Dialogue Good e) [
  | inr h ↦ absurd (not_dialogue h.1)
  | inl h ↦
      let same = dialogue-again content h.0 le in
      (ap (λ (r : Result PduValue DialogueFault). if is_read r then Good else Dialogue) same ∙ e, ap (λ (r : Result PduValue DialogueFault). abort t (portion (canonical_pdu r))) same)
]

twice-within : (m : Message) → message_verdict m ≡ Good → length (unwrap_or (portions (dialogue_of m)) []) ≤ 65535 → length (canonical_components (components_in m)) ≤ 65535 → IsTwice m
twice-within (unidirectional d c) e le lc = let a = portions-again d c e le lc in (a.good, ap₂ (λ (x : Option (List ℕ)) (y : List ℕ). unidirectional x y) a.dialogue a.parts)
twice-within (begin o d c) e le lc = let a = portions-again d c e le lc in (a.good, ap₂ (λ (x : Option (List ℕ)) (y : List ℕ). begin o x y) a.dialogue a.parts)
twice-within (end t d c) e le lc = let a = portions-again d c e le lc in (a.good, ap₂ (λ (x : Option (List ℕ)) (y : List ℕ). end t x y) a.dialogue a.parts)
twice-within (go_on o t d c) e le lc = let a = portions-again d c e le lc in (a.good, ap₂ (λ (x : Option (List ℕ)) (y : List ℕ). go_on o t x y) a.dialogue a.parts)
twice-within (abort t nothing) e le lc = (refl, refl)
twice-within (abort t (cause n)) e le lc = (refl, refl)
twice-within (abort t (portion content)) e le lc = reason-again t content e le

message-twice : (m : Message) → message_verdict m ≡ Good → length (canonical_frame m) ≤ 65535 → IsTwice m
message-twice m e le = twice-within m e (omega (arith, le, portion-within m)) (omega (arith, le, canonical-within m))

-- ---- the bytes

-- what the law says of bytes
abbrev Says : List ℕ → Type 0
Says bytes = (verdict_of (canonical_of bytes) ≡ Good) × (canonical_of (canonical_of bytes) ≡ canonical_of bytes)

read-twice : (bytes : List ℕ) (m : Message) → message_of bytes ≡ Ok m → verdict_of bytes ≡ Good → length (canonical_of bytes) ≤ 65535 → Says bytes
read-twice bytes m read good le =
    let form = canonical_of-read bytes m read in
    let short : length (canonical_frame m) ≤ 65535 = subst (λ (w : List ℕ). length w ≤ 65535) form le in
    let t = message-twice m (sym (ap verdict_by read) ∙ good) short in
    let ids = ids_kept (portions (dialogue_of m)) (canonical_components (components_in m)) m (read-ids bytes m read) in
    let cause = cause_kept (portions (dialogue_of m)) (canonical_components (components_in m)) m (read-cause bytes m read) in
    let again = message-again (canonical_frame m) (canonical_message m) short (written_again (canonical_message m) ids cause short) in
    let here = ap message_of form ∙ again in
    (ap verdict_by here ∙ t.0, canonical_of-read (canonical_of bytes) (canonical_message m) here ∙ (ap (λ (x : Message). written_frame x) t.1 ∙ sym form))

not_bad : (v : Verdict) → is_good v ≡ false → v ≡ Good → ⊥
not_bad v bad e = not_good (sym bad ∙ ap is_good e)

pub twice : (bytes : List ℕ) → verdict_of bytes ≡ Good → length (canonical_of bytes) ≤ 65535 → Says bytes
twice bytes good le = elim (by_result (message_of bytes)) [
  | inl v ↦ absurd (not_bad v.0 (message-bad bytes v.0 v.1) (sym (ap verdict_by v.1) ∙ good))
  | inr m ↦ read-twice bytes m.0 m.1 good le
]

pub text_twice : (bytes : List ℕ) → verdict_of bytes ≡ Good → length (canonical_of bytes) ≤ 65535 → canon_text_of (canonical_of bytes) ≡ canon_text_of bytes
text_twice bytes good le = let t = twice bytes good le in ap₂ canon_line (t.0 ∙ sym good) t.1
