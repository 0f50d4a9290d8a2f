-- Each message with a fault has a place: where a walk finds nothing the elements are a message, and there is no fault.
use Rattle.std.proofs.Common.{◌≡◌, ℕ, List, [], Some, refl, sym, ap, subst, ◌∙◌, inl, inr}
use Rattle.std.proofs.lemmas.List.{append-nil}
use Rattle.ber_core.specs.Element.{Parts}
use Rattle.ber_core.proofs.CallerLemmas.{by_option}
use Rattle.tcap_pdu.specs.FrameSpelling.{IsFrame}
use Rattle.tcap_pdu.specs.FrameFaults.{IsFrameFault}
use Rattle.tcap_pdu.specs.FrameFaults.IsFrameFault.{no_element, no_message, no_list, no_sequence}
use Rattle.tcap_pdu.specs.declared.fault.FrameFault.TheVariants as fault
use Rattle.tcap_pdu.proofs.CallerLemmas.{frame_fails}
use Rattle.tcap_words.specs.declared.verdict.Verdict.{Verdict}
use Rattle.tcap_words.specs.declared.verdict.Verdict.TheVariants as verdict
use Rattle.tcap_words.specs.Verdict.{verdict_of}
use Rattle.tcap_explain.specs.declared.line.Line.TheVariants as line
use Rattle.tcap_explain.specs.declared.line.ListLine.TheVariants as list
use Rattle.tcap_explain.specs.declared.line.MessageLine.TheVariants as message
use Rattle.tcap_explain.specs.declared.line.Explained.{Explained}
use Rattle.tcap_explain.specs.Explaining.{explained_by}
use Rattle.tcap_explain.specs.Unmet.{Stands}
use Rattle.tcap_explain.specs.Walk.{walk}
use Rattle.tcap_explain.proofs.MessageStands.{message-stands}
use Rattle.tcap_explain.proofs.StandsLemmas.{AreListed, same_element, one-stands, constructed-stands}
use Rattle.tcap_explain.proofs.UnmetLemmas.{walk-stands}
use Rattle.tcap_explain.proofs.VerdictLemmas.{says-unknown, says-format, says-incorrect}

not_unknown : (bytes : List ℕ) → IsFrameFault bytes fault.Unknown → Stands (line.Message message.MessageType) bytes → ⊥
not_unknown bytes (no_message e i none) s =
    let r = message-stands e.whole s in
    let same = same_element e r.0 r.1 i r.2 r.3 in
    none (r.4.0, ap (λ (p : Parts). p.tag) same ∙ r.4.1.is_tag)

not_incorrect : (bytes : List ℕ) → IsFrameFault bytes fault.Incorrect → Stands (line.Message message.MessageType) bytes → ⊥
not_incorrect bytes (no_sequence e es i tag listed none) s =
    let r = message-stands e.whole s in
    let same = same_element e r.0 r.1 i r.2 r.3 in
    none r.4.0 (subst (IsFrame r.4.0) (sym same) r.4.1)

not_format : (bytes : List ℕ) → IsFrameFault bytes fault.BadlyFormatted → Stands (line.List list.OneElement) bytes → Stands (line.List list.OneConstructed) bytes → ⊥
not_format bytes (no_element all none) s t = none (one-stands all s)
not_format bytes (no_list e i tag none) s t =
    let r = constructed-stands e.whole t in
    let same = same_element e r.0 [] i r.1 (r.2 ∙ sym (append-nil r.0.whole)) in
    let there = subst (λ (p : Parts). AreListed p.content) (sym same) r.3 in
    none there.0 there.1

-- ---- by the verdict

abbrev pub IsExplained : Verdict → List ℕ → Type 0
IsExplained v bytes = (x : Explained) × (explained_by v bytes ≡ Some x)

pub unknown-there : (bytes : List ℕ) → verdict_of bytes ≡ verdict.UnknownType → IsExplained verdict.UnknownType bytes
unknown-there bytes v = elim (by_option (walk (line.Message message.MessageType) bytes)) [
  | inl n ↦ absurd (not_unknown bytes (frame_fails bytes fault.Unknown (says-unknown bytes v)) (walk-stands (line.Message message.MessageType) bytes n))
  | inr x ↦ x
]

pub incorrect-there : (bytes : List ℕ) → verdict_of bytes ≡ verdict.Incorrect → IsExplained verdict.Incorrect bytes
incorrect-there bytes v = elim (by_option (walk (line.Message message.MessageType) bytes)) [
  | inl n ↦ absurd (not_incorrect bytes (frame_fails bytes fault.Incorrect (says-incorrect bytes v)) (walk-stands (line.Message message.MessageType) bytes n))
  | inr x ↦ x
]

pub format-there : (bytes : List ℕ) → verdict_of bytes ≡ verdict.BadlyFormatted → IsExplained verdict.BadlyFormatted bytes
format-there bytes v = elim (by_option (walk (line.List list.OneElement) bytes)) [
  | inl n ↦ elim (by_option (walk (line.List list.OneConstructed) bytes)) [
    | inl o ↦ absurd (not_format bytes (frame_fails bytes fault.BadlyFormatted (says-format bytes v)) (walk-stands (line.List list.OneElement) bytes n) (walk-stands (line.List list.OneConstructed) bytes o))
    | inr x ↦ (x.0, rw (n, x.1) refl)
  ]
  | inr x ↦ (x.0, rw x.1 refl)
]
