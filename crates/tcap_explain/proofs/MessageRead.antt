-- A message that was read as an element, and the verdict on it.
use Rattle.std.proofs.Common.{◌≡◌, ◌≤◌, ◌∙◌, ℕ, ◌+◌, Bool, true, false, List, [], ◌∷◌, length, Option, Some, None, Result, Ok, Err, is_err, nat_lt, refl, sym, ap, arith, inl, inr}
use Rattle.std.specs.List.{position_from}
use Rattle.std.proofs.lemmas.List.{append-nil}
use Rattle.ber_core.specs.Element.{IsElement, Parts, depth_limit}
use Rattle.ber_core.specs.ElementReading.{element_at}
use Rattle.ber_core.specs.Place.{head_length}
use Rattle.ber_core.specs.SequenceReading.{is_tag}
use Rattle.ber_core.specs.Way.{inside, way_to}
use Rattle.ber_core.proofs.CallerLemmas.{by_result, element_again}
use Rattle.tcap_pdu.specs.FrameReading.{frame_at}
use Rattle.tcap_pdu.specs.FrameLength.{dialogue_of}
use Rattle.tcap_pdu.specs.FrameSpelling.{IsFrame, Message}
use Rattle.tcap_pdu.proofs.CallerLemmas.{frame_again}
use Rattle.tcap_component.specs.Component.{ComponentParts}
use Rattle.tcap_component.specs.ComponentFault.{FaultParts}
use Rattle.tcap_component.specs.ComponentReading.{component_at, components_of}
use Rattle.tcap_component.proofs.CallerLemmas.{components_of-next}
use Rattle.tcap_words.specs.declared.verdict.Verdict.{Verdict}
use Rattle.tcap_words.specs.declared.verdict.Verdict.TheVariants.{Component, Dialogue}
use Rattle.tcap_words.specs.Verdict.{components_verdict, message_limit, message_of, message_verdict, verdict_by, verdict_by_place, verdict_of}
use Rattle.tcap_explain.specs.Explaining.{component_fault, dialogue_fault, explained_at, explained_by, in_message, left_of}
use Rattle.tcap_explain.proofs.WayLemmas.{inside-here, left-fault}

-- ---- the message that an element is

pub element-alone : (e : Parts) → IsElement depth_limit e → element_at 32 e.whole ≡ Ok (e, [])
element-alone e h = ap (element_at 32) (sym (append-nil e.whole)) ∙ element_again 32 e [] h

frame-read : (e : Parts) (m : Message) → IsElement depth_limit e → IsFrame m e → frame_at e.whole ≡ Ok m
frame-read e m h is = frame_again m e.whole (record { element = e; is_element = h; is_whole = refl; is_frame = is })

pub message-read : (e : Parts) (m : Message) → IsElement depth_limit e → length e.whole ≤ message_limit → IsFrame m e → message_of e.whole ≡ Ok m
unfolding message_of
message-read e m h most is = by (nat_lt message_limit (length e.whole)) refl where
  by : (long : Bool) → nat_lt message_limit (length e.whole) ≡ long → message_of e.whole ≡ Ok m
  by false n = rw (n, frame-read e m h is) refl
  by true y = absurd (grind (arith, most, y))

way-within : (tag portion : ℕ) (e : Parts) → IsElement depth_limit e → is_tag tag e.tag ≡ true → way_to (tag ∷ portion ∷ []) e.whole ≡ head_length e.whole + (inside portion e.content).0
unfolding way_to
way-within tag portion e h is = rw (inside-here tag e.whole [] e (element-alone e h) is) (omega arith)

pub way-sum : (tag portion a b : ℕ) (e : Parts) → IsElement depth_limit e → is_tag tag e.tag ≡ true → a ≡ head_length e.whole → b ≡ (inside portion e.content).0 → a + b ≡ way_to (tag ∷ portion ∷ []) e.whole
way-sum tag portion a b e h is p q = let sum = way-within tag portion e h is in omega (arith, p, q, sum)

pub explained-component : (bytes : List ℕ) (m : Message) (number : ℕ) → message_of bytes ≡ Ok m → message_verdict m ≡ Component number → explained_at bytes ≡ component_fault bytes m
unfolding explained_at
explained-component bytes m number is faulty = ap (λ (v : Verdict). explained_by v bytes) (ap verdict_by is ∙ faulty) ∙ ap (in_message (component_fault bytes)) is

pub explained-dialogue : (bytes : List ℕ) (m : Message) → message_of bytes ≡ Ok m → message_verdict m ≡ Dialogue → explained_at bytes ≡ dialogue_fault bytes m (dialogue_of m)
unfolding explained_at
explained-dialogue bytes m is faulty = ap (λ (v : Verdict). explained_by v bytes) (ap verdict_by is ∙ faulty) ∙ ap (in_message (λ n. dialogue_fault bytes n (dialogue_of n))) is

pub verdict-is : (bytes : List ℕ) (m : Message) → message_of bytes ≡ Ok m → message_verdict m ≡ verdict_of bytes
verdict-is bytes m is = sym (ap verdict_by is)

-- ---- the number of the first faulty component

abbrev Items : Type 0
Items = List (Result ComponentParts FaultParts)

next-place : (k p : ℕ) (items : Items) → position_from is_err k items ≡ Some p → position_from is_err (k + 1) items ≡ Some (p + 1)
next-place k p [] is = absurd cc
next-place k p (Ok c ∷ items) is = next-place (k + 1) p items is
next-place k p (Err f ∷ items) is = let same : k ≡ p = cc in ap (λ (n : ℕ). let o : Option ℕ = Some (n + 1) in o) same

numbered-by : (o : Option ℕ) (items : Items) (number : ℕ) → position_from is_err 0 items ≡ o → verdict_by_place o ≡ Component number → position_from is_err 1 items ≡ Some number
numbered-by None items number at is = absurd cc
numbered-by (Some p) items number at is =
    let same : p + 1 ≡ number = cc in
    next-place 0 p items at ∙ ap (λ (n : ℕ). let o : Option ℕ = Some n in o) same

pub numbered : (content : List ℕ) (number : ℕ) → components_verdict content ≡ Component number → position_from is_err 1 (components_of content) ≡ Some number
numbered content number is = numbered-by (position_from is_err 0 (components_of content)) (components_of content) number refl is

from-place : (k p : ℕ) (items : Items) → position_from is_err k items ≡ Some p → k ≤ p
from-place k p [] is = absurd cc
from-place k p (Ok c ∷ items) is = let more = from-place (k + 1) p items is in omega (arith, more)
from-place k p (Err f ∷ items) is = let same : k ≡ p = cc in omega (arith, same)

pub next-numbered : (k number : ℕ) (bytes rest : List ℕ) (c : ComponentParts) → component_at bytes ≡ Ok (c, rest) → position_from is_err k (components_of bytes) ≡ Some number → position_from is_err (k + 1) (components_of rest) ≡ Some number
next-numbered k number bytes rest c is at = ap (position_from is_err k) (sym (components_of-next bytes rest c is)) ∙ at

-- where the number is reached, the faulty one stands in front
pub reached : (k number : ℕ) (bytes : List ℕ) → position_from is_err k (components_of bytes) ≡ Some number → number ≤ k → left_of bytes ≡ bytes
reached k number bytes at most = elim (by_result (component_at bytes)) [
  | inl f ↦ left-fault bytes f.0 f.1
  | inr r ↦ let later = from-place (k + 1) number (components_of r.0.1) (next-numbered k number bytes r.0.1 r.0.0 r.1 at) in absurd (omega (arith, later, most))
]
