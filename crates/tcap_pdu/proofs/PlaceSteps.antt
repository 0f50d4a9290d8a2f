-- Where the portions of a message lie, step by step.
use Rattle.std.proofs.Common.{ℕ, ◌≡◌, ◌∙◌, true, List, [], ◌∷◌, Option, Some, None, refl, ap, subst, sym, inl, inr}
use Rattle.std.proofs.lemmas.Bool.{cases_Bool}
use Rattle.std.specs.List.{list_all}
use Rattle.std.specs.Prelude.{IfSome, IfOk, unwrap_or, is_ok, ok_or, Result, Ok, Err, if◌then◌else◌}
use Rattle.ber_core.specs.Place.{Slice}
use Rattle.ber_core.specs.Way.{IsInside, IsInsideIfAny, GoesOn, IsOnWay, IsOnWayIfAny}
use Rattle.ber_core.proofs.CallerLemmas.{by_option, list_again, inside-goes, way-one, way-one-any, way-in, way-any}
use Rattle.tcap_pdu.specs.declared.frame.Frame.{Frame}
use Rattle.ber_core.specs.Element.{Parts}
use Rattle.ber_core.specs.ListReading.{items_of}
use Rattle.ber_core.specs.SequenceReading.{alone_at}
use Rattle.tcap_pdu.specs.FrameReading.{type_at, message_at, contents_by, frame_by, frame_at}
use Rattle.tcap_pdu.specs.declared.frame.read.MessageType.{MessageType}
use Rattle.tcap_pdu.proofs.FrameGrammar.{is_frame}
use Rattle.ber_core.specs.Results.{Gives}
use Rattle.tcap_pdu.specs.declared.fault.FrameFault.{FrameFault}
use Rattle.tcap_pdu.specs.declared.fault.FrameFault.TheVariants.{Incorrect, BadlyFormatted}
use Rattle.tcap_pdu.specs.FrameSpelling.{Message, message_tag}
use Rattle.tcap_pdu.specs.FramePortions.{dialogue_slice, components_slice}
use Rattle.tcap_pdu.specs.FramePlace.{FrameIn, FrameInPlace}
use Rattle.tcap_pdu.specs.FrameViews.{message}

-- ---- messages

-- a component portion that may be left out
pub left_out : (tag : ℕ) (o : Option Slice) (c default rest bytes : Slice) → GoesOn tag rest bytes → c ≡ unwrap_or o default → default.now ≡ [] → IfSome o (λ x. IsInside tag x rest) → IsInsideIfAny tag c bytes
left_out tag None c default rest bytes g is e i = inl (ap (λ (x : Slice). x.now) is ∙ e)
left_out tag (Some x) c default rest bytes g is e i = inr (subst (λ (y : Slice). IsInside tag y bytes) (sym is) (inside-goes tag x rest bytes g i))

dialogue-way : (tag : ℕ) (d : Option Slice) (content bytes : Slice) → IsInside tag content bytes → IfSome d (λ x. IsInside 0x6b x content) → IfSome d (λ x. IsOnWay (tag ∷ 0x6b ∷ []) x bytes)
dialogue-way tag None content bytes i d = tt
dialogue-way tag (Some x) content bytes i d = way-in tag (0x6b ∷ []) x content bytes i (way-one 0x6b x content d)

components-way : (tag : ℕ) (o : Option Slice) (content bytes : Slice) → IsInside tag content bytes → IfSome o (λ x. IsInsideIfAny 0x6c x content) → IfSome o (λ x. IsOnWayIfAny (tag ∷ 0x6c ∷ []) x bytes)
components-way tag None content bytes i d = tt
components-way tag (Some x) content bytes i d = way-any tag (0x6c ∷ []) x content bytes i (way-one-any 0x6c x content d)

pub frame-placed : (f : Frame) (content bytes : Slice) → IsInside (message_tag (message f)) content bytes → FrameIn f content → FrameInPlace f bytes
frame-placed f content bytes i h =
    let tag = message_tag (message f) in
    (dialogue-way tag (dialogue_slice f) content bytes i h.0, components-way tag (components_slice f) content bytes i h.1)

ok_or-is : (o : Option Message) (f : FrameFault) (m : Message) → ok_or o f ≡ Ok m → o ≡ Some m
ok_or-is None f m e = absurd cc
ok_or-is (Some n) f m e = cc

pub frames-placed : (r : Result Frame FrameFault) (f : FrameFault) (k : MessageType) (e : Parts) (content bytes : Slice) → type_at e.tag ≡ Some k → Gives message r (ok_or (message_at k content.now) f) → e.content ≡ content.now
    → ((tag : ℕ) → e.tag ≡ tag ∷ [] → IsInside tag content bytes) → IfOk r (λ x. FrameIn x content) → IfOk r (λ x. FrameInPlace x bytes)
frames-placed (Err g) f k e content bytes t m same i h = tt
frames-placed (Ok x) f k e content bytes t m same i h =
    let whole = is_frame e k (message x) t (ap (message_at k) same ∙ ok_or-is (message_at k content.now) f (message x) m) in
    frame-placed x content bytes (i (message_tag (message x)) whole.is_tag) h

-- ---- contents that are read are a list of elements

abbrev unread : List ℕ → FrameFault
unread content = if list_all is_ok (items_of content) then Incorrect else BadlyFormatted

read_list : (tag content : List ℕ) (k : MessageType) (m : Message) → type_at tag ≡ Some k → message_at k content ≡ Some m → list_all is_ok (items_of content) ≡ true
read_list tag content k m t h =
    let frame = is_frame (record { tag = tag; content = content; whole = [] }) k m t h in
    list_again frame.in_sequence.elements content frame.in_sequence.is_list

contents_read : (tag content : List ℕ) (k : MessageType) → type_at tag ≡ Some k → contents_by (type_at tag) content ≡ ok_or (message_at k content) (unread content)
contents_read tag content k t = elim (by_option (message_at k content)) [
  | inl n ↦ elim (cases_Bool (list_all is_ok (items_of content))) [
    | inl y ↦ rw (t, n, y) refl
    | inr y ↦ rw (t, n, y) refl
  ]
  | inr m ↦ rw (t, m.1, read_list tag content k m.0 t m.1) refl
]

pub frame-read : (r : Result Frame FrameFault) (bytes : List ℕ) (e : Parts) (k : MessageType) → alone_at bytes ≡ Some e → type_at e.tag ≡ Some k → Gives message r (ok_or (message_at k e.content) (unread e.content)) → Gives message r (frame_at bytes)
unfolding frame_at
frame-read r bytes e k a t g = subst (Gives message r) (sym (ap frame_by a ∙ contents_read e.tag e.content k t)) g
