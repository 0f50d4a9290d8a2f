-- A message stands in the tables.
use Rattle.std.proofs.Common.{◌≡◌, ℕ, ◌≤◌, true, leb, List, [], ◌∷◌, length, Option, Some, None, refl, sym, subst, arith, inl, inr, ne_eqb}
use Rattle.std.specs.List.{AllByRecursion}
use Rattle.std.proofs.lemmas.Bool.Decides.{nat_tests}
use Rattle.std.proofs.lemmas.List.{append-nil}
use Rattle.ber_core.specs.Element.{Parts, IsElement, joined}
use Rattle.ber_core.specs.Sequence.{InOrder}
use Rattle.ber_core.specs.Sequence.Field.{must, may, filled}
use Rattle.tcap_pdu.specs.TransId.{IsTransId}
use Rattle.tcap_pdu.specs.FrameSpelling.{Reason, Message, reason_fields, IsReason, IsFrame, SpellsFrame}
use Rattle.tcap_pdu.specs.FrameSpelling.Reason.{nothing, cause, portion}
use Rattle.tcap_pdu.specs.FrameSpelling.Message.{unidirectional, begin, end, go_on, abort}
use Rattle.tcap_explain.specs.declared.contents.Contents.{Contents}
use Rattle.tcap_explain.specs.declared.contents.Contents.TheVariants as contents
use Rattle.tcap_explain.specs.declared.line.Line.{Line}
use Rattle.tcap_explain.specs.declared.line.Line.TheVariants as line
use Rattle.tcap_explain.specs.declared.line.ListLine.TheVariants as list
use Rattle.tcap_explain.specs.declared.line.MessageLine.TheVariants as message
use Rattle.tcap_explain.specs.declared.table.Inside.{Inside}
use Rattle.tcap_explain.specs.declared.table.Inside.TheVariants as inside
use Rattle.tcap_explain.specs.Choice.{leads}
use Rattle.tcap_explain.specs.Octets.{fits}
use Rattle.tcap_explain.specs.Table.{next, may_end}
use Rattle.tcap_explain.specs.Unmet.{Holds, Stands}
use Rattle.tcap_explain.specs.Unmet.Holds.{octets, elements}
use Rattle.tcap_explain.specs.Unmet.Stands.{ends, begins}

abbrev pub All : List Parts → Type 0
All es = AllByRecursion (IsElement 32) es

abbrev pub nothing_more : Line
nothing_more = line.List list.End

pub taken : (l then : Line) (held : Inside) (e : Parts) (es : List Parts) → IsElement 32 e → next l e.tag e.content ≡ Some (leads held then) → Holds held e.content → Stands then (joined es) → Stands l (joined (e ∷ es))
taken l then held e es i n h s = begins l then held e (joined es) i n h s

pub end-again : (es : List Parts) → InOrder [] es → Stands nothing_more (joined es)
unfolding InOrder may_end
end-again [] h = ends nothing_more refl
end-again (e ∷ es) h = absurd h

pub end-here : Stands nothing_more (joined [])
unfolding may_end
end-here = ends nothing_more refl

pub whatever : (content : List ℕ) → Holds (inside.Octets contents.Any) content
whatever content = octets contents.Any content refl

pub fitting : (k : Contents) (content c : List ℕ) → content ≡ c → fits k c ≡ true → Holds (inside.Octets k) content
fitting k content c is f = octets k content (subst (λ (w : List ℕ). fits k w ≡ true) (sym is) f)

four : (n : ℕ) → n ≤ 4 → leb n 4 ≡ true
four n h = grind (arith, nat_tests)

id-fit : (c : List ℕ) → IsTransId c → fits contents.TransactionId c ≡ true
id-fit c h = rw (ne_eqb (length c) 0 (λ z. absurd (omega (arith, h.0, z)))) (four (length c) h.1)

identifies : (content c : List ℕ) → content ≡ c → IsTransId c → Holds (inside.Octets contents.TransactionId) content
identifies content c is h = fitting contents.TransactionId content c is (id-fit c h)

component-portion : (c : List ℕ) (es : List Parts) → All es → InOrder (filled 0x6c c ∷ []) es → Stands (line.Message message.ComponentPortion) (joined es)
unfolding InOrder next may_end
component-portion c [] a o = ends _ refl
component-portion c (e ∷ es) a (inl h) = taken (line.Message message.ComponentPortion) nothing_more (inside.Octets contents.Any) e es a.0 (rw h.0.0 refl) (whatever e.content) (end-again es h.1)
component-portion c (e ∷ es) a (inr h) = absurd h.1

portions : (d : Option (List ℕ)) (c : List ℕ) (es : List Parts) → All es → InOrder (may 0x6b d ∷ filled 0x6c c ∷ []) es → Stands (line.Message message.Portions) (joined es)
unfolding InOrder next may_end
portions d c [] a o = ends _ refl
portions None c (e ∷ es) a (inl h) = absurd h.0
portions (Some d) c (e ∷ es) a (inl h) = taken (line.Message message.Portions) (line.Message message.ComponentPortion) (inside.Octets contents.Any) e es a.0 (rw h.0.0 refl) (whatever e.content) (component-portion c es a.1 h.1)
portions (Some d) c (e ∷ es) a (inr h) = absurd cc
portions None c (e ∷ es) a (inr (l, inl h)) = taken (line.Message message.Portions) nothing_more (inside.Octets contents.Any) e es a.0 (rw h.0.0 refl) (whatever e.content) (end-again es h.1)
portions None c (e ∷ es) a (inr (l, inr h)) = absurd h.1

uni-components : (c : List ℕ) (es : List Parts) → All es → InOrder (must 0x6c c ∷ []) es → Stands (line.Message message.UniComponents) (joined es)
unfolding InOrder next may_end
uni-components c [] a o = absurd o.0
uni-components c (e ∷ es) a (inl h) = taken (line.Message message.UniComponents) nothing_more (inside.Octets contents.Any) e es a.0 (rw h.0.0 refl) (whatever e.content) (end-again es h.1)
uni-components c (e ∷ es) a (inr h) = absurd h.0

uni : (d : Option (List ℕ)) (c : List ℕ) (es : List Parts) → All es → InOrder (may 0x6b d ∷ must 0x6c c ∷ []) es → Stands (line.Message message.UniPortions) (joined es)
unfolding InOrder next may_end
uni d c [] a o = absurd o.1.0
uni None c (e ∷ es) a (inl h) = absurd h.0
uni (Some d) c (e ∷ es) a (inl h) = taken (line.Message message.UniPortions) (line.Message message.UniComponents) (inside.Octets contents.Any) e es a.0 (rw h.0.0 refl) (whatever e.content) (uni-components c es a.1 h.1)
uni (Some d) c (e ∷ es) a (inr h) = absurd cc
uni None c (e ∷ es) a (inr (l, inl h)) = taken (line.Message message.UniPortions) nothing_more (inside.Octets contents.Any) e es a.0 (rw h.0.0 refl) (whatever e.content) (end-again es h.1)
uni None c (e ∷ es) a (inr (l, inr h)) = absurd h.0

begins-with : (o : List ℕ) (d : Option (List ℕ)) (c : List ℕ) (es : List Parts) → All es → IsTransId o → InOrder (must 0x48 o ∷ may 0x6b d ∷ filled 0x6c c ∷ []) es → Stands (line.Message message.BeginOrigin) (joined es)
unfolding InOrder next may_end
begins-with o d c [] a t h = absurd h.0
begins-with o d c (e ∷ es) a t (inl h) = taken (line.Message message.BeginOrigin) (line.Message message.Portions) (inside.Octets contents.TransactionId) e es a.0 (rw h.0.0 refl) (identifies e.content o h.0.1 t) (portions d c es a.1 h.1)
begins-with o d c (e ∷ es) a t (inr h) = absurd h.0

destined : (o : List ℕ) (d : Option (List ℕ)) (c : List ℕ) (es : List Parts) → All es → IsTransId o → InOrder (must 0x49 o ∷ may 0x6b d ∷ filled 0x6c c ∷ []) es → Stands (line.Message message.Destination) (joined es)
unfolding InOrder next may_end
destined o d c [] a t h = absurd h.0
destined o d c (e ∷ es) a t (inl h) = taken (line.Message message.Destination) (line.Message message.Portions) (inside.Octets contents.TransactionId) e es a.0 (rw h.0.0 refl) (identifies e.content o h.0.1 t) (portions d c es a.1 h.1)
destined o d c (e ∷ es) a t (inr h) = absurd h.0

continues : (o t : List ℕ) (d : Option (List ℕ)) (c : List ℕ) (es : List Parts) → All es → IsTransId o → IsTransId t → InOrder (must 0x48 o ∷ must 0x49 t ∷ may 0x6b d ∷ filled 0x6c c ∷ []) es → Stands (line.Message message.ContinueOrigin) (joined es)
unfolding InOrder next may_end
continues o t d c [] a i j h = absurd h.0
continues o t d c (e ∷ es) a i j (inl h) = taken (line.Message message.ContinueOrigin) (line.Message message.Destination) (inside.Octets contents.TransactionId) e es a.0 (rw h.0.0 refl) (identifies e.content o h.0.1 i) (destined t d c es a.1 j h.1)
continues o t d c (e ∷ es) a i j (inr h) = absurd h.0

small : (n most : ℕ) → n ≤ most → leb n most ≡ true
small n most h = grind (arith, nat_tests)

reasons : (r : Reason) (es : List Parts) → All es → IsReason r → InOrder (reason_fields r) es → Stands (line.Message message.AbortReason) (joined es)
unfolding InOrder next may_end
reasons nothing [] a k h = ends _ refl
reasons nothing (e ∷ es) a k h = absurd h
reasons (cause n) [] a k h = absurd h.0
reasons (cause n) (e ∷ es) a k (inl h) = taken (line.Message message.AbortReason) nothing_more (inside.Octets contents.PAbortCause) e es a.0 (rw h.0.0 refl) (fitting contents.PAbortCause e.content (n ∷ []) h.0.1 (small n 0x7f k)) (end-again es h.1)
reasons (cause n) (e ∷ es) a k (inr h) = absurd h.0
reasons (portion d) [] a k h = absurd h.0
reasons (portion d) (e ∷ es) a k (inl h) = taken (line.Message message.AbortReason) nothing_more (inside.Octets contents.Any) e es a.0 (rw h.0.0 refl) (whatever e.content) (end-again es h.1)
reasons (portion d) (e ∷ es) a k (inr h) = absurd h.0

aborts : (t : List ℕ) (r : Reason) (es : List Parts) → All es → IsTransId t → IsReason r → InOrder (must 0x49 t ∷ reason_fields r) es → Stands (line.Message message.AbortDestination) (joined es)
unfolding InOrder next may_end
aborts t r [] a i k h = absurd h.0
aborts t r (e ∷ es) a i k (inl h) = taken (line.Message message.AbortDestination) (line.Message message.AbortReason) (inside.Octets contents.TransactionId) e es a.0 (rw h.0.0 refl) (identifies e.content t h.0.1 i) (reasons r es a.1 k h.1)
aborts t r (e ∷ es) a i k (inr h) = absurd h.0

abbrev message_line : Line
message_line = line.Message message.MessageType

-- an element of a type of message that holds what stands at a line
whole : (tag : ℕ) (l : Line) (e : Parts) → IsElement 32 e → next message_line e.tag e.content ≡ Some (leads (inside.Elements l) nothing_more) → (es : List Parts) → e.content ≡ joined es → Stands l (joined es) → Stands message_line e.whole
whole tag l e i n es is s =
    subst (Stands message_line) (append-nil e.whole)
    (taken message_line nothing_more (inside.Elements l) e [] i n (elements l e.content (subst (Stands l) (sym is) s)) end-here)

element-stands : (m : Message) (e : Parts) → IsElement 32 e → IsFrame m e → Stands message_line e.whole
unfolding next
element-stands (unidirectional d c) e i f = whole 0x61 (line.Message message.UniPortions) e i (rw f.is_tag refl) f.in_sequence.elements f.in_sequence.is_list.is_joined (uni d c f.in_sequence.elements f.in_sequence.is_list.each f.in_sequence.in_order)
element-stands (begin o d c) e i f = whole 0x62 (line.Message message.BeginOrigin) e i (rw f.is_tag refl) f.in_sequence.elements f.in_sequence.is_list.is_joined (begins-with o d c f.in_sequence.elements f.in_sequence.is_list.each f.has_ids f.in_sequence.in_order)
element-stands (end t d c) e i f = whole 0x64 (line.Message message.Destination) e i (rw f.is_tag refl) f.in_sequence.elements f.in_sequence.is_list.is_joined (destined t d c f.in_sequence.elements f.in_sequence.is_list.each f.has_ids f.in_sequence.in_order)
element-stands (go_on o t d c) e i f = whole 0x65 (line.Message message.ContinueOrigin) e i (rw f.is_tag refl) f.in_sequence.elements f.in_sequence.is_list.is_joined (continues o t d c f.in_sequence.elements f.in_sequence.is_list.each f.has_ids.0 f.has_ids.1 f.in_sequence.in_order)
element-stands (abort t r) e i f = whole 0x67 (line.Message message.AbortDestination) e i (rw f.is_tag refl) f.in_sequence.elements f.in_sequence.is_list.is_joined (aborts t r f.in_sequence.elements f.in_sequence.is_list.each f.has_ids f.has_cause f.in_sequence.in_order)

pub message_again : (m : Message) (bytes : List ℕ) → SpellsFrame m bytes → Stands message_line bytes
message_again m bytes h = subst (Stands message_line) (sym h.is_whole) (element-stands m h.element h.is_element h.is_frame)
