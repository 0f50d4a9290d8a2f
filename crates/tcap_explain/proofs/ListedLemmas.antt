-- Contents that are known to be a list of elements: those of an element of indefinite form, and those of a message.
use Rattle.std.proofs.Common.{◌≡◌, ◌∙◌, ℕ, zero, suc, ◌-◌, ◌<◌, true, List, [], ◌∷◌, length, is_ok, map, None, Result, Ok, refl, ap, arith, inl, inr}
use Rattle.std.specs.List.{AllByRecursion, list_all}
use Rattle.ber_core.specs.declared.fault.BerFault.{BerFault}
use Rattle.ber_core.specs.Element.{Parts, IsElement, IsIndefinite, joined}
use Rattle.ber_core.specs.Place.{head_length}
use Rattle.ber_core.specs.ListReading.{items_of}
use Rattle.ber_core.proofs.CallerLemmas.{items_of-list}
use Rattle.tcap_pdu.specs.FrameSpelling.{IsFrame, Message}
use Rattle.tcap_explain.specs.declared.line.Line.TheVariants as line
use Rattle.tcap_explain.specs.declared.line.ListLine.TheVariants as list
use Rattle.tcap_explain.specs.Walk.{walk}
use Rattle.tcap_explain.proofs.ComponentAgain.{elements-again}
use Rattle.tcap_explain.proofs.UnmetOnly.{stands-none}
use Rattle.tcap_explain.proofs.WalkLemmas.{definite_fills}

-- ---- one more may stand in another

each-so : (P Q : Parts → Type 0) → ((e : Parts) → P e → Q e) → (es : List Parts) → AllByRecursion P es → AllByRecursion Q es
each-so P Q h [] a = tt
each-so P Q h (e ∷ es) a = (h e a.0, each-so P Q h es a.1)

deeper : (depth : ℕ) (e : Parts) → IsElement depth e → IsElement (suc depth) e
unfolding IsElement
deeper zero e h = inl h
deeper (suc depth) e (inl h) = inl h
deeper (suc depth) e (inr i) = inr (record { elements = i.elements; is_tag = i.is_tag; constructs = i.constructs; each = each-so (IsElement depth) (IsElement (suc depth)) (deeper depth) i.elements i.each; is_content = i.is_content; is_whole = i.is_whole })

-- ---- elements one after the other

all-read : (es : List Parts) → list_all is_ok (map (λ (e : Parts). let r : Result Parts BerFault = Ok e in r) es) ≡ true
all-read [] = refl
all-read (e ∷ es) = all-read es

joined-listed : (bytes : List ℕ) (es : List Parts) → bytes ≡ joined es → AllByRecursion (IsElement 32) es → list_all is_ok (items_of bytes) ≡ true
joined-listed bytes es is each = ap (λ (w : List ℕ). list_all is_ok (items_of w)) is ∙ (ap (list_all is_ok) (items_of-list es each) ∙ all-read es)

-- ---- the indefinite form

joined-none : (es : List Parts) → AllByRecursion (IsElement 32) es → walk (line.List list.Elements) (joined es) ≡ None
joined-none es a = stands-none (line.List list.Elements) (joined es) (elements-again es a)

indefinite-none : (e : Parts) → IsIndefinite (IsElement 31) e → walk (line.List list.Elements) e.content ≡ None
indefinite-none e i = ap (walk (line.List list.Elements)) i.is_content ∙ joined-none i.elements (each-so (IsElement 31) (IsElement 32) (deeper 31) i.elements i.each)

-- where there is more behind the head than the content
pub listed-none : (e : Parts) → IsElement 32 e → length e.content < length e.whole - head_length e.whole → walk (line.List list.Elements) e.content ≡ None
unfolding IsElement
listed-none e (inl d) more = let same = definite_fills e d in absurd (omega (arith, more, same))
listed-none e (inr i) more = indefinite-none e i

pub indefinite-listed : (e : Parts) → IsElement 32 e → length e.content < length e.whole - head_length e.whole → list_all is_ok (items_of e.content) ≡ true
unfolding IsElement
indefinite-listed e (inl d) more = let same = definite_fills e d in absurd (omega (arith, more, same))
indefinite-listed e (inr i) more = joined-listed e.content i.elements i.is_content (each-so (IsElement 31) (IsElement 32) (deeper 31) i.elements i.each)

-- ---- a message

pub message-listed : (m : Message) (e : Parts) → IsFrame m e → list_all is_ok (items_of e.content) ≡ true
message-listed m e f =
    joined-listed e.content f.in_sequence.elements f.in_sequence.is_list.is_joined f.in_sequence.is_list.each
