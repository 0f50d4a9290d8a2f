-- The verdict on a message by the element that it is.
use Rattle.std.proofs.Common.{◌≡◌, ◌≤◌, ◌∙◌, ℕ, Bool, true, false, List, length, is_ok, Option, Some, None, Result, Ok, Err, nat_lt, ok_or, if◌then◌else◌, refl, sym, ap, arith}
use Rattle.ber_core.specs.Options.{◌>>=◌}
use Rattle.std.specs.List.{list_all}
use Rattle.ber_core.proofs.CallerLemmas.{alone_again}
use Rattle.ber_core.specs.Element.{IsElement, Parts, depth_limit}
use Rattle.ber_core.specs.ListReading.{items_of}
use Rattle.tcap_pdu.proofs.CallerLemmas.{frame_again, is_frame}
use Rattle.tcap_pdu.specs.FrameReading.{contents_by, frame_at, message_at, type_at}
use Rattle.tcap_pdu.specs.FrameSpelling.{IsFrame, Message}
use Rattle.tcap_pdu.specs.declared.fault.FrameFault.{FrameFault}
use Rattle.tcap_pdu.specs.declared.frame.read.MessageType.{MessageType}
use Rattle.tcap_judging.specs.ByElement.{message_in, unread, unread_by}
use Rattle.tcap_words.specs.Verdict.{is_good, message_by, message_limit, message_of, message_verdict, verdict_by, verdict_of, verdict_of_fault}
use Rattle.tcap_words.specs.declared.verdict.Verdict.{Verdict}

-- an element that is a message
frame-read : (e : Parts) (m : Message) (kind : Option MessageType) → IsElement depth_limit e → type_at e.tag ≡ kind → message_in e ≡ Some m → frame_at e.whole ≡ Ok m
frame-read e m None h t is = let is = is in let none : message_in e ≡ None = ap (λ (k : Option MessageType). k >>= (λ kind. message_at kind e.content)) t in absurd cc
frame-read e m (Some kind) h t is =
    let reads : message_at kind e.content ≡ Some m = sym (ap (λ (k : Option MessageType). k >>= (λ kind. message_at kind e.content)) t) ∙ is in
    frame_again m e.whole (record { element = e; is_element = h; is_whole = refl; is_frame = is_frame e kind m t reads })

-- one that isn't
none-read : (kind : Option MessageType) (content : List ℕ) → (kind >>= (λ k. message_at k content)) ≡ None → contents_by kind content ≡ Err (unread_by kind content)
none-read None content h = refl
none-read (Some kind) content h = by (list_all is_ok (items_of content)) (message_at kind content) h where
  by : (listed : Bool) (found : Option Message) → found ≡ None → (if listed then ok_or found FrameFault.Incorrect else Err FrameFault.BadlyFormatted) ≡ Err (if listed then FrameFault.Incorrect else FrameFault.BadlyFormatted)
  by true None e = refl
  by true (Some m) e = absurd cc
  by false found e = refl

frame-unread : (e : Parts) → IsElement depth_limit e → message_in e ≡ None → frame_at e.whole ≡ Err (unread e)
unfolding frame_at
frame-unread e h is = rw (alone_again e h) (none-read (type_at e.tag) e.content is)

-- within the limit
within : (octets : List ℕ) → length octets ≤ message_limit → verdict_of octets ≡ verdict_by (message_by (frame_at octets))
unfolding message_of
within octets most = by (nat_lt message_limit (length octets)) refl where
  by : (long : Bool) → nat_lt message_limit (length octets) ≡ long → verdict_by (if long then Err Verdict.TooLong else message_by (frame_at octets)) ≡ verdict_by (message_by (frame_at octets))
  by false e = refl
  by true e = absurd (grind (arith, most, e))

pub verdict-read : (e : Parts) (m : Message) → IsElement depth_limit e → length e.whole ≤ message_limit → message_in e ≡ Some m → message_verdict m ≡ verdict_of e.whole
verdict-read e m h most is = sym (within e.whole most ∙ ap (λ (r : Result Message FrameFault). verdict_by (message_by r)) (frame-read e m _ h refl is))

pub frame-verdict : (e : Parts) (m : Message) → IsElement depth_limit e → length e.whole ≤ message_limit → IsFrame m e → message_verdict m ≡ verdict_of e.whole
frame-verdict e m h most is = sym (within e.whole most ∙ ap (λ (r : Result Message FrameFault). verdict_by (message_by r)) (frame_again m e.whole (record { element = e; is_element = h; is_whole = refl; is_frame = is })))

pub verdict-unread : (e : Parts) → IsElement depth_limit e → length e.whole ≤ message_limit → message_in e ≡ None → verdict_of_fault (unread e) ≡ verdict_of e.whole
verdict-unread e h most is = sym (within e.whole most ∙ ap (λ (r : Result Message FrameFault). verdict_by (message_by r)) (frame-unread e h is))

fault-bad : (f : FrameFault) → is_good (verdict_of_fault f) ≡ false
fault-bad FrameFault.Unknown = refl
fault-bad FrameFault.BadlyFormatted = refl
fault-bad FrameFault.Incorrect = refl

pub unread-bad : (e : Parts) → IsElement depth_limit e → length e.whole ≤ message_limit → message_in e ≡ None → false ≡ is_good (verdict_of e.whole)
unread-bad e h most is = sym (fault-bad (unread e)) ∙ ap is_good (verdict-unread e h most is)

pub frame-is : (e : Parts) (m : Message) → message_in e ≡ Some m → IsFrame m e
frame-is e m is = by (type_at e.tag) refl where
  by : (kind : Option MessageType) → type_at e.tag ≡ kind → IsFrame m e
  by None t = let none : message_in e ≡ None = ap (λ (k : Option MessageType). k >>= (λ kind. message_at kind e.content)) t in absurd cc
  by (Some kind) t = is_frame e kind m t (sym (ap (λ (k : Option MessageType). k >>= (λ kind. message_at kind e.content)) t) ∙ is)
