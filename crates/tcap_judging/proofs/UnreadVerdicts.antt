-- The verdict on octets at the front of which no message is.
use Rattle.std.proofs.Common.{◌≡◌, ◌≤◌, ◌<◌, ◌∙◌, ℕ, Bool, true, false, List, [], length, take, Option, Some, None, Result, Err, nat_lt, if◌then◌else◌, refl, sym, ap, subst, arith, append-nil}
use Rattle.std.proofs.lemmas.List.{length-take, take_all}
use Rattle.ber_core.proofs.CallerLemmas.{cut_takes, no_element}
use Rattle.ber_core.specs.declared.fault.BerFault.{BerFault}
use Rattle.ber_core.specs.declared.fault.FeedFault.{FeedFault}
use Rattle.ber_core.specs.Element.{depth_limit}
use Rattle.ber_core.specs.Fault.{ElementFault}
use Rattle.ber_core.specs.Stream.{Cut, cut_into, cut_of, is_short, rest_fault}
use Rattle.tcap_pdu.proofs.CallerLemmas.{frame_told}
use Rattle.tcap_pdu.specs.FrameFaults.{IsOneElement}
use Rattle.tcap_pdu.specs.FrameFaults.IsFrameFault.{no_element as is_no_element}
use Rattle.tcap_pdu.specs.FrameReading.{frame_at}
use Rattle.tcap_pdu.specs.declared.fault.FrameFault.{FrameFault}
use Rattle.tcap_words.specs.Verdict.{message_by, message_limit, message_of, verdict_by, verdict_of}
use Rattle.tcap_words.specs.declared.verdict.Verdict.{Verdict}
use Rattle.tcap_judging.specs.Resync.{judged_of}

-- octets that begin with no element aren't one
no-frame : (octets : List ℕ) (why : BerFault) → ElementFault depth_limit octets why → frame_at octets ≡ Err FrameFault.BadlyFormatted
no-frame octets why h = frame_told octets FrameFault.BadlyFormatted (is_no_element octets none) where
  none : IsOneElement octets → ⊥
  none one = no_element depth_limit one.0 [] why one.1 (subst (λ (w : List ℕ). ElementFault depth_limit w why) (one.2 ∙ sym (append-nil one.0.whole)) h)

abbrev Unread : List ℕ → Type 0
Unread octets = (if nat_lt message_limit (length octets) then Verdict.TooLong else Verdict.BadlyFormatted) ≡ verdict_of octets

unread-front : (octets : List ℕ) (why : BerFault) → ElementFault depth_limit octets why → Unread octets
unfolding message_of
unread-front octets why h = by (nat_lt message_limit (length octets)) where
  by : (long : Bool) → (if long then Verdict.TooLong else Verdict.BadlyFormatted) ≡ verdict_by (if long then Err Verdict.TooLong else message_by (frame_at octets))
  by true = refl
  by false = sym (ap (λ (r : Result _ FrameFault). verdict_by (message_by r)) (no-frame octets why h))

unread-long : (octets : List ℕ) → nat_lt message_limit (length octets) ≡ true → Unread octets
unfolding message_of
unread-long octets h = rw h refl

-- what the fault that stands there says of the length
short-rest : (why : BerFault) (octets : List ℕ) → rest_fault why octets ≡ None → length octets ≤ message_limit
short-rest why octets h = by (is_short why) (nat_lt message_limit (length octets)) refl h where
  by : (short long : Bool) → nat_lt message_limit (length octets) ≡ long → (if short then (if long then Some FeedFault.TooLong else None) else Some (FeedFault.Ber why)) ≡ None → length octets ≤ message_limit
  by true false e k = grind (arith, e)
  by true true e k = absurd cc
  by false long e k = absurd cc

long-rest : (why : BerFault) (octets : List ℕ) → rest_fault why octets ≡ Some FeedFault.TooLong → message_limit < length octets
long-rest why octets h = by (is_short why) (nat_lt message_limit (length octets)) refl h where
  by : (short long : Bool) → nat_lt message_limit (length octets) ≡ long → (if short then (if long then Some FeedFault.TooLong else None) else Some (FeedFault.Ber why)) ≡ Some FeedFault.TooLong → message_limit < length octets
  by true true e k = grind (arith, e)
  by true false e k = absurd cc
  by false long e k = absurd cc

is-less : (a b : ℕ) → a < b → nat_lt a b ≡ true
is-less a b h = by (nat_lt a b) refl where
  by : (t : Bool) → nat_lt a b ≡ t → t ≡ true
  by true e = refl
  by false e = absurd (grind (arith, h, e))

unread-by : (octets : List ℕ) (why : BerFault) (fault : Option FeedFault) → ElementFault depth_limit (take message_limit octets) why → rest_fault why octets ≡ fault → Unread (judged_of octets fault)
unread-by octets why None h is =
    let few = short-rest why octets is in
    let all : take message_limit octets ≡ octets = take_all 65535 octets few in
    unread-front octets why (subst (λ (w : List ℕ). ElementFault depth_limit w why) all h)
unread-by octets why (Some (FeedFault.Ber f)) h is = unread-front (take message_limit octets) why h
unread-by octets why (Some FeedFault.OutOfMemory) h is = unread-front (take message_limit octets) why h
unread-by octets why (Some FeedFault.TooLong) h is =
    let many = long-rest why octets is in
    let size = length-take 65536 octets in
    unread-long (take 65536 octets) (is-less message_limit (length (take 65536 octets)) (omega (arith, many, size)))

pub unread_verdict : (octets : List ℕ) (fault : Option FeedFault) → cut_of octets ≡ cut_into [] octets fault → Unread (judged_of octets fault)
unread_verdict octets fault h =
    let t = cut_takes octets in
    let same : (cut_of octets).rest ≡ octets = ap (λ (c : Cut). c.rest) h in
    let stands : rest_fault t.why octets ≡ fault = ap (rest_fault t.why) (sym same) ∙ sym t.is_fault ∙ ap (λ (c : Cut). c.fault) h in
    unread-by octets t.why fault (subst (λ (w : List ℕ). ElementFault depth_limit (take message_limit w) t.why) same t.is_why) stands
