-- The cut of a stream is its messages, its rest and its fault, and there is no other.
use Rattle.std.proofs.Common.{◌≡◌, ℕ, zero, suc, ◌+◌, ◌-◌, ◌<◌, ◌≤◌, Bool, true, false, List, [], ◌∷◌, ◌++◌, length, map, take, drop, Option, Some, None, Ok, Err, Result, refl, sym, ap, subst, ◌∙◌, inl, inr, arith, append_assoc}
use Rattle.std.proofs.lemmas.Bool.{cases_lt, lt-ltb, le-ltb}
use Rattle.std.proofs.lemmas.List.{take-append-drop, drop_at, length-append, length-take, length-drop, append-nil, take_all, take-append-le}
use Rattle.std.proofs.Math.Seq.{take-append-add}
use Rattle.std.specs.List.{AllByRecursion}
use Rattle.ber_core.specs.declared.fault.BerFault.{BerFault}
use Rattle.ber_core.specs.declared.fault.BerFault.TheVariants.{Short}
use Rattle.ber_core.specs.declared.fault.FeedFault.{FeedFault}
use Rattle.ber_core.specs.declared.fault.FeedFault.TheVariants.{Ber}
use Rattle.ber_core.specs.Element.{Parts, IsElement, joined}
use Rattle.ber_core.specs.Fault.{ElementFault}
use Rattle.ber_core.specs.Fault.HeadFault.{no_tag}
use Rattle.ber_core.specs.Fault.ElementFault.{in_head}
use Rattle.ber_core.specs.HeadReading.{tag_at, head_at}
use Rattle.ber_core.specs.ElementReading.{after_at, element_at}
use Rattle.ber_core.specs.Stream.{Cut, IsCut, IsMessage, is_short, rest_fault, cut_into, with_message, cut_from, cut_by, cut_of}
use Rattle.ber_core.proofs.ResultSteps.{refused, refused_is, not_read, by_result}
use Rattle.ber_core.proofs.ElementGrammar.{element_takes, element_again, after_again, IsElement-longer}
use Rattle.ber_core.proofs.FaultAgain.{fault_told}
use Rattle.ber_core.proofs.Agreement.{element_fails}
use Rattle.ber_core.proofs.FaultStays.{fault_stays}

-- the octets of a stream that are looked at for a message
abbrev front : List ℕ → List ℕ
front stream = take 65535 stream

whole-filled : (depth : ℕ) (e : Parts) → IsElement depth e → 0 < length e.whole
whole-filled depth e h = let longer : length {A = ℕ} [] < length e.whole = IsElement-longer depth e [] e.whole h (sym (append-nil e.whole)) in omega (arith, longer)

-- ---- fuel

none-cut : (n : ℕ) → cut_by n [] ≡ cut_into [] [] None
unfolding cut_by element_at after_at head_at tag_at
none-cut zero = refl
none-cut (suc n) = refl

is-none : (bytes : List ℕ) → length bytes ≤ 0 → bytes ≡ []
is-none [] h = refl
is-none (b ∷ bytes) h = absurd (omega arith)

from-same : (f g : List ℕ → Cut) (stream : List ℕ) (r : Result (Parts × List ℕ) BerFault) → ((p : Parts × List ℕ) → r ≡ Ok p → f (drop (length p.0.whole) stream) ≡ g (drop (length p.0.whole) stream)) → cut_from f stream r ≡ cut_from g stream r
from-same f g stream (Ok p) same = ap (with_message p.0.whole) (same p refl)
from-same f g stream (Err e) same = refl

-- by cases: `rw` would compute the first 65,535 octets of nothing one by one
none-enough : (n m : ℕ) (stream : List ℕ) → length stream ≤ 0 → cut_by n stream ≡ cut_by m stream
none-enough n m [] h = none-cut n ∙ sym (none-cut m)
none-enough n m (b ∷ stream) h = absurd (omega arith)

cut-enough : (n m : ℕ) (stream : List ℕ) → length stream ≤ n → length stream ≤ m → cut_by n stream ≡ cut_by m stream
unfolding cut_by
cut-enough zero m stream p q = none-enough zero m stream p
cut-enough (suc n) zero stream p q = none-enough (suc n) zero stream q
cut-enough (suc n) (suc m) stream p q =
    from-same (cut_by n) (cut_by m) stream (element_at 32 (front stream)) (λ r is.
    let t = element_takes 32 (front stream) r is in
    let filled : 0 < length r.0.whole = whole-filled 32 r.0 t.0 in
    cut-enough n m (drop (length r.0.whole) stream) (omega (arith, length-drop (length r.0.whole) stream)) (omega (arith, length-drop (length r.0.whole) stream)))

-- ---- one step

cut-turn : (stream : List ℕ) → cut_of stream ≡ cut_from cut_of stream (element_at 32 (front stream))
unfolding cut_by
cut-turn stream =
    cut-enough (length stream) (suc (length stream)) stream (omega arith) (omega arith)
    ∙ from-same (cut_by (length stream)) cut_of stream (element_at 32 (front stream)) (λ r is.
    cut-enough (length stream) (length (drop (length r.0.whole) stream)) (drop (length r.0.whole) stream) (omega (arith, length-drop (length r.0.whole) stream)) (omega arith))

front-whole : (whole rest : List ℕ) → length whole ≤ 65535 → front (whole ++ rest) ≡ whole ++ take (65535 - length whole) rest
front-whole whole rest h =
    let n : 65535 ≡ length whole + (65535 - length whole) = omega arith in
    ap (λ (k : ℕ). take k (whole ++ rest)) n ∙ take-append-add whole rest (65535 - length whole)

-- a message, and what follows it
pub cut-message : (e : Parts) (rest : List ℕ) → IsMessage e → cut_of (e.whole ++ rest) ≡ with_message e.whole (cut_of rest)
cut-message e rest h =
    let is : element_at 32 (front (e.whole ++ rest)) ≡ Ok (e, take (65535 - length e.whole) rest) = ap (element_at 32) (front-whole e.whole rest h.1) ∙ element_again 32 e (take (65535 - length e.whole) rest) h.0 in
    cut-turn (e.whole ++ rest)
    ∙ ap (cut_from cut_of (e.whole ++ rest)) is
    ∙ ap (λ (w : List ℕ). with_message e.whole (cut_of w)) (drop_at e.whole rest (length e.whole) refl)

-- a fault of an element is what reading it gives
fault-read : (bytes : List ℕ) (why : BerFault) → ElementFault 32 bytes why → element_at 32 bytes ≡ Err why
fault-read bytes why h =
    elim (by_result (element_at 32 bytes)) [
      | inl p ↦ p.1 ∙ ap (λ (f : BerFault). refused {A = Parts × List ℕ} f) (refused_is {A = List ℕ} p.0 why (sym (fault_told 32 bytes p.0 (element_fails 32 bytes p.0 p.1)) ∙ fault_told 32 bytes why h))
      | inr p ↦
          let t = element_takes 32 bytes p.0 p.1 in
          absurd (not_read why p.0.1 (sym (fault_told 32 bytes why h) ∙ (ap (after_at 32) t.1 ∙ after_again 32 p.0.0 p.0.1 t.0)))
    ]

-- no message
pub cut-stops : (stream : List ℕ) (why : BerFault) → ElementFault 32 (front stream) why → cut_of stream ≡ cut_into [] stream (rest_fault why stream)
cut-stops stream why h = cut-turn stream ∙ ap (cut_from cut_of stream) (fault-read (front stream) why h)

-- ---- all messages

abbrev wholes : List Parts → List (List ℕ)
wholes es = map (λ (e : Parts). e.whole) es

-- messages before those of a cut
abbrev pub after_messages : List (List ℕ) → Cut → Cut
after_messages messages cut = cut_into (messages ++ cut.messages) cut.rest cut.fault

pub cut-joined : (es : List Parts) (more : List ℕ) → AllByRecursion IsMessage es → cut_of (joined es ++ more) ≡ after_messages (wholes es) (cut_of more)
cut-joined [] more h = refl
cut-joined (e ∷ es) more h =
    ap cut_of (append_assoc e.whole (joined es) more) ∙ (cut-message e (joined es ++ more) h.0 ∙ ap (with_message e.whole) (cut-joined es more h.1))

is_cut_by : (n : ℕ) (stream : List ℕ) → length stream ≤ n → IsCut (cut_by n stream) stream
unfolding cut_by
is_cut_by zero stream h =
    let e = is-none stream h in
    rw e (record { elements = []; why = Short; each = tt; are_messages = refl; is_joined = refl; is_why = in_head 32 [] Short no_tag; is_fault = refl })
is_cut_by (suc n) stream h =
    elim (by_result (element_at 32 (front stream))) [
      | inl p ↦ rw p.1 (record { elements = []; why = p.0; each = tt; are_messages = refl; is_joined = refl; is_why = element_fails 32 (front stream) p.0 p.1; is_fault = refl })
      | inr p ↦
          let t = element_takes 32 (front stream) p.0 p.1 in
          let e = p.0.0 in
          let filled : 0 < length e.whole = whole-filled 32 e t.0 in
          let sizes : length (front stream) ≡ length e.whole + length p.0.1 = ap length t.1 ∙ length-append e.whole p.0.1 in
          let parts : stream ≡ e.whole ++ (p.0.1 ++ drop 65535 stream) = sym (take-append-drop 65535 stream) ∙ (ap (λ (w : List ℕ). w ++ drop 65535 stream) t.1 ∙ append_assoc e.whole p.0.1 (drop 65535 stream)) in
          let dropped : drop (length e.whole) stream ≡ p.0.1 ++ drop 65535 stream = ap (drop (length e.whole)) parts ∙ drop_at e.whole (p.0.1 ++ drop 65535 stream) (length e.whole) refl in
          let others = is_cut_by n (drop (length e.whole) stream) (omega (arith, length-drop (length e.whole) stream)) in
          let joins : stream ≡ (e.whole ++ joined others.elements) ++ (cut_by n (drop (length e.whole) stream)).rest = parts ∙ (ap (λ (w : List ℕ). e.whole ++ w) (sym dropped ∙ others.is_joined) ∙ sym (append_assoc e.whole (joined others.elements) (cut_by n (drop (length e.whole) stream)).rest)) in
          rw p.1 (record {
            elements = e ∷ others.elements;
            why = others.why;
            each = ((t.0, omega (arith, sizes, length-take 65535 stream)), others.each);
            are_messages = ap (λ (ms : List (List ℕ)). e.whole ∷ ms) others.are_messages;
            is_joined = joins;
            is_why = others.is_why;
            is_fault = others.is_fault;
          })
    ]

pub cut_takes : (stream : List ℕ) → IsCut (cut_of stream) stream
cut_takes stream = is_cut_by (length stream) stream (omega arith)

cut-parts : (cut : Cut) (messages : List (List ℕ)) (rest : List ℕ) (fault : Option FeedFault) → cut.messages ≡ messages → cut.rest ≡ rest → cut.fault ≡ fault → cut ≡ cut_into messages rest fault
cut-parts cut messages rest fault p q r = ap (λ (ms : List (List ℕ)). cut_into ms cut.rest cut.fault) p ∙ ap (λ (w : List ℕ). cut_into messages w cut.fault) q ∙ ap (λ (f : Option FeedFault). cut_into messages rest f) r

pub cut_again : (cut : Cut) (stream : List ℕ) → IsCut cut stream → cut_of stream ≡ cut
cut_again cut stream h =
    let stops = cut-stops cut.rest h.why h.is_why in
    let all : cut_of stream ≡ cut_into (wholes h.elements ++ []) cut.rest (rest_fault h.why cut.rest) = ap cut_of h.is_joined ∙ (cut-joined h.elements cut.rest h.each ∙ ap (after_messages (wholes h.elements)) stops) in
    all ∙ sym (cut-parts cut (wholes h.elements ++ []) cut.rest (rest_fault h.why cut.rest) (h.are_messages ∙ sym (append-nil (wholes h.elements))) refl h.is_fault)

-- ---- a longer stream

-- what was cut stays
pub cut-longer : (stream piece : List ℕ) → cut_of (stream ++ piece) ≡ after_messages (cut_of stream).messages (cut_of ((cut_of stream).rest ++ piece))
cut-longer stream piece =
    let h = cut_takes stream in
    let is : stream ++ piece ≡ joined h.elements ++ ((cut_of stream).rest ++ piece) = ap (λ (w : List ℕ). w ++ piece) h.is_joined ∙ append_assoc (joined h.elements) (cut_of stream).rest piece in
    ap cut_of is ∙ (cut-joined h.elements ((cut_of stream).rest ++ piece) h.each
    ∙ ap (λ (ms : List (List ℕ)). after_messages ms (cut_of ((cut_of stream).rest ++ piece))) (sym h.are_messages))

fault-longer : (why : BerFault) (rest piece : List ℕ) (f : FeedFault) → ElementFault 32 (front rest) why → rest_fault why rest ≡ Some f → cut_of (rest ++ piece) ≡ cut_into [] (rest ++ piece) (Some f)
fault-longer why rest piece f h is =
    elim (cases_lt 65535 (length rest)) [
      | inl lt ↦
          let same : front (rest ++ piece) ≡ front rest = take-append-le 65535 rest piece (omega arith) in
          let long : length (rest ++ piece) ≡ length rest + length piece = length-append rest piece in
          let told : rest_fault why (rest ++ piece) ≡ rest_fault why rest = rw (lt-ltb 65535 (length rest) lt, lt-ltb 65535 (length (rest ++ piece)) (omega (arith, long))) refl in
          cut-stops (rest ++ piece) why (subst (λ (w : List ℕ). ElementFault 32 w why) (sym same) h) ∙ ap (cut_into [] (rest ++ piece)) (told ∙ is)
      | inr le ↦ within why rest piece f h is le (is_short why) refl
    ]
  where
    within : (why : BerFault) (rest piece : List ℕ) (f : FeedFault) → ElementFault 32 (front rest) why → rest_fault why rest ≡ Some f → length rest ≤ 65535 → (t : Bool) → is_short why ≡ t → cut_of (rest ++ piece) ≡ cut_into [] (rest ++ piece) (Some f)
    within why rest piece f h is le true e = absurd (let none : None ≡ Some f = rw (e, le-ltb 65535 (length rest) le) at is in cc)
    within why rest piece f h is le false e =
        let told : Some (Ber why) ≡ Some f = rw e at is in
        let fronts : front (rest ++ piece) ≡ front rest ++ take (65535 - length rest) piece = front-whole rest piece le ∙ ap (λ (w : List ℕ). w ++ take (65535 - length rest) piece) (sym (take_all 65535 rest le)) in
        let stays = fault_stays 32 (front rest) (take (65535 - length rest) piece) why h e in
        cut-stops (rest ++ piece) why (subst (λ (w : List ℕ). ElementFault 32 w why) (sym fronts) stays) ∙ ap (cut_into [] (rest ++ piece)) (rw e told)

-- a fault that stands stays
pub cut-faulty : (stream piece : List ℕ) (f : FeedFault) → (cut_of stream).fault ≡ Some f → cut_of (stream ++ piece) ≡ cut_into (cut_of stream).messages ((cut_of stream).rest ++ piece) (Some f)
cut-faulty stream piece f is =
    let h = cut_takes stream in
    let longer = fault-longer h.why (cut_of stream).rest piece f h.is_why (sym h.is_fault ∙ is) in
    cut-longer stream piece ∙ (ap (after_messages (cut_of stream).messages) longer
    ∙ ap (λ (ms : List (List ℕ)). cut_into ms ((cut_of stream).rest ++ piece) (Some f)) (append-nil (cut_of stream).messages))
