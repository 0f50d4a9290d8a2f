-- What a verdict says of the bytes.
use Rattle.std.proofs.Common.{◌≡◌, ℕ, ◌+◌, List, [], ◌∷◌, length, Option, Some, None, is_err, Ok, Err, Result, refl, sym, ap, subst, ◌∙◌, arith, ◌⊎◌, inl, inr}
use Rattle.std.specs.Prelude.{nat_lt}
use Rattle.std.specs.List.{position_from}
use Rattle.std.proofs.lemmas.Bool.{cases_Bool}
use Rattle.ber_core.proofs.CallerLemmas.{by_result}
use Rattle.tcap_pdu.specs.FrameSpelling.{Reason, Message}
use Rattle.tcap_pdu.specs.FrameSpelling.Message.{unidirectional, begin, end, go_on, abort}
use Rattle.tcap_pdu.specs.FramePortions.{components_in}
use Rattle.tcap_pdu.specs.FrameReading.{frame_at}
use Rattle.tcap_pdu.specs.declared.fault.FrameFault.{FrameFault}
use Rattle.tcap_pdu.specs.declared.fault.FrameFault.TheVariants as fault
use Rattle.tcap_component.specs.Component.{ComponentParts}
use Rattle.tcap_component.specs.ComponentFault.{FaultParts}
use Rattle.tcap_component.specs.ComponentList.{FirstFault, items}
use Rattle.tcap_component.specs.ComponentReading.{components_of}
use Rattle.tcap_component.proofs.CallerLemmas.{first_fault_is}
use Rattle.tcap_words.specs.declared.verdict.Verdict.{Verdict}
use Rattle.tcap_words.specs.declared.verdict.Verdict.TheVariants.{TooLong, UnknownType, BadlyFormatted, Incorrect, Dialogue, Component, Good}
use Rattle.tcap_words.specs.Verdict.{verdict_of_fault, message_of, is_good_portion, is_good_reason, verdict_by_place, components_verdict, portions_verdict, message_verdict, verdict_of}

-- ---- verdicts on messages that were read

-- a verdict on the portions of a message
abbrev OfPortions : Verdict → Type 0
OfPortions TooLong = ⊥
OfPortions UnknownType = ⊥
OfPortions BadlyFormatted = ⊥
OfPortions Incorrect = ⊥
OfPortions Dialogue = Unit {0}
OfPortions (Component n) = Unit {0}
OfPortions Good = Unit {0}

place-of : (o : Option ℕ) → OfPortions (verdict_by_place o)
place-of None = tt
place-of (Some n) = tt

portions-of : (d : Option (List ℕ)) (c : List ℕ) → OfPortions (portions_verdict d c)
portions-of d c = elim (cases_Bool (is_good_portion d)) [
  | inl y ↦ rw y (place-of (position_from is_err 0 (components_of c)))
  | inr n ↦ rw n tt
]

reason-of : (t : List ℕ) (r : Reason) → OfPortions (message_verdict (abort t r))
reason-of t r = elim (cases_Bool (is_good_reason r)) [
  | inl y ↦ rw y tt
  | inr n ↦ rw n tt
]

message-of : (m : Message) → OfPortions (message_verdict m)
message-of (unidirectional d c) = portions-of d c
message-of (begin o d c) = portions-of d c
message-of (end t d c) = portions-of d c
message-of (go_on o t d c) = portions-of d c
message-of (abort t r) = reason-of t r

-- ---- verdicts on bytes

abbrev FrameSays : List ℕ → Verdict → Type 0
FrameSays bytes v = ((f : FrameFault) × (frame_at bytes ≡ Err f) × (verdict_of_fault f ≡ v)) ⊎ ((m : Message) × (message_of bytes ≡ Ok m) × (message_verdict m ≡ v))

abbrev ok : Message → Result Message Verdict
ok m = Ok m

-- a verdict other than the one on the length is that on a message, or that of a fault
pub verdict-says : (bytes : List ℕ) (v : Verdict) → verdict_of bytes ≡ v → (v ≡ TooLong) ⊎ FrameSays bytes v
unfolding message_of
verdict-says bytes v e = elim (cases_Bool (nat_lt 65535 (length bytes))) [
  | inl y ↦ let e = e in let long : TooLong ≡ v = rw y at e in inl (sym long)
  | inr n ↦ elim (by_result (frame_at bytes)) [
    | inl f ↦ let e = e in let is : verdict_of_fault f.0 ≡ v = rw (n, f.1) at e in inr (inl (f.0, f.1, is))
    | inr m ↦ let e = e in let is : message_verdict m.0 ≡ v = rw (n, m.1) at e in inr (inr (m.0, rw (n, m.1) refl, is))
  ]
]

abbrev Fails : List ℕ → FrameFault → Type 0
Fails bytes f = frame_at bytes ≡ Err f

of-unknown : (f : FrameFault) → verdict_of_fault f ≡ UnknownType → f ≡ fault.Unknown
of-unknown fault.Unknown e = refl
of-unknown fault.BadlyFormatted e = absurd cc
of-unknown fault.Incorrect e = absurd cc

of-format : (f : FrameFault) → verdict_of_fault f ≡ BadlyFormatted → f ≡ fault.BadlyFormatted
of-format fault.Unknown e = absurd cc
of-format fault.BadlyFormatted e = refl
of-format fault.Incorrect e = absurd cc

of-incorrect : (f : FrameFault) → verdict_of_fault f ≡ Incorrect → f ≡ fault.Incorrect
of-incorrect fault.Unknown e = absurd cc
of-incorrect fault.BadlyFormatted e = absurd cc
of-incorrect fault.Incorrect e = refl

abbrev failed : FrameFault → Result Message FrameFault
failed f = Err f

pub says-unknown : (bytes : List ℕ) → verdict_of bytes ≡ UnknownType → Fails bytes fault.Unknown
says-unknown bytes e = elim (verdict-says bytes UnknownType e) [
  | inl long ↦ absurd cc
  | inr s ↦ elim s [
    | inl f ↦ f.1 ∙ ap failed (of-unknown f.0 f.2)
    | inr m ↦ absurd (subst OfPortions m.2 (message-of m.0))
  ]
]

pub says-format : (bytes : List ℕ) → verdict_of bytes ≡ BadlyFormatted → Fails bytes fault.BadlyFormatted
says-format bytes e = elim (verdict-says bytes BadlyFormatted e) [
  | inl long ↦ absurd cc
  | inr s ↦ elim s [
    | inl f ↦ f.1 ∙ ap failed (of-format f.0 f.2)
    | inr m ↦ absurd (subst OfPortions m.2 (message-of m.0))
  ]
]

pub says-incorrect : (bytes : List ℕ) → verdict_of bytes ≡ Incorrect → Fails bytes fault.Incorrect
says-incorrect bytes e = elim (verdict-says bytes Incorrect e) [
  | inl long ↦ absurd cc
  | inr s ↦ elim s [
    | inl f ↦ f.1 ∙ ap failed (of-incorrect f.0 f.2)
    | inr m ↦ absurd (subst OfPortions m.2 (message-of m.0))
  ]
]

of-no-portion : (f : FrameFault) (v : Verdict) → verdict_of_fault f ≡ v → OfPortions v → ⊥
of-no-portion fault.Unknown v e h = subst OfPortions (sym e) h
of-no-portion fault.BadlyFormatted v e h = subst OfPortions (sym e) h
of-no-portion fault.Incorrect v e h = subst OfPortions (sym e) h

abbrev Message-with : List ℕ → Verdict → Type 0
Message-with bytes v = (m : Message) × (message_of bytes ≡ Ok m) × (message_verdict m ≡ v)

pub says-portions : (bytes : List ℕ) (v : Verdict) → verdict_of bytes ≡ v → OfPortions v → Message-with bytes v
says-portions bytes v e h = elim (verdict-says bytes v e) [
  | inl long ↦ let h = h in absurd (subst OfPortions long h)
  | inr s ↦ elim s [
    | inl f ↦ let h = h in absurd (of-no-portion f.0 v f.2 h)
    | inr m ↦ m
  ]
]

-- ---- the first faulty component

position-is : (n : ℕ) (cs : List ComponentParts) (f : FaultParts) → position_from is_err n (items cs (Some f)) ≡ Some (n + length cs)
position-is n [] f = ap (λ (k : ℕ). let o : Option ℕ = Some k in o) (omega arith)
position-is n (c ∷ cs) f = position-is (n + 1) cs f ∙ ap (λ (k : ℕ). let o : Option ℕ = Some k in o) (omega arith)

position-none : (n : ℕ) (cs : List ComponentParts) → position_from is_err n (items cs None) ≡ None
position-none n [] = refl
position-none n (c ∷ cs) = position-none (n + 1) cs

place-number : (o : Option ℕ) (number k : ℕ) → o ≡ Some k → verdict_by_place o ≡ Component number → number ≡ k + 1
place-number o number k p e = let is : Component (k + 1) ≡ Component number = rw p at e in cc

abbrev FaultyComponent : ℕ → List ℕ → Type 0
FaultyComponent number content = (cs : List ComponentParts) × (f : FaultParts) × FirstFault cs (Some f) content × (number ≡ length cs + 1)

faulty_from : (number : ℕ) (content : List ℕ) (cs : List ComponentParts) (f : Option FaultParts) → FirstFault cs f content → components_of content ≡ items cs f → components_verdict content ≡ Component number → FaultyComponent number content
faulty_from number content cs None first is e =
    let none : position_from is_err 0 (components_of content) ≡ None = ap (position_from is_err 0) is ∙ position-none 0 cs in
    let good : Good ≡ Component number = rw none at e in
    absurd cc
faulty_from number content cs (Some f) first is e =
    let at : position_from is_err 0 (components_of content) ≡ Some (0 + length cs) = ap (position_from is_err 0) is ∙ position-is 0 cs f in
    let n = place-number (position_from is_err 0 (components_of content)) number (0 + length cs) at e in
    (cs, f, first, omega (arith, n))

pub faulty-component : (number : ℕ) (content : List ℕ) → components_verdict content ≡ Component number → FaultyComponent number content
faulty-component number content e = let r = first_fault_is content in faulty_from number content r.0 r.1 r.2 r.3 e

portions-component : (d : Option (List ℕ)) (c : List ℕ) (number : ℕ) → portions_verdict d c ≡ Component number → components_verdict c ≡ Component number
portions-component d c number e = elim (cases_Bool (is_good_portion d)) [
  | inl y ↦ let e = e in rw y at e
  | inr n ↦ let e = e in let no : Dialogue ≡ Component number = rw n at e in absurd cc
]

abort-component : (t : List ℕ) (r : Reason) (number : ℕ) → message_verdict (abort t r) ≡ Component number → ⊥
abort-component t r number e = elim (cases_Bool (is_good_reason r)) [
  | inl y ↦ let e = e in let no : Good ≡ Component number = rw y at e in cc
  | inr n ↦ let e = e in let no : Dialogue ≡ Component number = rw n at e in cc
]

pub message-component : (m : Message) (number : ℕ) → message_verdict m ≡ Component number → components_verdict (components_in m) ≡ Component number
message-component (unidirectional d c) number e = portions-component d c number e
message-component (begin o d c) number e = portions-component d c number e
message-component (end t d c) number e = portions-component d c number e
message-component (go_on o t d c) number e = portions-component d c number e
message-component (abort t r) number e = absurd (abort-component t r number e)
