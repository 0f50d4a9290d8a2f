-- Where the fault of an element's encoding is told: the fronts that are open, and those that aren't.
use Rattle.std.proofs.Common.{◌≡◌, ℕ, zero, suc, ◌+◌, ◌<◌, ◌≤◌, true, false, eqb, List, ◌++◌, length, take, drop, Ok, Err, Result, refl, sym, ap, subst, ◌∙◌, arith, inl, inr, append_assoc}
use Rattle.std.proofs.lemmas.Bool.{cases_Bool, eqb-true, eqb-false}
use Rattle.std.proofs.lemmas.List.{take-append-drop, take-take}
use Rattle.std.proofs.Math.Seq.{take-length}
use Rattle.ber_core.specs.declared.fault.BerFault.{BerFault}
use Rattle.ber_core.specs.declared.fault.BerFault.TheVariants.{Short, BadTag, BadLength, IndefinitePrimitive, TooDeep}
use Rattle.ber_core.specs.Element.{Parts}
use Rattle.ber_core.specs.Fault.{ElementFault}
use Rattle.ber_core.specs.HeadReading.{head_at, tag_at}
use Rattle.ber_core.specs.ElementReading.{element_at}
use Rattle.ber_core.specs.Stream.{is_short}
use Rattle.ber_core.proofs.CallerLemmas.{by_result, element_takes, element_again, element_fails, one_fault, no_element, fault_stays}
use Rattle.tcap_explain.specs.EncodingPlace.{IsOpen, IsToldAt, is_short_of, is_open, open_by, told_at}

abbrev Read : Type 0
Read = Result (Parts × List ℕ) BerFault

abbrev refused : BerFault → Read
refused f = Err f

pub element_told : (bytes : List ℕ) (f : BerFault) → ElementFault 32 bytes f → element_at 32 bytes ≡ Err f
element_told bytes f h = elim (by_result (element_at 32 bytes)) [
  | inl g ↦ g.1 ∙ ap refused (one_fault 32 bytes g.0 f (element_fails 32 bytes g.0 g.1) h)
  | inr p ↦ let t = element_takes 32 bytes p.0 p.1 in absurd (no_element 32 p.0.0 p.0.1 f t.0 (subst (λ (w : List ℕ). ElementFault 32 w f) t.1 h))
]

short_is : (r : Read) → is_short_of r ≡ true → r ≡ Err Short
short_is (Ok r) e = absurd cc
short_is (Err Short) e = refl
short_is (Err BadTag) e = absurd cc
short_is (Err BadLength) e = absurd cc
short_is (Err IndefinitePrimitive) e = absurd cc
short_is (Err TooDeep) e = absurd cc

pub open-fault : (octets : List ℕ) → is_open octets ≡ true → IsOpen octets
unfolding is_open
open-fault octets e = element_fails 32 octets Short (short_is (element_at 32 octets) e)

pub fault-open : (octets : List ℕ) → IsOpen octets → is_open octets ≡ true
unfolding is_open
fault-open octets h = rw (element_told octets Short h) refl

not_short : (f : BerFault) → is_short_of (refused f) ≡ false → is_short f ≡ false
not_short Short e = absurd cc
not_short BadTag e = refl
not_short BadLength e = refl
not_short IndefinitePrimitive e = refl
not_short TooDeep e = refl

closed-stays : (octets more : List ℕ) → is_open octets ≡ false → is_open (octets ++ more) ≡ false
unfolding is_open
closed-stays octets more e = elim (by_result (element_at 32 octets)) [
  | inl g ↦
      let e = e in
      let closed : is_short_of (refused g.0) ≡ false = rw g.1 at e in
      let stays : element_at 32 (octets ++ more) ≡ Err g.0 = element_told (octets ++ more) g.0 (fault_stays 32 octets more g.0 (element_fails 32 octets g.0 g.1) (not_short g.0 closed)) in
      rw stays closed
  | inr p ↦
      let t = element_takes 32 octets p.0 p.1 in
      let is : octets ++ more ≡ p.0.0.whole ++ (p.0.1 ++ more) = ap (λ (w : List ℕ). w ++ more) t.1 ∙ append_assoc p.0.0.whole p.0.1 more in
      rw (ap (element_at 32) is ∙ element_again 32 p.0.0 (p.0.1 ++ more) t.0) refl
]

-- once a front isn't open, no longer one is
pub closed-longer : (bytes : List ℕ) (n m : ℕ) → n ≤ m → is_open (take n bytes) ≡ false → is_open (take m bytes) ≡ false
closed-longer bytes n m le e =
    let front : take n (take m bytes) ≡ take n bytes = take-take n m bytes le in
    let cut : take n bytes ++ drop n (take m bytes) ≡ take m bytes = ap (λ (w : List ℕ). w ++ drop n (take m bytes)) (sym front) ∙ take-append-drop n (take m bytes) in
    subst (λ (w : List ℕ). is_open w ≡ false) cut (closed-stays (take n bytes) (drop n (take m bytes)) e)

pub nothing-open : (bytes : List ℕ) → is_open (take 0 bytes) ≡ true
unfolding is_open element_at head_at tag_at
nothing-open bytes = refl

abbrev Closed : ℕ → ℕ → List ℕ → Type 0
Closed low high bytes = (m : ℕ) → low < m → m ≤ high → is_open (take m bytes) ≡ false

pub open_by-is : (n low : ℕ) (bytes : List ℕ) → low ≤ n → is_open (take low bytes) ≡ true → Closed low n bytes → open_by n bytes ≡ low
unfolding open_by
open_by-is zero low bytes le e h = omega (arith, le)
open_by-is (suc n) low bytes le e h = elim (cases_Bool (eqb low (suc n))) [
  | inl y ↦
      let same : low ≡ suc n = eqb-true low (suc n) y in
      let open_here : is_open (take (suc n) bytes) ≡ true = subst (λ (m : ℕ). is_open (take m bytes) ≡ true) same e in
      rw open_here (sym same)
  | inr none ↦
      let other : low ≡ suc n → ⊥ = eqb-false low (suc n) none in
      let below : low ≤ n = omega (arith, le, other) in
      let closed_here : is_open (take (suc n) bytes) ≡ false = h (suc n) (omega (arith, below)) (omega arith) in
      rw closed_here (open_by-is n low bytes below e (λ m lt within. h m lt (omega (arith, within))))
]

pub open_by-within : (n : ℕ) (bytes : List ℕ) → open_by n bytes ≤ n
unfolding open_by
open_by-within zero bytes = omega arith
open_by-within (suc n) bytes = elim (cases_Bool (is_open (take (suc n) bytes))) [
  | inl y ↦ rw y (omega arith)
  | inr none ↦ rw none (omega (arith, open_by-within n bytes))
]

open_by-open : (n : ℕ) (bytes : List ℕ) → is_open (take (open_by n bytes) bytes) ≡ true
unfolding open_by
open_by-open zero bytes = nothing-open bytes
open_by-open (suc n) bytes = elim (cases_Bool (is_open (take (suc n) bytes))) [
  | inl y ↦ rw y y
  | inr none ↦ rw none (open_by-open n bytes)
]

open_by-longest : (n m : ℕ) (bytes : List ℕ) → m ≤ n → is_open (take m bytes) ≡ true → m ≤ open_by n bytes
unfolding open_by
open_by-longest zero m bytes le e = omega (arith, le)
open_by-longest (suc n) m bytes le e = elim (cases_Bool (is_open (take (suc n) bytes))) [
  | inl y ↦ rw y le
  | inr none ↦ elim (cases_Bool (eqb m (suc n))) [
    | inl same ↦
        let e = e in
        let is : is_open (take (suc n) bytes) ≡ true = subst (λ (k : ℕ). is_open (take k bytes) ≡ true) (eqb-true m (suc n) same) e in
        let none = none in
        absurd cc
    | inr other ↦ let ne = eqb-false m (suc n) other in rw none (open_by-longest n m bytes (omega (arith, le, ne)) e)
  ]
]

pub told_at-is : (bytes : List ℕ) → IsToldAt (told_at bytes) bytes
unfolding told_at
told_at-is bytes = record {
  within = open_by-within (length bytes) bytes;
  open_before = open-fault (take (open_by (length bytes) bytes) bytes) (open_by-open (length bytes) bytes);
  longest = λ n le h. open_by-longest (length bytes) n bytes le (fault-open (take n bytes) h);
}

pub told_at-only : (n : ℕ) (bytes : List ℕ) → IsToldAt n bytes → n ≡ told_at bytes
told_at-only n bytes h =
    let t = told_at-is bytes in
    let up = t.longest n h.within h.open_before in
    let down = h.longest (told_at bytes) t.within t.open_before in
    omega (arith, up, down)

-- ---- the fault where it is looked for first

pub told-there : (bytes : List ℕ) (n : ℕ) → n < length bytes → is_open (take n bytes) ≡ true → is_open (take (n + 1) bytes) ≡ false → n ≡ told_at bytes
unfolding told_at
told-there bytes n low opened closed =
    sym (open_by-is (length bytes) n bytes (omega (arith, low)) opened (λ m above within. closed-longer bytes (n + 1) m (omega (arith, above)) closed))

pub told-end : (bytes : List ℕ) → is_open bytes ≡ true → length bytes ≡ told_at bytes
unfolding told_at
told-end bytes opened =
    let all : is_open (take (length bytes) bytes) ≡ true = ap is_open (take-length bytes) ∙ opened in
    sym (open_by-is (length bytes) (length bytes) bytes (omega arith) all (λ m above within. absurd (omega (arith, above, within))))

-- a fault of a front is that of all
pub front-fault : (bytes : List ℕ) (n : ℕ) (f : BerFault) → is_short f ≡ false → element_at 32 (take n bytes) ≡ Err f → element_at 32 bytes ≡ Err f
front-fault bytes n f long e =
    let stays = element_told (take n bytes ++ drop n bytes) f (fault_stays 32 (take n bytes) (drop n bytes) f (element_fails 32 (take n bytes) f e) long) in
    ap (element_at 32) (sym (take-append-drop n bytes)) ∙ stays

pub fault-closed : (bytes : List ℕ) (f : BerFault) → is_short f ≡ false → element_at 32 bytes ≡ Err f → is_open bytes ≡ false
unfolding is_open
fault-closed bytes Short long e = absurd cc
fault-closed bytes BadTag long e = rw e refl
fault-closed bytes BadLength long e = rw e refl
fault-closed bytes IndefinitePrimitive long e = rw e refl
fault-closed bytes TooDeep long e = rw e refl
