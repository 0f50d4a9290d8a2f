-- What is not met first is what a walk finds, and where all stands in the table it finds nothing: so there is one.
use Rattle.std.proofs.Common.{◌≡◌, ◌≢◌, ℕ, ◌-◌, ◌<◌, true, false, List, [], ◌∷◌, ◌++◌, length, Option, Some, None, option_map, Err, Result, refl, sym, ap, ◌∙◌, arith, inl, inr}
use Rattle.std.proofs.lemmas.Bool.{cases_Bool}
use Rattle.std.proofs.lemmas.List.{length-append}
use Rattle.ber_core.specs.declared.fault.BerFault.{BerFault}
use Rattle.ber_core.specs.Element.{Parts, IsElement}
use Rattle.ber_core.specs.ElementReading.{element_at}
use Rattle.ber_core.specs.Place.{head_length}
use Rattle.ber_core.proofs.CallerLemmas.{some_is, not_some, element_again, IsElement-longer, head_length-whole}
use Rattle.tcap_explain.specs.declared.line.Line.{Line}
use Rattle.tcap_explain.specs.declared.line.Line.TheVariants as line
use Rattle.tcap_explain.specs.declared.line.ListLine.TheVariants as list
use Rattle.tcap_explain.specs.declared.line.Rule.TheVariants as rule
use Rattle.tcap_explain.specs.declared.line.Explained.{Explained}
use Rattle.tcap_explain.specs.declared.table.Inside.{Inside}
use Rattle.tcap_explain.specs.Choice.{Choice, leads}
use Rattle.tcap_explain.specs.Table.{next, is_over}
use Rattle.tcap_explain.specs.Walk.{unmet, further, badly_encoded, inside_by, passed, behind, walk, step}
use Rattle.tcap_explain.specs.Unmet.{Holds, Stands, UnmetInside, Unmet}
use Rattle.tcap_explain.specs.Unmet.Holds.{octets, elements, listed}
use Rattle.tcap_explain.specs.Unmet.Stands.{ends, begins}
use Rattle.tcap_explain.specs.Unmet.UnmetInside.{bad_octets, bad_elements, not_first, not_second}
use Rattle.tcap_explain.specs.Unmet.Unmet.{missing, more, unreadable, other, inside_it, behind_it}
use Rattle.tcap_explain.proofs.EncodingLemmas.{told_at-only, element_told}
use Rattle.tcap_explain.proofs.WalkLemmas.{some, walk-empty, walk-next}

over-none : (l : Line) (tag content : List ℕ) → is_over l ≡ true → next l tag content ≡ None
unfolding is_over next
over-none (line.List list.OneElement) tag content h = absurd cc
over-none (line.List list.OneConstructed) tag content h = absurd cc
over-none (line.List list.Elements) tag content h = absurd cc
over-none (line.List list.End) tag content h = refl
over-none (line.Message l) tag content h = absurd cc
over-none (line.Portion l) tag content h = absurd cc
over-none (line.Pdu l) tag content h = absurd cc
over-none (line.Component l) tag content h = absurd cc

not_over : (l : Line) (tag content : List ℕ) (c : Choice) → next l tag content ≡ Some c → is_over l ≡ false
not_over l tag content c h = elim (cases_Bool (is_over l)) [
  | inl y ↦ let h = h in let none = over-none l tag content y in let no : Some c ≡ None = sym h ∙ none in absurd cc
  | inr n ↦ n
]

filled : (e : Parts) (rest : List ℕ) → IsElement 32 e → 0 < length (e.whole ++ rest)
filled e rest i = let lt = IsElement-longer 32 e rest (e.whole ++ rest) i refl in omega (arith, lt)

from_step : (l : Line) (bytes : List ℕ) (r : Result (Line × List ℕ) Explained) → 0 < length bytes → step l bytes ≡ r → walk l bytes ≡ behind walk (length bytes) r
from_step l bytes r lt e = walk-next l bytes lt ∙ ap (behind walk (length bytes)) e

-- the first element, where it is one of the line's
step-known : (l then : Line) (held : Inside) (e : Parts) (rest : List ℕ) → IsElement 32 e → next l e.tag e.content ≡ Some (leads held then) → step l (e.whole ++ rest) ≡ passed (inside_by walk (head_length e.whole) held e.content) then rest
unfolding step
step-known l then held e rest i n =
    rw (not_over l e.tag e.content (leads held then) n)
    (rw (element_again 32 e rest i)
    (rw n (ap (λ (h : ℕ). passed (inside_by walk h held e.content) then rest) (head_length-whole 32 e rest i))))

step-other : (l : Line) (e : Parts) (rest : List ℕ) → IsElement 32 e → next l e.tag e.content ≡ None → step l (e.whole ++ rest) ≡ Err (unmet 0 0 (rule.Other l))
unfolding step
step-other l e rest i n = elim (cases_Bool (is_over l)) [
  | inl y ↦ rw y refl
  | inr o ↦ rw o (rw (element_again 32 e rest i) (rw n refl))
]

step-over : (l : Line) (bytes : List ℕ) → is_over l ≡ true → step l bytes ≡ Err (unmet 0 0 (rule.Other l))
unfolding step
step-over l bytes y = rw y refl

step-unreadable : (l : Line) (bytes : List ℕ) (f : BerFault) → is_over l ≡ false → element_at 32 bytes ≡ Err f → step l bytes ≡ Err (badly_encoded bytes f)
unfolding step
step-unreadable l bytes f o e = rw o (rw e refl)

length-filled : (bytes : List ℕ) → bytes ≢ [] → 0 < length bytes
length-filled [] h = absurd (h refl)
length-filled (b ∷ bytes) h = omega arith

-- it is passed, and what is found behind it is found
passed-on : (l then : Line) (held : Inside) (e : Parts) (rest : List ℕ) (o : Option Explained) → IsElement 32 e → next l e.tag e.content ≡ Some (leads held then) → inside_by walk (head_length e.whole) held e.content ≡ None → walk then rest ≡ o → walk l (e.whole ++ rest) ≡ option_map (further (length e.whole)) o
passed-on l then held e rest o i n none is =
    let all = e.whole ++ rest in
    let len : length all - length rest ≡ length e.whole = omega (arith, length-append e.whole rest) in
    from_step l all _ (filled e rest i) (step-known l then held e rest i n ∙ ap (λ (x : Option Explained). passed x then rest) none)
    ∙ (ap (option_map (further (length all - length rest))) is ∙ ap (λ (k : ℕ). option_map (further k) o) len)

mutual
  pub stands-none : (l : Line) (bytes : List ℕ) → Stands l bytes → walk l bytes ≡ None
  stands-none l bytes (ends k m) = walk-empty k [] refl ∙ rw m refl
  stands-none l bytes (begins k then held e rest i n h s) = passed-on k then held e rest None i n (holds-none (head_length e.whole) held e.content h) (stands-none then rest s)

  pub holds-none : (head : ℕ) (held : Inside) (content : List ℕ) → Holds held content → inside_by walk head held content ≡ None
  holds-none head held content (octets k c h) = rw h refl
  holds-none head held content (elements k c h) = rw (stands-none k c h) refl
  holds-none head held content (listed a b c h i) = rw (stands-none a c h, stands-none b c i) refl

mutual
  pub unmet-some : (l : Line) (bytes : List ℕ) (x : Explained) → Unmet l bytes x → walk l bytes ≡ Some x
  unmet-some l bytes x (missing k m) = walk-empty k [] refl ∙ rw m refl
  unmet-some l bytes x (more k all ne o) = from_step k all _ (length-filled all ne) (step-over k all o)
  unmet-some l bytes x (unreadable k all place f ne o h told) =
      from_step k all _ (length-filled all ne) (step-unreadable k all f o (element_told all f h))
      ∙ ap (λ (p : ℕ). some (unmet p 0 (rule.Encoding f))) (sym (told_at-only place all told))
  unmet-some l bytes x (other k e rest i n) = from_step k (e.whole ++ rest) _ (filled e rest i) (step-other k e rest i n)
  unmet-some l bytes x (inside_it k then held e rest y i n u) =
      from_step k (e.whole ++ rest) _ (filled e rest i) (step-known k then held e rest i n ∙ ap (λ (o : Option Explained). passed o then rest) (inside-some (head_length e.whole) held e.content y u))
  unmet-some l bytes x (behind_it k then held e rest y i n h u) = passed-on k then held e rest (Some y) i n (holds-none (head_length e.whole) held e.content h) (unmet-some then rest y u)

  pub inside-some : (head : ℕ) (held : Inside) (content : List ℕ) (x : Explained) → UnmetInside head held content x → inside_by walk head held content ≡ Some x
  inside-some head held content x (bad_octets d k c h) = rw h refl
  inside-some head held content x (bad_elements d k c y u) = rw (unmet-some k c y u) refl
  inside-some head held content x (not_first d a b c y u) = rw (unmet-some a c y u) refl
  inside-some head held content x (not_second d a b c y s u) = rw (stands-none a c s, unmet-some b c y u) refl

pub one_unmet : (l : Line) (bytes : List ℕ) (x y : Explained) → Unmet l bytes x → Unmet l bytes y → x ≡ y
one_unmet l bytes x y h i = some_is x y (sym (unmet-some l bytes x h) ∙ unmet-some l bytes y i)

pub stands_met : (l : Line) (bytes : List ℕ) (x : Explained) → Stands l bytes → Unmet l bytes x → ⊥
stands_met l bytes x s h = not_some x (sym (stands-none l bytes s) ∙ unmet-some l bytes x h)
