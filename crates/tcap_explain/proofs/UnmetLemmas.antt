-- A walk finds exactly what is not met first, and nothing exactly where all stands in the table.
use Rattle.std.proofs.Common.{◌≡◌, ◌≢◌, ℕ, zero, suc, ◌-◌, ◌<◌, ◌≤◌, false, List, [], ◌∷◌, ◌++◌, length, Option, Some, None, option_map, Ok, refl, sym, ap, subst, ◌∙◌, arith, inl, inr}
use Rattle.std.proofs.lemmas.Bool.{cases_Bool}
use Rattle.std.proofs.lemmas.List.{length-append}
use Rattle.ber_core.specs.Element.{Parts, IsElement}
use Rattle.ber_core.specs.ElementReading.{element_at}
use Rattle.ber_core.specs.Place.{head_length}
use Rattle.ber_core.proofs.CallerLemmas.{by_result, element_takes, head_length-whole, element_fails}
use Rattle.tcap_explain.specs.declared.line.Line.{Line}
use Rattle.tcap_explain.specs.declared.line.Rule.TheVariants as rule
use Rattle.tcap_explain.specs.declared.line.Explained.{Explained}
use Rattle.tcap_explain.specs.declared.table.Inside.{Inside}
use Rattle.tcap_explain.specs.declared.table.Inside.TheVariants as inside
use Rattle.tcap_explain.specs.Choice.{Choice, leads}
use Rattle.tcap_explain.specs.EncodingPlace.{told_at}
use Rattle.tcap_explain.specs.Octets.{fits}
use Rattle.tcap_explain.specs.Table.{next, may_end, is_over}
use Rattle.tcap_explain.specs.Walk.{unmet, further, first_of, inside_by, passed, chosen_by, step_from, ended, behind, walk, step}
use Rattle.tcap_explain.specs.Unmet.{Holds, Stands, UnmetInside, Unmet}
use Rattle.tcap_explain.specs.Unmet.Holds.{octets, elements, listed}
use Rattle.tcap_explain.specs.Unmet.Stands.{ends, begins}
use Rattle.tcap_explain.specs.Unmet.UnmetInside.{bad_octets as wrong_octets, bad_elements, not_first, not_second}
use Rattle.tcap_explain.specs.Unmet.Unmet.{missing, more, unreadable, other, inside_it, behind_it}
use Rattle.tcap_explain.proofs.EncodingLemmas.{told_at-is}
use Rattle.tcap_explain.proofs.WalkLemmas.{some, content_within, walk-empty, walk-next}

-- what a walk finds is what is not met, and nothing where all stands
abbrev pub Judged : Line → List ℕ → Option Explained → Type 0
Judged line bytes None = Stands line bytes
Judged line bytes (Some x) = Unmet line bytes x

abbrev Within : ℕ → Inside → List ℕ → Option Explained → Type 0
Within head held content None = Holds held content
Within head held content (Some x) = UnmetInside head held content x

elements_judged : (head : ℕ) (l : Line) (content : List ℕ) (o : Option Explained) → Judged l content o → Within head (inside.Elements l) content (option_map (further head) o)
elements_judged head l content None h = elements l content h
elements_judged head l content (Some x) h = bad_elements head l content x h

listed_judged : (head : ℕ) (a b : Line) (content : List ℕ) (o p : Option Explained) → Judged a content o → Judged b content p → Within head (inside.Listed a b) content (option_map (further head) (first_of o p))
listed_judged head a b content None None h i = listed a b content h i
listed_judged head a b content None (Some x) h i = not_second head a b content x h i
listed_judged head a b content (Some x) p h i = not_first head a b content x h

inside_judged : (head : ℕ) (held : Inside) (content : List ℕ) → ((l : Line) → Judged l content (walk l content)) → Within head held content (inside_by walk head held content)
inside_judged head (inside.Octets k) content h = elim (cases_Bool (fits k content)) [
  | inl y ↦ rw y (octets k content y)
  | inr n ↦ rw n (wrong_octets head k content n)
]
inside_judged head (inside.Elements l) content h = elements_judged head l content (walk l content) (h l)
inside_judged head (inside.Listed a b) content h = listed_judged head a b content (walk a content) (walk b content) (h a) (h b)

not_empty : (bytes : List ℕ) → 0 < length bytes → bytes ≢ []
not_empty bytes lt e = let none : length bytes ≡ 0 = ap length e in absurd (omega (arith, lt, none))

-- the element was read and is one of the line's
passed_judged : (line then : Line) (held : Inside) (e : Parts) (rest : List ℕ) (o p : Option Explained) → IsElement 32 e → next line e.tag e.content ≡ Some (leads held then)
    → Within (head_length e.whole) held e.content o → Judged then rest p → p ≡ walk then rest
    → Judged line (e.whole ++ rest) (behind walk (length (e.whole ++ rest)) (passed o then rest))
passed_judged line then held e rest (Some x) p i n w j same = inside_it line then held e rest x i n w
passed_judged line then held e rest None None i n w j same = rw (sym same) (begins line then held e rest i n w j)
passed_judged line then held e rest None (Some x) i n w j same =
    let len : length (e.whole ++ rest) - length rest ≡ length e.whole = omega (arith, length-append e.whole rest) in
    rw (sym same) (subst (λ (k : ℕ). Unmet line (e.whole ++ rest) (further k x)) (sym len) (behind_it line then held e rest x i n w j))

abbrev Inner : List ℕ → Type 0
Inner bytes = (l : Line) (c : List ℕ) → length c < length bytes → Judged l c (walk l c)

chosen_judged : (line : Line) (bytes : List ℕ) (p : Parts × List ℕ) (o : Option Choice) → element_at 32 bytes ≡ Ok p → next line p.0.tag p.0.content ≡ o → Inner bytes → Judged line bytes (behind walk (length bytes) (chosen_by walk line bytes p o))
chosen_judged line bytes p None is n inner =
    let t = element_takes 32 bytes p is in
    subst (λ (w : List ℕ). Judged line w (some (unmet 0 0 (rule.Other line)))) (sym t.1) (other line p.0 p.1 t.0 n)
chosen_judged line bytes p (Some c) is n inner =
    let t = element_takes 32 bytes p is in
    let w = content_within bytes p.1 p.0 is in
    let head : head_length bytes ≡ head_length p.0.whole = ap head_length t.1 ∙ head_length-whole 32 p.0 p.1 t.0 in
    let o = inside_by walk (head_length bytes) c.0 p.0.content in
    let held : Within (head_length bytes) c.0 p.0.content o = inside_judged (head_length bytes) c.0 p.0.content (λ l. inner l p.0.content w.1) in
    let held_there : Within (head_length p.0.whole) c.0 p.0.content o = subst (λ (h : ℕ). Within h c.0 p.0.content o) head held in
    subst (λ (w : List ℕ). Judged line w (behind walk (length w) (passed o c.1 p.1))) (sym t.1)
    (passed_judged line c.1 c.0 p.0 p.1 o (walk c.1 p.1) t.0 n held_there (inner c.1 p.1 w.2) refl)

read_judged : (line : Line) (bytes : List ℕ) → 0 < length bytes → is_over line ≡ false → Inner bytes → Judged line bytes (behind walk (length bytes) (step_from walk line bytes (element_at 32 bytes)))
read_judged line bytes lt n inner = elim (by_result (element_at 32 bytes)) [
  | inl f ↦ rw f.1 (unreadable line bytes (told_at bytes) f.0 (not_empty bytes lt) n (element_fails 32 bytes f.0 f.1) (told_at-is bytes))
  | inr p ↦ rw p.1 (chosen_judged line bytes p.0 (next line p.0.0.tag p.0.0.content) p.1 refl inner)
]

stepped : (line : Line) (bytes : List ℕ) → 0 < length bytes → Inner bytes → Judged line bytes (behind walk (length bytes) (step line bytes))
unfolding step
stepped line bytes lt inner = elim (cases_Bool (is_over line)) [
  | inl y ↦ rw y (more line bytes (not_empty bytes lt) y)
  | inr n ↦ rw n (read_judged line bytes lt n inner)
]

ended_judged : (line : Line) → Judged line [] (ended line)
ended_judged line = elim (cases_Bool (may_end line)) [
  | inl y ↦ rw y (ends line y)
  | inr n ↦ rw n (missing line n)
]

judged_by : (n : ℕ) (line : Line) (bytes : List ℕ) → length bytes ≤ n → Judged line bytes (walk line bytes)
judged_by n line [] le = subst (Judged line []) (sym (walk-empty line [] refl)) (ended_judged line)
judged_by zero line (b ∷ bytes) le = absurd (omega (arith, le))
judged_by (suc n) line (b ∷ bytes) le =
    let all = b ∷ bytes in
    subst (Judged line all) (sym (walk-next line all (omega arith))) (stepped line all (omega arith) (λ l c lt. judged_by n l c (omega (arith, lt, le))))

pub judged : (line : Line) (bytes : List ℕ) → Judged line bytes (walk line bytes)
judged line bytes = judged_by (length bytes) line bytes (omega arith)

pub walk-unmet : (line : Line) (bytes : List ℕ) (x : Explained) → walk line bytes ≡ Some x → Unmet line bytes x
walk-unmet line bytes x e = subst (Judged line bytes) e (judged line bytes)

pub walk-stands : (line : Line) (bytes : List ℕ) → walk line bytes ≡ None → Stands line bytes
walk-stands line bytes e = subst (Judged line bytes) e (judged line bytes)
