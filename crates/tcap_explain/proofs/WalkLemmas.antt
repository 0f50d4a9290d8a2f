-- Contents held against a table: what a walk over them finds, element by element.
use Rattle.std.proofs.Common.{◌≡◌, false, ℕ, zero, suc, ◌+◌, ◌-◌, ◌<◌, ◌≤◌, List, [], ◌∷◌, ◌++◌, length, Option, Some, None, option_map, Ok, Err, Result, refl, ap, subst, ◌∙◌, arith, inl, inr}
use Rattle.std.proofs.lemmas.Bool.{cases_Bool}
use Rattle.std.proofs.lemmas.List.{length-append}
use Rattle.ber_core.specs.Tag.{IsTag, is_constructor}
use Rattle.ber_core.specs.Element.{Parts, IsElement, IsDefinite, IsIndefinite}
use Rattle.ber_core.specs.HeadReading.{head_at}
use Rattle.ber_core.specs.ElementReading.{element_at}
use Rattle.ber_core.specs.Place.{head_length}
use Rattle.ber_core.proofs.CallerLemmas.{HeadRead, head_again-definite, head_again-indefinite, by_result, element_takes, IsElement-longer, head_length-whole}
use Rattle.ber_core.specs.declared.fault.BerFault.{BerFault}
use Rattle.tcap_explain.specs.declared.line.Line.{Line}
use Rattle.tcap_explain.specs.declared.line.Rule.{Rule}
use Rattle.tcap_explain.specs.declared.line.Rule.TheVariants as rule
use Rattle.tcap_explain.specs.declared.line.Explained.{Explained}
use Rattle.tcap_explain.specs.declared.table.Inside.{Inside}
use Rattle.tcap_explain.specs.declared.table.Inside.TheVariants as inside
use Rattle.tcap_explain.specs.Choice.{Choice}
use Rattle.tcap_explain.specs.Table.{next, is_over}
use Rattle.tcap_explain.specs.Walk.{unmet, badly_encoded, further, Walk, inside_by, passed, chosen_by, step_from, step_by, ended, behind, walk_by, walk, step}

-- ---- the content of an element within its whole

tag_filled : (tag : List ℕ) → IsTag tag → 0 < length tag
tag_filled [] h = absurd h
tag_filled (b ∷ tag) h = omega arith

pub head_from : (bytes : List ℕ) (h : HeadRead) → head_at bytes ≡ Ok h → head_length bytes ≡ length bytes - length h.3
unfolding head_length
head_from bytes h e = rw e refl

abbrev ContentFits : Parts → Type 0
ContentFits e = (head_length e.whole + length e.content ≤ length e.whole) × (length e.content < length e.whole)

definite_fits : (e : Parts) → IsDefinite e → ContentFits e
definite_fits e d =
    let read = ap head_at d.is_whole ∙ head_again-definite e.tag d.octets e.content (length e.content) d.is_tag d.is_length in
    let head = head_from e.whole (e.tag, is_constructor e.tag, Some (length e.content), e.content) read in
    let len : length e.whole ≡ length e.tag + (length d.octets + length e.content) = ap length d.is_whole ∙ (length-append e.tag (d.octets ++ e.content) ∙ ap (λ (n : ℕ). length e.tag + n) (length-append d.octets e.content)) in
    let filled = tag_filled e.tag d.is_tag in
    (omega (arith, head, len), omega (arith, len, filled))

-- nothing stands behind the content
pub definite_fills : (e : Parts) → IsDefinite e → length e.whole - head_length e.whole ≡ length e.content
definite_fills e d =
    let read = ap head_at d.is_whole ∙ head_again-definite e.tag d.octets e.content (length e.content) d.is_tag d.is_length in
    let head = head_from e.whole (e.tag, is_constructor e.tag, Some (length e.content), e.content) read in
    let len : length e.whole ≡ length e.tag + (length d.octets + length e.content) = ap length d.is_whole ∙ (length-append e.tag (d.octets ++ e.content) ∙ ap (λ (n : ℕ). length e.tag + n) (length-append d.octets e.content)) in
    omega (arith, head, len)

indefinite_fits : (Inner : Parts → Type 0) (e : Parts) → IsIndefinite Inner e → ContentFits e
indefinite_fits Inner e i =
    let body = e.content ++ (0 ∷ 0 ∷ []) in
    let read = ap head_at i.is_whole ∙ head_again-indefinite e.tag body i.is_tag i.constructs in
    let head = head_from e.whole (e.tag, is_constructor e.tag, None, body) read in
    let len : length e.whole ≡ length e.tag + suc (length body) = ap length i.is_whole ∙ length-append e.tag (128 ∷ body) in
    let more : length body ≡ length e.content + 2 = length-append e.content (0 ∷ 0 ∷ []) in
    (omega (arith, head, len, more), omega (arith, len, more))

pub content_fits : (depth : ℕ) (e : Parts) → IsElement depth e → ContentFits e
unfolding IsElement
content_fits zero e h = definite_fits e h
content_fits (suc depth) e (inl h) = definite_fits e h
content_fits (suc depth) e (inr h) = indefinite_fits (IsElement depth) e h

-- the same of the element that was read from the front
pub content_within : (bytes rest : List ℕ) (e : Parts) → element_at 32 bytes ≡ Ok (e, rest) → (head_length bytes + length e.content ≤ length bytes) × (length e.content < length bytes) × (length rest < length bytes)
content_within bytes rest e is =
    let t = element_takes 32 bytes (e, rest) is in
    let f = content_fits 32 e t.0 in
    let head : head_length bytes ≡ head_length e.whole = ap head_length t.1 ∙ head_length-whole 32 e rest t.0 in
    let len : length bytes ≡ length e.whole + length rest = ap length t.1 ∙ length-append e.whole rest in
    (omega (arith, head, len, f.0), omega (arith, len, f.1), IsElement-longer 32 e rest bytes t.0 t.1)

-- ---- what lies further on

same_unmet : (p q e f : ℕ) (r : Rule) → p ≡ q → e ≡ f → unmet p e r ≡ unmet q f r
same_unmet p q e f r a b = ap (λ (n : ℕ). unmet n e r) a ∙ ap (λ (n : ℕ). unmet q n r) b

abbrev pub some : Explained → Option Explained
some x = Some x

pub further-further : (a b : ℕ) (o : Option Explained) → option_map (further a) (option_map (further b) o) ≡ option_map (further (a + b)) o
further-further a b None = refl
further-further a b (Some x) = ap some (same_unmet _ _ _ _ x.rule (omega arith) (omega arith))

-- ---- more fuel changes nothing

same_inside : (w v : Walk) (head : ℕ) (i : Inside) (c : List ℕ) → ((l : Line) → w l c ≡ v l c) → inside_by w head i c ≡ inside_by v head i c
same_inside w v head (inside.Octets k) c h = refl
same_inside w v head (inside.Elements l) c h = ap (option_map (further head)) (h l)
same_inside w v head (inside.Listed a b) c h = rw (h a, h b) refl

same_chosen : (w v : Walk) (line : Line) (bytes : List ℕ) (r : Parts × List ℕ) (o : Option Choice) → ((l : Line) → w l r.0.content ≡ v l r.0.content) → chosen_by w line bytes r o ≡ chosen_by v line bytes r o
same_chosen w v line bytes r None h = refl
same_chosen w v line bytes r (Some choice) h = ap (λ (x : Option Explained). passed x choice.1 r.1) (same_inside w v (head_length bytes) choice.0 r.0.content h)

abbrev Agree : Walk → Walk → List ℕ → Type 0
Agree w v bytes = (l : Line) (c : List ℕ) → length c < length bytes → w l c ≡ v l c

same_step_from : (w v : Walk) (line : Line) (bytes : List ℕ) → Agree w v bytes → step_from w line bytes (element_at 32 bytes) ≡ step_from v line bytes (element_at 32 bytes)
same_step_from w v line bytes h = elim (by_result (element_at 32 bytes)) [
  | inl f ↦ rw f.1 refl
  | inr p ↦ rw p.1 (same_chosen w v line bytes p.0 (next line p.0.0.tag p.0.0.content) (λ l. h l p.0.0.content (content_within bytes p.0.1 p.0.0 p.1).1))
]

same_step : (w v : Walk) (line : Line) (bytes : List ℕ) → Agree w v bytes → step_by w line bytes ≡ step_by v line bytes
same_step w v line bytes h = elim (cases_Bool (is_over line)) [
  | inl y ↦ rw y refl
  | inr n ↦ rw n (same_step_from w v line bytes h)
]

abbrev Step : Type 0
Step = Result (Line × List ℕ) Explained

abbrev refused : Explained → Step
refused x = Err x

passed-rest : (o : Option Explained) (line : Line) (rest : List ℕ) (s : Line × List ℕ) → passed o line rest ≡ Ok s → rest ≡ s.1
passed-rest None line rest s e = let same : (line, rest) ≡ s = cc in ap (λ (p : Line × List ℕ). p.1) same
passed-rest (Some x) line rest s e = absurd cc

chosen-rest : (w : Walk) (line : Line) (bytes : List ℕ) (r : Parts × List ℕ) (o : Option Choice) (s : Line × List ℕ) → chosen_by w line bytes r o ≡ Ok s → r.1 ≡ s.1
chosen-rest w line bytes r None s e = absurd cc
chosen-rest w line bytes r (Some choice) s e = passed-rest (inside_by w (head_length bytes) choice.0 r.0.content) choice.1 r.1 s e

step_from-shorter : (w : Walk) (line : Line) (bytes : List ℕ) (s : Line × List ℕ) → step_from w line bytes (element_at 32 bytes) ≡ Ok s → length s.1 < length bytes
step_from-shorter w line bytes s e = elim (by_result (element_at 32 bytes)) [
  | inl f ↦ let e = e in let no : step_from w line bytes (Err f.0) ≡ Ok s = rw f.1 at e in absurd cc
  | inr p ↦
      let e = e in
      let is : chosen_by w line bytes p.0 (next line p.0.0.tag p.0.0.content) ≡ Ok s = rw p.1 at e in
      let same = chosen-rest w line bytes p.0 (next line p.0.0.tag p.0.0.content) s is in
      subst (λ (w : List ℕ). length w < length bytes) same (content_within bytes p.0.1 p.0.0 p.1).2
]

pub step-shorter : (w : Walk) (line : Line) (bytes : List ℕ) (s : Line × List ℕ) → step_by w line bytes ≡ Ok s → length s.1 < length bytes
step-shorter w line bytes s e = elim (cases_Bool (is_over line)) [
  | inl y ↦ let e = e in let no : refused (unmet 0 0 (rule.Other line)) ≡ Ok s = rw y at e in absurd cc
  | inr n ↦ let e = e in step_from-shorter w line bytes s (rw n at e)
]

same_behind : (w v : Walk) (len : ℕ) (r : Step) → ((s : Line × List ℕ) → r ≡ Ok s → w s.0 s.1 ≡ v s.0 s.1) → behind w len r ≡ behind v len r
same_behind w v len (Err x) h = refl
same_behind w v len (Ok s) h = ap (option_map (further (len - length s.1))) (h s refl)

walk_by-enough : (n m : ℕ) (line : Line) (bytes : List ℕ) → length bytes ≤ n → length bytes ≤ m → walk_by n line bytes ≡ walk_by m line bytes
unfolding walk_by
walk_by-enough n m line [] p q = refl
walk_by-enough zero m line (b ∷ bytes) p q = absurd (omega (arith, p))
walk_by-enough (suc n) zero line (b ∷ bytes) p q = absurd (omega (arith, q))
walk_by-enough (suc n) (suc m) line (b ∷ bytes) p q =
    let all = b ∷ bytes in
    let agree : (l : Line) (c : List ℕ) → length c < length all → walk_by n l c ≡ walk_by m l c = λ l c lt. walk_by-enough n m l c (omega (arith, lt, p)) (omega (arith, lt, q)) in
    ap (behind (walk_by n) (length all)) (same_step (walk_by n) (walk_by m) line all agree)
    ∙ same_behind (walk_by n) (walk_by m) (length all) (step_by (walk_by m) line all) (λ s e. agree s.0 s.1 (step-shorter (walk_by m) line all s e))

pub walk-empty : (line : Line) (bytes : List ℕ) → length bytes ≡ 0 → walk line bytes ≡ ended line
unfolding walk walk_by
walk-empty line [] e = refl
walk-empty line (b ∷ bytes) e = absurd (omega (arith, e))

pub walk-next : (line : Line) (bytes : List ℕ) → 0 < length bytes → walk line bytes ≡ behind walk (length bytes) (step line bytes)
unfolding walk walk_by step
walk-next line [] lt = absurd (omega (arith, lt))
walk-next line (b ∷ bytes) lt =
    let all = b ∷ bytes in
    let n = length bytes in
    let agree : (l : Line) (c : List ℕ) → length c < length all → walk_by n l c ≡ walk l c = λ l c lt. walk_by-enough n (length c) l c (omega (arith, lt)) (omega arith) in
    ap (behind (walk_by n) (length all)) (same_step (walk_by n) walk line all agree)
    ∙ same_behind (walk_by n) walk (length all) (step line all) (λ s e. agree s.0 s.1 (step-shorter walk line all s e))

-- where no element is read
pub walk-unread : (line : Line) (bytes : List ℕ) (f : BerFault) → 0 < length bytes → is_over line ≡ false → element_at 32 bytes ≡ Err f → walk line bytes ≡ Some (badly_encoded bytes f)
unfolding step
walk-unread line bytes f lt over e = walk-next line bytes lt ∙ rw (over, e) refl
