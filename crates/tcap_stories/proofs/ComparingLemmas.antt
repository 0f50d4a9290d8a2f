-- Outputs beside what is expected of them.
use Rattle.std.proofs.Common.{◌≡◌, ◌+◌, ◌<◌, ◌≤◌, ◌&&◌, ◌||◌, cond, filter, if◌then◌else◌, ℕ, zero, suc, Bool, true, false, List, [], ◌∷◌, drop, length, Option, Some, None, slice_get, slice_index_or, refl, sym, ap, ◌∙◌, arith}
use Rattle.std.proofs.lemmas.List.{drop_all}
use Rattle.std.specs.declared.vec.Vec.{Vec}
use Rattle.tcap_stories.specs.Comparing.{Expectation, and_then, held, side_by_side, silent}
use Rattle.tcap_stories.specs.Outputs.{is_refusal}
use Rattle.tcap_stories.specs.Views.{Adds, left_over, so_far, still_told, texts_of}
use Rattle.tcap_stories.proofs.PrintedLemmas.{added, and_assoc}

drop_none : (n : ℕ) → drop {A = List ℕ} n [] ≡ []
drop_none n = drop_all n [] (omega arith)

further : (place : ℕ) → suc place ≡ place + 1
further place = omega arith

next_by : (before : Bool) (number : ℕ) (outputs : List (List ℕ)) (place : ℕ) (e : Expectation) (later : List Expectation)
    → still_told before number (drop place outputs) (e ∷ later) ≡ and_then (held e.line e.wanted (slice_get outputs place)) (side_by_side number (drop (suc place) outputs) later)
next_by before number [] place e later =
    ap (λ o. still_told before number o (e ∷ later)) (drop_none place) ∙ none_left before where
      none_left : (b : Bool) → still_told b number [] (e ∷ later) ≡ and_then (held e.line e.wanted None) (side_by_side number [] later)
      none_left true = refl
      none_left false = refl
next_by true number (output ∷ outputs) zero e later = refl
next_by false number (output ∷ outputs) zero e later = refl
next_by before number (output ∷ outputs) (suc place) e later = next_by before number outputs place e later

-- the next output, or none, is held against what is expected
pub next_held : (before : Bool) (number : ℕ) (outputs : List (List ℕ)) (place : ℕ) (e : Expectation) (later : List Expectation)
    → still_told before number (drop place outputs) (e ∷ later) ≡ and_then (held e.line e.wanted (slice_get outputs place)) (side_by_side number (drop (place + 1) outputs) later)
next_held before number outputs place e later =
    next_by before number outputs place e later
    ∙ ap (λ n. and_then (held e.line e.wanted (slice_get outputs place)) (side_by_side number (drop n outputs) later)) (further place)

past_by : (outputs : List (List ℕ)) (place : ℕ) → length outputs ≤ place → drop (suc place) outputs ≡ drop place outputs
past_by [] place past = sym (drop_none place)
past_by (output ∷ outputs) zero past = absurd (omega (arith, past))
past_by (output ∷ outputs) (suc place) past = past_by outputs place (omega (arith, past))

-- behind the last there is none, wherever one looks
pub past_both : (outputs : List (List ℕ)) (place : ℕ) → length outputs ≤ place → drop (place + 1) outputs ≡ drop place outputs
past_both outputs place past = ap (λ n. drop n outputs) (sym (further place)) ∙ past_by outputs place past

abbrev pub some_text : List ℕ → Option (List ℕ)
some_text text = Some text

from_by : (outputs : List (List ℕ)) (place : ℕ) (output : List ℕ) → slice_get outputs place ≡ some_text output → drop place outputs ≡ output ∷ drop (suc place) outputs
from_by [] place output is = absurd cc
from_by (first ∷ outputs) zero output is = let e : first ≡ output = grind (arith, is) in ap (λ o. o ∷ outputs) e
from_by (first ∷ outputs) (suc place) output is = from_by outputs place output is

-- the output at a place is the first of those from there on
pub from_place : (outputs : List (List ℕ)) (place : ℕ) (output : List ℕ) → slice_get outputs place ≡ some_text output → drop place outputs ≡ output ∷ drop (place + 1) outputs
from_place outputs place output is = from_by outputs place output is ∙ ap (λ n. output ∷ drop n outputs) (further place)

module _ {A : Type 0} where
  -- the output at a place
  pub texts_at : (outputs : List (Vec ℕ A)) (place : ℕ) (d : Vec ℕ A) → place < length outputs → slice_get (texts_of outputs) place ≡ some_text (slice_index_or outputs place d).items
  texts_at [] place d low = absurd (omega (arith, low))
  texts_at (output ∷ outputs) zero d low = refl
  texts_at (output ∷ outputs) (suc place) d low = texts_at outputs place d (omega (arith, low))

  -- there is none behind the last
  pub texts_past : (outputs : List (Vec ℕ A)) (place : ℕ) → length outputs ≤ place → slice_get (texts_of outputs) place ≡ None
  texts_past [] place past = refl
  texts_past (output ∷ outputs) zero past = absurd (omega (arith, past))
  texts_past (output ∷ outputs) (suc place) past = texts_past outputs place (omega (arith, past))

  pub as_many : (outputs : List (Vec ℕ A)) → length (texts_of outputs) ≡ length outputs
  as_many [] = refl
  as_many (output ∷ outputs) = ap suc (as_many outputs)

-- the first of the outputs that are left, which nothing names, and those behind it
left_first : (expected : Bool) (number : ℕ) (output : List ℕ) (outputs : List (List ℕ))
    → still_told expected number (output ∷ outputs) [] ≡ and_then (left_over expected number output) (still_told expected number outputs [])
left_first true number output outputs = refl
left_first false number output outputs = by_test (is_refusal output) where
  rest : List (List ℕ)
  rest = filter is_refusal outputs

  by_test : (b : Bool) → side_by_side number (cond b (output ∷ rest) rest) [] ≡ and_then (if false || b then held number None (Some output) else silent) (side_by_side number rest [])
  by_test true = refl
  by_test false = refl

-- one output more was told, which nothing names
pub one_more : (text after : List ℕ) (good now expected : Bool) (number : ℕ) (outputs : List (List ℕ)) (place : ℕ) (output : List ℕ) → slice_get outputs place ≡ some_text output
    → Adds (left_over expected number output) now text after
    → and_then (so_far text good) (still_told expected number (drop place outputs) []) ≡ and_then (so_far after (good && now)) (still_told expected number (drop (place + 1) outputs) [])
one_more text after good now expected number outputs place output is adds =
    let told = left_over expected number output in
    let rest = still_told expected number (drop (place + 1) outputs) [] in
    ap (λ o. and_then (so_far text good) (still_told expected number o [])) (from_place outputs place output is)
    ∙ (ap (λ t. and_then (so_far text good) t) (left_first expected number output (drop (place + 1) outputs))
    ∙ (sym (and_assoc (so_far text good) told rest) ∙ ap (λ t. and_then t rest) (added told text after good now adds)))
