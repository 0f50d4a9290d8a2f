-- Which lines of a story are bad, and what is told of one.
use Rattle.std.proofs.Common.{◌≡◌, ◌⊎◌, inl, inr, ◌<◌, ◌==◌, ℕ, Bool, true, false, List, [], ◌∷◌, ◌++◌, codes, bytes_eq, drop, take, length, Option, Some, None, refl, sym, ap, ◌∙◌, arith, if◌then◌else◌, subst}
use Rattle.std.proofs.lemmas.List.{take-append-drop}
use Rattle.tcap_play.specs.Pieces.{is_skipped, pieces, with_octet, words_of}
use Rattle.tcap_play.specs.Play.{Played}
use Rattle.tcap_lines.specs.FaultText.{line_fault_words}
use Rattle.tcap_lines.specs.LineFaults.{IsFirstFault, IsGoodLine, surplus}
use Rattle.tcap_lines.specs.Reading.{at_word, first_fault}
use Rattle.tcap_lines.specs.declared.fault.LineFault.{LineFault}
use Rattle.tcap_lines.specs.declared.fault.WordFault.{WordFault}
use Rattle.tcap_lines.proofs.CallerLemmas.{first_told, none_good, some_first}
use Rattle.tcap_stories.specs.BadLine.{IsBad, IsUnfit, IsWrong, first_of, reason_by, reason_of, unfit_words, wrong_in}
use Rattle.tcap_stories.specs.ExpectedText.{text_fault}
use Rattle.tcap_stories.specs.StoryLine.{StoryLine, expects_if, is_expectation}
use Rattle.tcap_stories.specs.StoryTable.{story_table}
use Rattle.tcap_stories.proofs.ExpectedLemmas.{unwritten_first, unwritten_told}
use Rattle.tcap_stories.proofs.PieceLemmas.{some_piece}
use Rattle.tcap_stories.proofs.StorySteps.{no_other, same_octets, stepped, unfit, wrong}

-- ---- expectations

-- a line that is one is `expect`, a space and its text
opened : (line : List ℕ) → is_expectation line ≡ true → line ≡ codes "expect " ++ drop 7 line
opened line is = sym (take-append-drop 7 line) ∙ ap (λ front. front ++ drop 7 line) (same_octets (take 7 line) (codes "expect ") is)

-- its words are `expect` and those of its text
its_words : (text : List ℕ) → words_of (codes "expect " ++ text) ≡ codes "expect" ∷ words_of text
unfolding pieces
its_words text = refl

-- the table has no form for it
formless : (word : List ℕ) (words : List (List ℕ)) → first_fault story_table (codes "expect" ∷ (word ∷ words)) ≡ Some (at_word 2 (surplus word))
formless word words = refl

-- so no play has a step for it
no_step : (p : Played) (words : List (List ℕ)) → 0 < length words → stepped p (codes "expect" ∷ words) ≡ None
no_step p [] some = absurd (omega (arith, some))
no_step p (word ∷ words) some =
    wrong p (codes "expect" ∷ (word ∷ words)) (at_word 2 (surplus word))
    (some_first story_table (codes "expect" ∷ (word ∷ words)) (at_word 2 (surplus word)) (formless word words))

-- ---- lines with a word that is wrong

-- why a line is bad is told by what is wrong with it
reason_same : (words : List (List ℕ)) (f g : Option LineFault) → f ≡ g → reason_by words f ≡ reason_by words g
reason_same words f g e = ap (reason_by words) e

-- a line with a wrong word is bad, and that word is told
pub line_wrong : (p : Played) (line : List ℕ) (found : LineFault) → IsWrong line found → IsBad p line × (reason_of line ≡ line_fault_words story_table found)
line_wrong p line found (IsWrong.in_text text same is) =
    let told : text_fault text ≡ Some found = unwritten_told 2 (words_of text) found is in (
      (
        ap (λ f. expects_if f text) told,
        subst (λ words. stepped p words ≡ None) (sym (its_words text)) (no_step p (words_of text) (some_piece 32 text)),
      ),
      reason_same (words_of (codes "expect " ++ text)) (text_fault text) (Some found) told,
    )
line_wrong p line found (IsWrong.by_table same also unskipped other is) = (
  (rw (unskipped, other) refl, wrong p (words_of line) found is),
  reason_same (words_of line) (wrong_in line) (Some found) (rw other (first_told story_table (words_of line) found is)),
)

-- ---- lines that say what they can't

-- `expect` has no word behind it
abbrev Short : List (List ℕ) → Type 0
Short [] = Unit {0}
Short (first ∷ []) = Unit {0}
Short (first ∷ second ∷ words) = bytes_eq first (codes "expect") ≡ false

-- the first word begins no line that is skipped
abbrev Shown : List (List ℕ) → Type 0
Shown [] = Unit {0}
Shown (first ∷ words) = is_skipped first ≡ false

short : (p : Played) (words : List (List ℕ)) → IsUnfit p words → Short words × Shown words
short p words (IsUnfit.undelivered q word name is none) = (refl, refl)
short p words (IsUnfit.unrepeated q word name is none) = (refl, refl)
short p words (IsUnfit.unlost q word name is none) = (refl, refl)
short p words (IsUnfit.late q word limit is) = (refl, refl)
short p words (IsUnfit.unsaid q) = (tt, refl)

lengthy : (words : List (List ℕ)) → 0 < length words → Short (codes "expect" ∷ words) → ⊥
lengthy [] some is = absurd (omega (arith, some))
lengthy (word ∷ words) some is = absurd cc

unopened : (line : List ℕ) → Short (words_of line) → is_expectation line ≡ false
unopened line is = go (is_expectation line) refl where
  go : (b : Bool) → is_expectation line ≡ b → b ≡ false
  go false e = refl
  go true e =
      let words : words_of line ≡ codes "expect" ∷ words_of (drop 7 line) = ap words_of (opened line e) ∙ its_words (drop 7 line) in
      absurd (lengthy (words_of (drop 7 line)) (some_piece 32 (drop 7 line)) (subst Short words is))

first_octet : (octet : ℕ) (words : List (List ℕ)) → Shown (with_octet octet words) → (octet == 35) ≡ false
first_octet octet [] is = is
first_octet octet (word ∷ words) is = is

unskipped : (line : List ℕ) → Shown (words_of line) → is_skipped line ≡ false
unfolding pieces
unskipped [] is = absurd cc
unskipped (octet ∷ octets) is = go (octet == 32) is where
  go : (b : Bool) → Shown (if b then [] ∷ pieces 32 octets else with_octet octet (pieces 32 octets)) → (octet == 35) ≡ false
  go true is = absurd cc
  go false is = first_octet octet (pieces 32 octets) is

none_some : (f : WordFault) (found : Option WordFault) → found ≡ Some f → found ≡ None → ⊥
none_some f found is none = absurd cc

-- no word of such a line is wrong
right : (line : List ℕ) (found : LineFault) → Short (words_of line) → IsGoodLine story_table (words_of line) → IsWrong line found → ⊥
right line found is good (IsWrong.in_text text same at) = lengthy (words_of text) (some_piece 32 text) (subst Short (its_words text) is)
right line found is good (IsWrong.by_table same also unskipped other at) = none_some found.fault _ at.is_wrong (good at.place)

-- it is bad, and what it can't say is told
pub line_unfit : (p : Played) (line : List ℕ) → IsUnfit p (words_of line)
    → IsBad p line × (reason_of line ≡ unfit_words (first_of (words_of line))) × ((found : LineFault) → IsWrong line found → ⊥)
line_unfit p line is =
    let both = short p (words_of line) is in
    let bad = unfit p (words_of line) is in
    let shown = unskipped line both.1 in
    let closed = unopened line both.0 in (
      (rw (shown, closed) refl, bad.0),
      reason_same (words_of line) (wrong_in line) None (rw closed bad.1),
      λ found wrong. right line found both.0 (none_good story_table (words_of line) bad.1) wrong,
    )

-- ---- no other lines

-- why a line is bad
abbrev Why : Played → List ℕ → Type 0
Why p line = ((found : LineFault) × IsWrong line found) ⊎ IsUnfit p (words_of line)

by_text : (p : Played) (line : List ℕ) (f : Option LineFault) → is_expectation line ≡ true → text_fault (drop 7 line) ≡ f → expects_if f (drop 7 line) ≡ StoryLine.plays → Why p line
by_text p line None opens e is = absurd cc
by_text p line (Some found) opens e is =
    inl (found, subst (λ l. IsWrong l found) (sym (opened line opens)) (IsWrong.in_text (drop 7 line) found (unwritten_first 2 (words_of (drop 7 line)) found e)))

from_table : (p : Played) (line : List ℕ) → is_skipped line ≡ false → is_expectation line ≡ false
    → ((found : LineFault) × IsFirstFault story_table (words_of line) found) ⊎ IsUnfit p (words_of line) → Why p line
from_table p line shown closed (inl found) = inl (found.0, IsWrong.by_table line found.0 shown closed found.1)
from_table p line shown closed (inr is) = inr is

-- a bad line has a word that is wrong, or says what it can't
pub line_bad : (p : Played) (line : List ℕ) → IsBad p line → Why p line
line_bad p line bad = go (is_skipped line) (is_expectation line) refl refl bad.0 where
  go : (s e : Bool) → is_skipped line ≡ s → is_expectation line ≡ e
      → (if s then StoryLine.skipped else if e then expects_if (text_fault (drop 7 line)) (drop 7 line) else StoryLine.plays) ≡ StoryLine.plays → Why p line
  go true e h i is = absurd cc
  go false true h i is = by_text p line (text_fault (drop 7 line)) i refl is
  go false false h i is = from_table p line h i (no_other p (words_of line) bad.1)
