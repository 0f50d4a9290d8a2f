-- The first word of a text that is none: what is computed is the first, and the first is computed.
use Rattle.std.proofs.Common.{◌≡◌, ◌+◌, ◌<◌, ℕ, zero, suc, not, List, [], ◌∷◌, Option, Some, None, refl, ap, ◌∙◌, arith, subst}
use Rattle.std.specs.Char.{is_ascii_graphic}
use Rattle.std.specs.List.{find}
use Rattle.tcap_lines.specs.declared.fault.LineFault.{LineFault}
use Rattle.tcap_lines.specs.declared.fault.WordFault.{WordFault}
use Rattle.tcap_lines.specs.Misfit.{unwritten}
use Rattle.tcap_lines.specs.Reading.{at_word, or_later}
use Rattle.tcap_stories.specs.ExpectedText.{IsFirstUnwritten, first_unwritten, unwritten_at}

-- the first octet that is no visible character
abbrev pub first_unseen : List ℕ → Option ℕ
first_unseen word = find (λ c. not (is_ascii_graphic c)) word

-- this is the first of these words that is none, where there is one
abbrev Reads : ℕ → List (List ℕ) → Option LineFault → Type 0
Reads number words None = Unit {0}
Reads number words (Some found) = IsFirstUnwritten number words found

-- the first word itself is none
here : (number : ℕ) (word : List ℕ) (words : List (List ℕ)) (f : WordFault) → unwritten word ≡ Some f → IsFirstUnwritten number (word ∷ words) (at_word number f)
here number word words f wrong = record { place = 0; is_number = omega arith; is_wrong = wrong; earlier = λ i low. absurd (omega (arith, low)) }

-- it is one, and what follows was read
later : (number : ℕ) (word : List ℕ) (words : List (List ℕ)) (r : Option LineFault) → unwritten word ≡ None → Reads (number + 1) words r → Reads number (word ∷ words) r
later number word words None good reads = tt
later number word words (Some found) good reads = record {
  place = suc reads.place;
  is_number = omega (arith, reads.is_number);
  is_wrong = reads.is_wrong;
  earlier = go;
} where
  go : (i : ℕ) → i < suc reads.place → unwritten_at (word ∷ words) i ≡ None
  go zero low = good
  go (suc i) low = reads.earlier i (omega (arith, low))

either : (number : ℕ) (word : List ℕ) (words : List (List ℕ)) (r : Option LineFault) (f : Option WordFault) → unwritten word ≡ f → Reads (number + 1) words r → Reads number (word ∷ words) (or_later number f r)
either number word words r None e reads = later number word words r e reads
either number word words r (Some f) e reads = here number word words f e

all_read : (number : ℕ) (words : List (List ℕ)) → Reads number words (first_unwritten number words)
all_read number [] = tt
all_read number (word ∷ words) = either number word words (first_unwritten (number + 1) words) (unwritten word) refl (all_read (number + 1) words)

-- what is computed is the first
pub unwritten_first : (number : ℕ) (words : List (List ℕ)) (found : LineFault) → first_unwritten number words ≡ Some found → IsFirstUnwritten number words found
unwritten_first number words found e = subst (Reads number words) e (all_read number words)

abbrev some_at : ℕ → WordFault → Option LineFault
some_at number f = Some (at_word number f)

told_at : (number : ℕ) (words : List (List ℕ)) (found : LineFault) (place : ℕ) → found.word ≡ number + place → unwritten_at words place ≡ Some found.fault
    → ((i : ℕ) → i < place → unwritten_at words i ≡ None) → first_unwritten number words ≡ Some found
told_at number [] found place is wrong earlier = absurd cc
told_at number (word ∷ words) found zero is wrong earlier =
    let same : number ≡ found.word = omega (arith, is) in
    ap (λ f. or_later number f (first_unwritten (number + 1) words)) wrong ∙ ap (λ n. some_at n found.fault) same
told_at number (word ∷ words) found (suc place) is wrong earlier =
    ap (λ f. or_later number f (first_unwritten (number + 1) words)) (earlier 0 (omega arith))
    ∙ told_at (number + 1) words found place (omega (arith, is)) wrong (λ i low. earlier (suc i) (omega (arith, low)))

-- the first is computed
pub unwritten_told : (number : ℕ) (words : List (List ℕ)) (found : LineFault) → IsFirstUnwritten number words found → first_unwritten number words ≡ Some found
unwritten_told number words found is = told_at number words found is.place is.is_number is.is_wrong is.earlier
