-- What is read of a line is its first word that is wrong, and there is one such word at most.
use Rattle.std.proofs.Common.{◌≡◌, ◌+◌, ◌<◌, ℕ, zero, suc, List, [], ◌∷◌, Option, Some, None, slice_get, refl, sym, ap, ◌∙◌, arith, ◌⊎◌, inl, inr, subst}
use Rattle.std.specs.Prelude.{IfNone, IfSome, IsNone, IsSomeAnd}
use Rattle.tcap_lines.specs.declared.fault.LineFault.{LineFault}
use Rattle.tcap_lines.specs.declared.fault.WordFault.{WordFault}
use Rattle.tcap_lines.specs.LineFaults.{IsFirstFault, IsGoodLine, judged, missing, or_empty, surplus, verdict, verdict_at}
use Rattle.tcap_lines.specs.Reading.{at_word, first_fault, or_later, walk}
use Rattle.tcap_lines.specs.Table.{LineTable, Wanted, wanted_words}

-- the word before a place, where that word stands before the first
abbrev pub before_at : List ℕ → List (List ℕ) → ℕ → List ℕ
before_at before words zero = before
before_at before words (suc place) = or_empty (slice_get words place)

-- what is wrong at a place
abbrev pub verdict_from : List ℕ → List Wanted → List (List ℕ) → ℕ → Option WordFault
verdict_from before wanted words place = verdict (before_at before words place) (slice_get wanted place) (slice_get words place)

-- the first of these words that is wrong, the first of which has this number
pub record IsFirst (number : ℕ) (before : List ℕ) (wanted : List Wanted) (words : List (List ℕ)) (found : LineFault) : Type 0 where
  pub place : ℕ
  pub is_number : found.word ≡ number + place
  pub is_wrong : verdict_from before wanted words place ≡ Some found.fault
  pub earlier : (i : ℕ) → i < place → verdict_from before wanted words i ≡ None

abbrev pub Reads : ℕ → List ℕ → List Wanted → List (List ℕ) → Option LineFault → Type 0
Reads number before wanted words None = (i : ℕ) → verdict_from before wanted words i ≡ None
Reads number before wanted words (Some found) = IsFirst number before wanted words found

-- the first word itself is wrong
here : (number : ℕ) (before : List ℕ) (wanted : List Wanted) (words : List (List ℕ)) (f : WordFault) → verdict_from before wanted words 0 ≡ Some f → IsFirst number before wanted words (at_word number f)
here number before wanted words f wrong = record { place = 0; is_number = omega arith; is_wrong = wrong; earlier = λ i lt. absurd (omega (arith, lt)) }

-- behind the first word the places are one further
shifted : (before : List ℕ) (w : Wanted) (later : List Wanted) (word : List ℕ) (words : List (List ℕ)) (place : ℕ) → verdict_from before (w ∷ later) (word ∷ words) (suc place) ≡ verdict_from word later words place
shifted before w later word words zero = refl
shifted before w later word words (suc place) = refl

-- nothing is wrong with the first word, and what follows was read
later_read : (number : ℕ) (before : List ℕ) (w : Wanted) (later : List Wanted) (word : List ℕ) (words : List (List ℕ)) (r : Option LineFault) → judged before w word ≡ None
    → Reads (number + 1) word later words r → Reads number before (w ∷ later) (word ∷ words) r
later_read number before w later word words None good reads = go where
  go : (i : ℕ) → verdict_from before (w ∷ later) (word ∷ words) i ≡ None
  go zero = good
  go (suc i) = shifted before w later word words i ∙ reads i
later_read number before w later word words (Some found) good reads = record {
  place = suc reads.place;
  is_number = omega (arith, reads.is_number);
  is_wrong = shifted before w later word words reads.place ∙ reads.is_wrong;
  earlier = go;
} where
  go : (i : ℕ) → i < suc reads.place → verdict_from before (w ∷ later) (word ∷ words) i ≡ None
  go zero lt = good
  go (suc i) lt = shifted before w later word words i ∙ reads.earlier i (omega (arith, lt))

-- the first word is judged, and what follows was read
here_read : (number : ℕ) (before : List ℕ) (w : Wanted) (later : List Wanted) (word : List ℕ) (words : List (List ℕ)) (r : Option LineFault) (j : Option WordFault)
    → judged before w word ≡ j → Reads (number + 1) word later words r → Reads number before (w ∷ later) (word ∷ words) (or_later number j r)
here_read number before w later word words r None e reads = later_read number before w later word words r e reads
here_read number before w later word words r (Some f) e reads = here number before (w ∷ later) (word ∷ words) f e

none_there : (before : List ℕ) (i : ℕ) → verdict_from before [] [] i ≡ None
none_there before zero = refl
none_there before (suc i) = refl

-- what is read of words is the first that is wrong
pub walk_reads : (number : ℕ) (before : List ℕ) (wanted : List Wanted) (words : List (List ℕ)) → Reads number before wanted words (walk number before wanted words)
walk_reads number before [] [] = none_there before
walk_reads number before [] (word ∷ words) = here number before [] (word ∷ words) (surplus word) refl
walk_reads number before (w ∷ later) [] = here number before (w ∷ later) [] (missing w) refl
walk_reads number before (w ∷ later) (word ∷ words) =
    here_read number before w later word words (walk (number + 1) word later words) (judged before w word) refl (walk_reads (number + 1) word later words)

-- ---- the first word that is wrong

-- the word before a place is that of the definition
same_verdict : (table : LineTable) (words : List (List ℕ)) (i : ℕ) → verdict_from [] (wanted_words table words) words i ≡ verdict_at table words i
same_verdict table words zero = refl
same_verdict table words (suc i) = refl

-- what is read of a line
abbrev pub LineRead : LineTable → List (List ℕ) → Option LineFault → Type 0
LineRead table words None = IsGoodLine table words
LineRead table words (Some found) = IsFirstFault table words found

line_read : (table : LineTable) (words : List (List ℕ)) (r : Option LineFault) → Reads 1 [] (wanted_words table words) words r → LineRead table words r
line_read table words None reads = λ i. sym (same_verdict table words i) ∙ reads i
line_read table words (Some found) reads = record {
  place = reads.place;
  is_number = omega (arith, reads.is_number);
  is_wrong = sym (same_verdict table words reads.place) ∙ reads.is_wrong;
  earlier = λ i lt. sym (same_verdict table words i) ∙ reads.earlier i lt;
}

pub first_read : (table : LineTable) (words : List (List ℕ)) → LineRead table words (first_fault table words)
first_read table words = line_read table words (first_fault table words) (walk_reads 1 [] (wanted_words table words) words)

abbrev some_word : WordFault → Option WordFault
some_word f = Some f

none_some : (f : WordFault) → some_word f ≡ None → ⊥
none_some f e = absurd cc

abbrev some_fault : LineFault → Option LineFault
some_fault f = Some f

-- where a word is wrong, not nothing is
pub good_none : (table : LineTable) (words : List (List ℕ)) (found : LineFault) → IsGoodLine table words → IsFirstFault table words found → ⊥
good_none table words found good is = none_some found.fault (sym is.is_wrong ∙ good is.place)

-- a place that is wrong stands behind no place with nothing wrong before
not_before : (table : LineTable) (words : List (List ℕ)) (p q : ℕ) (f : WordFault) → verdict_at table words p ≡ some_word f → ((i : ℕ) → i < q → verdict_at table words i ≡ None) → p < q → ⊥
not_before table words p q f wrong earlier lt = none_some f (sym wrong ∙ earlier p lt)

one_fault : (found other : LineFault) → found.word ≡ other.word → some_word found.fault ≡ some_word other.fault → found ≡ other
one_fault found other number fault = grind (arith, number, fault)

-- two first words that are wrong are one
pub one_first : (table : LineTable) (words : List (List ℕ)) (found other : LineFault) → IsFirstFault table words found → IsFirstFault table words other → found ≡ other
one_first table words found other is also =
    let a = not_before table words is.place also.place found.fault is.is_wrong also.earlier in
    let b = not_before table words also.place is.place other.fault also.is_wrong is.earlier in
    let place : is.place ≡ also.place = grind (arith, a, b) in
    let number : found.word ≡ other.word = is.is_number ∙ (ap (λ p. p + 1) place ∙ sym also.is_number) in
    let fault : some_word found.fault ≡ some_word other.fault = sym is.is_wrong ∙ (ap (verdict_at table words) place ∙ also.is_wrong) in
    one_fault found other number fault

-- what the first wrong word is, is read
pub first_told : (table : LineTable) (words : List (List ℕ)) (found : LineFault) → IsFirstFault table words found → first_fault table words ≡ Some found
first_told table words found is = go (first_fault table words) (first_read table words) where
  go : (r : Option LineFault) → LineRead table words r → r ≡ Some found
  go None good = absurd (good_none table words found good is)
  go (Some other) first = ap some_fault (one_first table words other found first is)

-- a line with a form has no fault
pub good_told : (table : LineTable) (words : List (List ℕ)) → IsGoodLine table words → first_fault table words ≡ None
good_told table words good = go (first_fault table words) (first_read table words) where
  go : (r : Option LineFault) → LineRead table words r → r ≡ None
  go None good = refl
  go (Some found) first = absurd (good_none table words found good first)

-- a line with no fault has a form
pub none_good : (table : LineTable) (words : List (List ℕ)) → first_fault table words ≡ None → IsGoodLine table words
none_good table words e = subst (LineRead table words) e (first_read table words)

pub some_first : (table : LineTable) (words : List (List ℕ)) (found : LineFault) → first_fault table words ≡ Some found → IsFirstFault table words found
some_first table words found e = subst (LineRead table words) e (first_read table words)

-- a line has a form, or a first word that is wrong
pub there : (table : LineTable) (words : List (List ℕ)) → IsGoodLine table words ⊎ ((found : LineFault) × IsFirstFault table words found)
there table words = go (first_fault table words) (first_read table words) where
  go : (r : Option LineFault) → LineRead table words r → IsGoodLine table words ⊎ ((found : LineFault) × IsFirstFault table words found)
  go None good = inl good
  go (Some found) first = inr (found, first)

-- ---- what was read

pub found-is : (table : LineTable) (words : List (List ℕ)) (r : Option LineFault) → r ≡ first_fault table words → IfSome r (λ found. IsFirstFault table words found)
found-is table words None e = tt
found-is table words (Some found) e = some_first table words found (sym e)

pub only-told : (table : LineTable) (words : List (List ℕ)) (found : LineFault) (r : Option LineFault) → IsFirstFault table words found → r ≡ first_fault table words → IsSomeAnd r (λ told. told ≡ found)
only-told table words found r is e = told r (e ∙ first_told table words found is) where
  told : (r : Option LineFault) → r ≡ some_fault found → IsSomeAnd r (λ told. told ≡ found)
  told None e = absurd cc
  told (Some other) e = grind (arith, e)

pub none-good : (table : LineTable) (words : List (List ℕ)) (r : Option LineFault) → r ≡ first_fault table words → IfNone r (IsGoodLine table words)
none-good table words None e = none_good table words (sym e)
none-good table words (Some found) e = tt

pub none_is : (r : Option LineFault) → r ≡ None → IsNone r
none_is None e = refl
none_is (Some found) e = absurd cc
