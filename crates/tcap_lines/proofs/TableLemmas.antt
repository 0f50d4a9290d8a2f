-- Names of forms, and what is read behind them.
use Rattle.std.proofs.Common.{◌≡◌, ◌+◌, ◌||◌, ◌++◌, ℕ, Bool, true, false, List, [], ◌∷◌, bytes_eq, Option, Some, None, option_map, refl, sym, ap, ◌∙◌, is_some, cond, codes, append_assoc, ◌≤◌, length, drop, map, MatchOption}
use Rattle.ber_core.specs.Place.{Slice}
use Rattle.tcap_play.specs.Pieces.{pieces, pieces_left}
use Rattle.std.proofs.lemmas.List.{drop_all}
use Rattle.std.specs.List.{find, list_any}
use Rattle.tcap_lines.specs.declared.expected.Expected.{Expected}
use Rattle.tcap_lines.specs.declared.fault.LineFault.{LineFault}
use Rattle.tcap_lines.specs.declared.fault.WordFault.TheVariants as fault
use Rattle.tcap_lines.specs.FaultText.{name_words}
use Rattle.tcap_lines.specs.Misfit.{or_else, unwritten}
use Rattle.tcap_lines.specs.Reading.{at_word, walk}
use Rattle.tcap_lines.specs.Table.{FormWords, LineTable, Wanted, is_listed, names_of, wanted_behind, words_named, wanted_words}

-- a word is the name of a form exactly where it has words behind it
pub named_is : (word : List ℕ) (forms : List FormWords) → is_listed (names_of forms) word ≡ is_some (words_named word forms)
named_is word [] = refl
named_is word (form ∷ forms) = go (bytes_eq word form.name) (named_is word forms) where
  go : (b : Bool) → is_listed (names_of forms) word ≡ is_some (words_named word forms)
      → (b || list_any (bytes_eq word) (names_of forms)) ≡ is_some (option_map (λ (f : FormWords). f.words) (cond b (Some form) (find (λ f. bytes_eq word f.name) forms)))
  go true later = refl
  go false later = later

-- a word that is no side is listed where it is a name
pub unlisted : (sides names : List (List ℕ)) (word : List ℕ) → is_listed sides word ≡ false → is_listed (sides ++ names) word ≡ is_listed names word
unlisted [] names word is = refl
unlisted (side ∷ sides) names word is = go (bytes_eq word side) is (unlisted sides names word) where
  go : (b : Bool) → (b || list_any (bytes_eq word) sides) ≡ false → (list_any (bytes_eq word) sides ≡ false → is_listed (sides ++ names) word ≡ is_listed names word)
      → (b || list_any (bytes_eq word) (sides ++ names)) ≡ list_any (bytes_eq word) names
  go true is later = absurd cc
  go false is later = later is

-- a side is listed
pub listed : (sides names : List (List ℕ)) (word : List ℕ) → is_listed sides word ≡ true → is_listed (sides ++ names) word ≡ true
listed [] names word is = absurd cc
listed (side ∷ sides) names word is = go (bytes_eq word side) is (listed sides names word) where
  go : (b : Bool) → (b || list_any (bytes_eq word) sides) ≡ true → (list_any (bytes_eq word) sides ≡ true → is_listed (sides ++ names) word ≡ true)
      → (b || list_any (bytes_eq word) (sides ++ names)) ≡ true
  go true is later = refl
  go false is later = later is

abbrev pub some_fault : LineFault → Option LineFault
some_fault f = Some f

-- a name is read, and then the words behind it
pub name_read : (number : ℕ) (before : List ℕ) (names : List (List ℕ)) (later : List Wanted) (word : List ℕ) (words : List (List ℕ)) → is_listed names word ≡ true
    → walk number before (Wanted.any_of names ∷ later) (word ∷ words) ≡ walk (number + 1) word later words
name_read number before names later word words is = rw is refl

-- what is no name is wrong
pub name_wrong : (number : ℕ) (before : List ℕ) (names : List (List ℕ)) (later : List Wanted) (word : List ℕ) (words : List (List ℕ)) → is_listed names word ≡ false
    → walk number before (Wanted.any_of names ∷ later) (word ∷ words) ≡ some_fault (at_word number (or_else (unwritten word) fault.Name))
name_wrong number before names later word words is = rw is refl

-- names one after the other
pub names-append : (a b : List (List ℕ)) → name_words (a ++ b) ≡ name_words a ++ name_words b
names-append [] b = refl
names-append (name ∷ names) b =
    ap (λ w. codes " " ++ (name ++ w)) (names-append names b) ∙ (ap (λ w. codes " " ++ w) (sym (append_assoc name (name_words names) (name_words b))) ∙ sym (append_assoc (codes " ") (name ++ name_words names) (name_words b)))

-- nothing more is expected
pub words_over : (words : List Expected) (i number : ℕ) (before : List ℕ) (rest : List (List ℕ)) (whole : Option LineFault) → length words ≤ i
    → walk number before (map (λ expected. Wanted.what expected) (drop i words)) rest ≡ whole → walk number before [] rest ≡ whole
words_over words i number before rest whole past is = rw (drop_all i words past) at is

-- the first word of a line, and those behind it
pub cut : (octets first : List ℕ) (more : Option Slice) → MatchOption more (pieces 32 octets ≡ first ∷ []) (λ rest. pieces 32 octets ≡ first ∷ pieces 32 rest.now) → pieces 32 octets ≡ first ∷ pieces_left 32 more
cut octets first None e = e
cut octets first (Some rest) e = e

-- what is wanted where the first word is no side
pub first_else : (table : LineTable) (first : List ℕ) (rest : List (List ℕ)) → is_listed table.sides first ≡ false
    → wanted_words table (first ∷ rest) ≡ Wanted.any_of (table.sides ++ names_of table.alone) ∷ wanted_behind (words_named first table.alone)
first_else table first rest is = rw is refl
