-- Words held against a form.
use Rattle.std.proofs.Common.{◌≡◌, ◌+◌, ◌&&◌, ◌||◌, ◌++◌, ℕ, Bool, true, false, not, List, [], ◌∷◌, map, bytes_eq, Option, Some, None, is_some, option_map, cond, refl, sym, ◌∙◌, subst, if◌then◌else◌}
use Rattle.std.specs.List.{AllByRecursion, find, list_any}
use Rattle.std.proofs.lemmas.Slice.Eq.{bytes_eq-Decides}
use Rattle.tcap_lines.specs.declared.expected.Expected.{Expected}
use Rattle.tcap_lines.specs.declared.fault.LineFault.{LineFault}
use Rattle.tcap_lines.specs.declared.fault.WordFault.TheVariants as fault
use Rattle.tcap_lines.specs.Fits.{fits}
use Rattle.tcap_lines.specs.Misfit.{or_else, told, unwritten}
use Rattle.tcap_lines.specs.Reading.{first_fault, or_later, walk}
use Rattle.tcap_lines.specs.Table.{FormWords, LineTable, Wanted, is_listed, names_of, wanted_behind, wanted_by_name, words_named}
use Rattle.tcap_lines.proofs.TableLemmas.{listed, named_is, unlisted}

-- as many words as are expected
abbrev pub are_as_many : List Expected → List (List ℕ) → Bool
are_as_many [] [] = true
are_as_many [] (word ∷ words) = false
are_as_many (e ∷ later) [] = false
are_as_many (e ∷ later) (word ∷ words) = are_as_many later words

-- each word is what is expected there, the first of them behind this one
abbrev pub all_fit : List Expected → List ℕ → List (List ℕ) → Bool
all_fit [] before [] = true
all_fit [] before (word ∷ words) = true
all_fit (e ∷ later) before [] = true
all_fit (e ∷ later) before (word ∷ words) = fits e before word && all_fit later word words

-- the words behind a name have its form, if it has one
abbrev pub has_form : Option (List Expected) → List ℕ → List (List ℕ) → Bool
has_form None name words = false
has_form (Some expected) name words = are_as_many expected words && all_fit expected name words

never : (b : Bool) → true ≡ not (b && false)
never true = refl
never false = refl

-- no word is wrong exactly where the words have the form
form_walked : (number : ℕ) (expected : List Expected) (before : List ℕ) (words : List (List ℕ))
    → is_some (walk number before (map (λ e. Wanted.what e) expected) words) ≡ not (are_as_many expected words && all_fit expected before words)
form_walked number [] before [] = refl
form_walked number [] before (word ∷ words) = refl
form_walked number (e ∷ later) before [] = refl
form_walked number (e ∷ later) before (word ∷ words) = go (fits e before word) (form_walked (number + 1) later word words) where
  go : (b : Bool) → is_some (walk (number + 1) word (map (λ e. Wanted.what e) later) words) ≡ not (are_as_many later words && all_fit later word words)
      → is_some (or_later number (if b then None else Some (or_else (unwritten word) (told e before word))) (walk (number + 1) word (map (λ e. Wanted.what e) later) words))
      ≡ not (are_as_many later words && (b && all_fit later word words))
  go true more = more
  go false more = never (are_as_many later words)

-- what is wrong with a name and the words behind it, where these names stand there
abbrev name_fault : ℕ → Bool → List ℕ → List ℕ → Option (List Expected) → List (List ℕ) → Option LineFault
name_fault number named before name expected words =
    or_later number (if named then None else Some (or_else (unwritten name) fault.Name)) (walk (number + 1) name (wanted_behind expected) words)

name_told : (number : ℕ) (named : Bool) (before name : List ℕ) (expected : Option (List Expected)) (words : List (List ℕ)) → named ≡ is_some expected
    → is_some (name_fault number named before name expected words) ≡ not (has_form expected name words)
name_told number named before name None words is = rw is refl
name_told number named before name (Some expected) words is = rw is (form_walked (number + 1) expected name words)

-- a word of a line whose first word is no side is wrong exactly where the words behind it haven't its form
pub alone_told : (table : LineTable) (name : List ℕ) (words : List (List ℕ)) → is_listed table.sides name ≡ false
    → is_some (first_fault table (name ∷ words)) ≡ not (has_form (words_named name table.alone) name words)
alone_told table name words other =
    rw other (name_told 1 (is_listed (table.sides ++ names_of table.alone) name) [] name (words_named name table.alone) words
    (unlisted table.sides (names_of table.alone) name other ∙ named_is name table.alone))

-- whether the words behind a side have a form
abbrev pub has_form_on_side : List FormWords → List (List ℕ) → Bool
has_form_on_side forms [] = false
has_form_on_side forms (name ∷ words) = has_form (words_named name forms) name words

side_words_told : (forms : List FormWords) (side : List ℕ) (words : List (List ℕ))
    → is_some (walk 2 side (wanted_by_name forms words) words) ≡ not (has_form_on_side forms words)
side_words_told forms side [] = refl
side_words_told forms side (name ∷ words) =
    name_told 2 (is_listed (names_of forms) name) side name (words_named name forms) words (named_is name forms)

-- a word of a line whose first word is a side is wrong exactly where the words behind it have no form there
pub side_told : (table : LineTable) (side : List ℕ) (words : List (List ℕ)) → is_listed table.sides side ≡ true
    → is_some (first_fault table (side ∷ words)) ≡ not (has_form_on_side table.on_side words)
side_told table side words is =
    let named = listed table.sides (names_of table.alone) side is in
    rw (is, named) (side_words_told table.on_side side words)

same_octets : (xs ys : List ℕ) → bytes_eq xs ys ≡ true → xs ≡ ys
same_octets xs ys e = (bytes_eq-Decides xs ys).0 e

-- what holds of each of these names, and of any word that is none of them, holds of a word
pub by_name : (P : List ℕ → Type 0) (word : List ℕ) (names : List (List ℕ)) → AllByRecursion P names
    → (AllByRecursion (λ name. bytes_eq word name ≡ false) names → P word) → P word
by_name P word [] each other = other tt
by_name P word (name ∷ names) each other = go (bytes_eq word name) refl (by_name P word names each.1) where
  go : (b : Bool) → bytes_eq word name ≡ b → ((AllByRecursion (λ n. bytes_eq word n ≡ false) names → P word) → P word) → P word
  go true is later = subst P (sym (same_octets word name is)) each.0
  go false is later = later (λ others. other (is, others))

-- ---- forms by the number of their words

-- the forms that have as many words as these
abbrev pub as_long : List FormWords → List (List ℕ) → List FormWords
as_long [] words = []
as_long (form ∷ forms) words = if are_as_many form.words words then form ∷ as_long forms words else as_long forms words

-- no name stands twice
abbrev pub are_distinct : List (List ℕ) → Bool
are_distinct [] = true
are_distinct (name ∷ names) = not (is_listed names name) && are_distinct names

not_listed : (a b : Bool) → (not a && b) ≡ true → (a ≡ false) × (b ≡ true)
not_listed true b is = absurd cc
not_listed false b is = (refl, is)

-- the words of a name, by whether the first form has it
abbrev named_first : Bool → FormWords → Option FormWords → Option (List Expected)
named_first b form later = option_map (λ (f : FormWords). f.words) (cond b (Some form) later)

-- what is no name has no words
unnamed : (word : List ℕ) (forms : List FormWords) (words : List (List ℕ)) → is_listed (names_of forms) word ≡ false → words_named word (as_long forms words) ≡ None
unnamed word [] words is = refl
unnamed word (form ∷ forms) words is = go (bytes_eq word form.name) (are_as_many form.words words) refl is (unnamed word forms words) where
  go : (b m : Bool) → bytes_eq word form.name ≡ b → (b || list_any (bytes_eq word) (names_of forms)) ≡ false → (is_listed (names_of forms) word ≡ false → words_named word (as_long forms words) ≡ None)
      → words_named word (if m then form ∷ as_long forms words else as_long forms words) ≡ None
  go true m h is later = absurd cc
  go false true h is later = rw h (later is)
  go false false h is later = later is

-- words have the form of their name exactly where they have the one among the forms of as many words
pub by_count : (forms : List FormWords) (name : List ℕ) (words : List (List ℕ)) → are_distinct (names_of forms) ≡ true
    → has_form (words_named name forms) name words ≡ has_form (words_named name (as_long forms words)) name words
by_count [] name words distinct = refl
by_count (form ∷ forms) name words distinct =
    let apart = not_listed (is_listed (names_of forms) form.name) (are_distinct (names_of forms)) distinct in
    go (bytes_eq name form.name) (are_as_many form.words words) refl refl apart.0 (by_count forms name words apart.1) where
      go : (b m : Bool) → bytes_eq name form.name ≡ b → are_as_many form.words words ≡ m → is_listed (names_of forms) form.name ≡ false
          → has_form (words_named name forms) name words ≡ has_form (words_named name (as_long forms words)) name words
          → has_form (named_first b form (find (λ f. bytes_eq name f.name) forms)) name words
          ≡ has_form (words_named name (if m then form ∷ as_long forms words else as_long forms words)) name words
      go true true h i other later = rw h refl
      go true false h i other later =
          let same : name ≡ form.name = same_octets name form.name h in
          rw (i, unnamed name forms words (rw same other)) refl
      go false true h i other later = rw h later
      go false false h i other later = later
