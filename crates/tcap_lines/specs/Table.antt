-- Forms of lines, and what they want of a line's words.
use Rattle.std.specs.Prelude.{ℕ, Bool, List, [], ◌∷◌, ◌++◌, map, bytes_eq, Option, Some, None, option_map, if◌then◌else◌}
use Rattle.std.specs.List.{find, list_any}
use Rattle.tcap_lines.specs.declared.expected.Expected.{Expected}

-- A form: its name, and what the words behind it have to be (own).
pub record FormWords : Type 0 where
  pub name : List ℕ
  pub words : List Expected

-- The words that stand for a side; the forms whose name stands behind a side; and those whose name is the first
-- word (own).
pub record LineTable : Type 0 where
  pub sides : List (List ℕ)
  pub on_side : List FormWords
  pub alone : List FormWords

-- What a word of a line has to be: one of these names, or what a form says (own).
pub data Wanted : Type 0 where
  any_of : (names : List (List ℕ)) → Wanted
  what : (expected : Expected) → Wanted

-- Whether a word is one of these (own).
abbrev pub is_listed : List (List ℕ) → List ℕ → Bool
is_listed words word = list_any (bytes_eq word) words

-- The names of forms (own).
abbrev pub names_of : List FormWords → List (List ℕ)
names_of forms = map (λ form. form.name) forms

-- What the words behind a name have to be, by the first form of this name; none where there is none (own).
abbrev pub words_named : List ℕ → List FormWords → Option (List Expected)
words_named name forms = option_map (λ form. form.words) (find (λ form. bytes_eq name form.name) forms)

-- What is wanted behind a name: what its form says, nothing where it has none (own).
abbrev pub wanted_behind : Option (List Expected) → List Wanted
wanted_behind None = []
wanted_behind (Some words) = map (λ expected. Wanted.what expected) words

-- What is wanted of words that begin with a name of these forms (own).
abbrev pub wanted_by_name : List FormWords → List (List ℕ) → List Wanted
wanted_by_name forms [] = Wanted.any_of (names_of forms) ∷ []
wanted_by_name forms (name ∷ words) = Wanted.any_of (names_of forms) ∷ wanted_behind (words_named name forms)

-- What is wanted of the words behind the first: where that is a side, the name of a form and its words; else the
-- words of its own form (own).
abbrev pub wanted_behind_first : LineTable → List ℕ → List (List ℕ) → List Wanted
wanted_behind_first table first words =
    if is_listed table.sides first then wanted_by_name table.on_side words
    else wanted_behind (words_named first table.alone)

-- What the words of a line have to be (own).
abbrev pub wanted_words : LineTable → List (List ℕ) → List Wanted
wanted_words table [] = Wanted.any_of (table.sides ++ names_of table.alone) ∷ []
wanted_words table (first ∷ words) =
    Wanted.any_of (table.sides ++ names_of table.alone) ∷ wanted_behind_first table first words
