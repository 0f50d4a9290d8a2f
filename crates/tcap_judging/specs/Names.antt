-- The lines of a list of names, and the names that they give.
use Rattle.std.specs.Prelude.{◌≡◌, ◌⊎◌, ◌==◌, ◌||◌, ◌&&◌, ℕ, ◌+◌, Bool, true, false, List, [], ◌∷◌, ◌++◌, length, codes, bytes_eq, Option, Some, None, nat_le, nat_lt, not, if◌then◌else◌}
use Rattle.std.specs.List.{AllByRecursion, flat_map, list_any, position_or_len}
use Rattle.tcap_judging.specs.LineParts.{behind_word, first_word, is_unnamed, trimmed}
use Rattle.tcap_judging.specs.Lines.{IsInLines, ended, is_one_line, line_feed}
use Rattle.tcap_judging.specs.declared.name_list.NameKind.{NameKind}
use Rattle.tcap_judging.specs.declared.name_list.NameKind.TheVariants.{Operation, Error, Context}

-- A name: what it is of, the number or the numbers of that, and the name (own).
pub record NameParts : Type 0 where
  pub kind : NameKind
  pub key : List ℕ
  pub name : List ℕ

-- A name of these parts (own).
abbrev pub name_parts : NameKind → List ℕ → List ℕ → NameParts
name_parts kind key name = record { kind = kind; key = key; name = name }

-- What a line gives (own).
pub data NameLine : Type 0 where
  -- nothing: it is blank, or a comment
  nothing : NameLine
  -- a name
  named : (parts : NameParts) → NameLine
  -- it is none of these
  bad : NameLine

-- Nothing more stands in a line: it is over, or a number sign begins a comment (own).
abbrev pub is_over : List ℕ → Bool
is_over [] = true
is_over (octet ∷ octets) = octet == 35

-- What a name is of, by the first word of its line (own).
abbrev pub kind_of : List ℕ → Option NameKind
kind_of word =
    if bytes_eq word (codes "operation") then Some Operation
    else if bytes_eq word (codes "error") then Some Error
    else if bytes_eq word (codes "context") then Some Context
    else None

-- An octet that stands in no number and not between numbers: neither a digit nor a dot nor a minus sign (own).
abbrev pub is_unkeyed : ℕ → Bool
is_unkeyed octet = not ((nat_le 48 octet && nat_le octet 57) || (octet == 46 || octet == 45))

-- A word that may be a name: it has an octet, and each is visible ASCII and no quotation mark or backslash (own).
abbrev pub is_name : List ℕ → Bool
is_name word = nat_lt 0 (length word) && (position_or_len is_unnamed word == length word)

-- A word that may be a name (own).
abbrev pub name_word : List ℕ → Option (List ℕ)
name_word word = if is_name word then Some word else None

-- A word that is a number or numbers with dots between them (own).
abbrev pub key_of : List ℕ → Option (List ℕ)
key_of word = if list_any is_unkeyed word then None else name_word word

-- What a line gives by its kind, its key and its name (own).
abbrev pub name_by : NameKind → List ℕ → Option (List ℕ) → NameLine
name_by kind key None = bad
name_by kind key (Some name) = named (name_parts kind key name)

-- The same, where it has a key (own).
abbrev pub key_by : NameKind → Option (List ℕ) → Option (List ℕ) → NameLine
key_by kind None name = bad
key_by kind (Some key) name = name_by kind key name

-- The same, where its first word is a kind (own).
abbrev pub line_by : Option NameKind → Option (List ℕ) → Option (List ℕ) → NameLine
line_by None key name = bad
line_by (Some kind) key name = key_by kind key name

-- What stands behind the first word, from its first octet on that is no blank (own).
abbrev pub behind : List ℕ → List ℕ
behind text = trimmed (behind_word text)

-- What a line gives, from its first octet on that is no blank: three words and nothing more are a name (own).
abbrev pub line_of : List ℕ → NameLine
line_of text =
    if is_over text then nothing
    else if is_over (behind (behind (behind text))) then line_by (kind_of (first_word text))
    (key_of (first_word (behind text))) (name_word (first_word (behind (behind text))))
    else bad

-- The names that a line gives (own).
abbrev pub names_of : NameLine → List NameParts
names_of nothing = []
names_of (named parts) = parts ∷ []
names_of bad = []

-- The names that lines give, in their order (own).
abbrev pub names_in : List (List ℕ) → List NameParts
names_in lines = flat_map (λ line. names_of (line_of (trimmed line))) lines

-- Whether a line is a name, a comment or blank, by what it gives (own).
abbrev pub is_name_line : NameLine → Bool
is_name_line nothing = true
is_name_line (named parts) = true
is_name_line bad = false

-- A line is a name, a comment or blank (own).
abbrev pub IsNameLine : List ℕ → Type 0
IsNameLine line = is_name_line (line_of (trimmed line)) ≡ true

-- A text is a list of names: each of its lines is a name, a comment or blank (own).
pub record AreNames (text : List ℕ) (names : List NameParts) : Type 0 where
  pub lines : List (List ℕ)
  pub rest : List ℕ
  pub is_in_lines : IsInLines lines rest text
  pub each : AllByRecursion IsNameLine (lines ++ (rest ∷ []))
  pub are_names : names ≡ names_in (lines ++ (rest ∷ []))

-- A text is no list of names: of its lines the one of this number, counted from 1, is the first that is bad (own).
pub record IsBadAt (text : List ℕ) (number : ℕ) : Type 0 where
  pub before : List (List ℕ)
  pub line : List ℕ
  pub after : List ℕ
  pub is_text : text ≡ ended before ++ (line ++ after)
  pub each_alone : AllByRecursion (λ l. is_one_line l ≡ true) before
  pub alone : is_one_line line ≡ true
  pub ends : (after ≡ []) ⊎ ((more : List ℕ) × (after ≡ line_feed ∷ more))
  pub each : AllByRecursion IsNameLine before
  pub is_bad : is_name_line (line_of (trimmed line)) ≡ false
  pub is_number : number ≡ length before + 1

-- Two kinds are one (own).
abbrev pub is_kind : NameKind → NameKind → Bool
is_kind Operation Operation = true
is_kind Operation Error = false
is_kind Operation Context = false
is_kind Error Operation = false
is_kind Error Error = true
is_kind Error Context = false
is_kind Context Operation = false
is_kind Context Error = false
is_kind Context Context = true

-- This name, or the other where it isn't the one that was sought (own).
abbrev pub first_by : (found : Bool) → List ℕ → Option (List ℕ) → Option (List ℕ)
first_by true name other = Some name
first_by false name other = other

-- A name is of this kind for this key (own).
abbrev pub is_for : NameKind → List ℕ → NameParts → Bool
is_for kind key n = is_kind kind n.kind && bytes_eq n.key key

-- The first name of this kind for this key, if there is one (own).
abbrev pub name_for : NameKind → List ℕ → List NameParts → Option (List ℕ)
name_for kind key [] = None
name_for kind key (n ∷ names) = first_by (is_for kind key n) n.name (name_for kind key names)
