-- The first word of a line that is wrong.
use Rattle.std.specs.Prelude.{◌≡◌, ◌<◌, ◌+◌, ℕ, suc, zero, List, [], Option, Some, None, slice_get, if◌then◌else◌}
use Rattle.tcap_lines.specs.declared.fault.LineFault.{LineFault}
use Rattle.tcap_lines.specs.declared.fault.WordFault.{WordFault}
use Rattle.tcap_lines.specs.declared.fault.WordFault.TheVariants as fault
use Rattle.tcap_lines.specs.Fits.{fits}
use Rattle.tcap_lines.specs.Misfit.{or_else, told, unwritten}
use Rattle.tcap_lines.specs.Table.{LineTable, Wanted, is_listed, wanted_words}

-- What is wrong with a word, behind this one, of which this is wanted; nothing where it is that (own).
abbrev pub judged : List ℕ → Wanted → List ℕ → Option WordFault
judged before (Wanted.any_of names) word =
    if is_listed names word then None else Some (or_else (unwritten word) fault.Name)
judged before (Wanted.what expected) word =
    if fits expected before word then None else Some (or_else (unwritten word) (told expected before word))

-- That a word is missing (own).
abbrev pub missing : Wanted → WordFault
missing (Wanted.any_of names) = fault.NoName
missing (Wanted.what expected) = fault.Missing expected

-- That a word is one too many (own).
abbrev pub surplus : List ℕ → WordFault
surplus word = or_else (unwritten word) fault.Surplus

-- What is wrong at a place of a line, by the word before it, what is wanted there, and the word that is there
-- (own).
abbrev pub verdict : List ℕ → Option Wanted → Option (List ℕ) → Option WordFault
verdict before None None = None
verdict before None (Some word) = Some (surplus word)
verdict before (Some wanted) None = Some (missing wanted)
verdict before (Some wanted) (Some word) = judged before wanted word

-- A word that is there, no octets where there is none (own).
abbrev pub or_empty : Option (List ℕ) → List ℕ
or_empty None = []
or_empty (Some word) = word

-- The word before a place, no octets before the first (own).
abbrev pub word_before : List (List ℕ) → ℕ → List ℕ
word_before words zero = []
word_before words (suc place) = or_empty (slice_get words place)

-- What is wrong at a place of a line with these words (own).
abbrev pub verdict_at : LineTable → List (List ℕ) → ℕ → Option WordFault
verdict_at table words place =
    verdict (word_before words place) (slice_get (wanted_words table words) place) (slice_get words place)

-- The first word that is wrong: something is wrong at its place, and nothing at the places before it (own).
pub record IsFirstFault (table : LineTable) (words : List (List ℕ)) (found : LineFault) : Type 0 where
  pub place : ℕ
  pub is_number : found.word ≡ place + 1
  pub is_wrong : verdict_at table words place ≡ Some found.fault
  pub earlier : (i : ℕ) → i < place → verdict_at table words i ≡ None

-- Nothing is wrong at any place: the line has a form of the table (own).
abbrev pub IsGoodLine : LineTable → List (List ℕ) → Type 0
IsGoodLine table words = (place : ℕ) → verdict_at table words place ≡ None
