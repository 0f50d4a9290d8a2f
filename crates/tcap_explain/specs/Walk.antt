-- Contents held against a table, element by element: the first that doesn't fit its line.
use Rattle.std.specs.Prelude.{ℕ, zero, suc, ◌+◌, ◌-◌, ◌≤◌, List, [], ◌∷◌, length, Option, Some, None, option_map, Result, Ok, Err, if◌then◌else◌}
use Rattle.ber_core.specs.declared.fault.BerFault.{BerFault}
use Rattle.ber_core.specs.Element.{Parts, depth_limit}
use Rattle.ber_core.specs.ElementReading.{element_at}
use Rattle.ber_core.specs.Place.{head_length}
use Rattle.tcap_explain.specs.declared.contents.Contents.{Contents}
use Rattle.tcap_explain.specs.declared.line.Line.{Line}
use Rattle.tcap_explain.specs.declared.line.Rule.{Rule}
use Rattle.tcap_explain.specs.declared.line.Rule.TheVariants as rule
use Rattle.tcap_explain.specs.declared.line.Explained.{Explained}
use Rattle.tcap_explain.specs.declared.table.Inside.{Inside}
use Rattle.tcap_explain.specs.declared.table.Inside.TheVariants as inside
use Rattle.tcap_explain.specs.Choice.{Choice}
use Rattle.tcap_explain.specs.EncodingPlace.{told_at}
use Rattle.tcap_explain.specs.Octets.{fits}
use Rattle.tcap_explain.specs.Table.{next, may_end, is_over}

-- The rule that is not met at an octet, in the element that begins at another (own).
abbrev pub unmet : ℕ → ℕ → Rule → Explained
unmet place element rule = record { place = place; element = element; rule = rule }

-- The same, n octets further on (own).
abbrev pub further : ℕ → Explained → Explained
further n x = unmet (n + x.place) (n + x.element) x.rule

-- The place and the element lie within so many octets, or at their end (own).
abbrev pub IsWithin : ℕ → Explained → Type 0
IsWithin len x = (x.place ≤ len) × (x.element ≤ len)

-- An encoding with a fault: where it is told, in the element at the front (X.690, Structure of an encoding).
abbrev pub badly_encoded : List ℕ → BerFault → Explained
badly_encoded bytes f = unmet (told_at bytes) 0 (rule.Encoding f)

-- Contents octets of an element that are not what they have to be: where they begin, behind its head (own).
abbrev pub bad_octets : ℕ → Contents → List ℕ → Explained
bad_octets head contents content = unmet head 0 (rule.Octets contents (length content))

-- How the contents of elements are held against a table, from a line on (own).
abbrev pub Walk : Type 0
Walk = Line → List ℕ → Option Explained

-- The first, if it is there, else the second (own).
abbrev pub first_of : Option Explained → Option Explained → Option Explained
first_of None second = second
first_of (Some x) second = Some x

-- What is not met in the content of an element, behind its head (own).
abbrev pub inside_by : Walk → ℕ → Inside → List ℕ → Option Explained
inside_by walk head (inside.Octets contents) content = if fits contents content then None else Some (bad_octets head contents content)
inside_by walk head (inside.Elements line) content = option_map (further head) (walk line content)
inside_by walk head (inside.Listed first second) content = option_map (further head) (first_of (walk first content) (walk second content))

-- The next line and what is left, where nothing was found (own).
abbrev pub passed : Option Explained → Line → List ℕ → Result (Line × List ℕ) Explained
passed None line rest = Ok (line, rest)
passed (Some x) line rest = Err x

-- The element that was read, at this line: it has to be one of the line's, and to hold what is asked there
-- (Q.773, tables of information elements).
abbrev pub chosen_by : Walk → Line → List ℕ → Parts × List ℕ → Option Choice → Result (Line × List ℕ) Explained
chosen_by walk line bytes r None = Err (unmet 0 0 (rule.Other line))
chosen_by walk line bytes r (Some choice) = passed (inside_by walk (head_length bytes) choice.0 r.0.content) choice.1 r.1

-- The first element that was read, or its fault (own).
abbrev pub step_from : Walk → Line → List ℕ → Result (Parts × List ℕ) BerFault → Result (Line × List ℕ) Explained
step_from walk line bytes (Err f) = Err (badly_encoded bytes f)
step_from walk line bytes (Ok r) = chosen_by walk line bytes r (next line r.0.tag r.0.content)

-- The first element of the bytes, held against the line: the next line and what is left, or what is not met.
-- Where nothing may follow, nothing is read (Q.773, tables of information elements).
abbrev pub step_by : Walk → Line → List ℕ → Result (Line × List ℕ) Explained
step_by walk line bytes = if is_over line then Err (unmet 0 0 (rule.Other line)) else step_from walk line bytes (element_at depth_limit bytes)

-- Contents that end at a line: its element is missing, if it has to be there
-- (Q.773, tables of information elements).
abbrev pub ended : Line → Option Explained
ended line = if may_end line then None else Some (unmet 0 0 (rule.Missing line))

-- What is not met behind the first element, which was passed (own).
abbrev pub behind : Walk → ℕ → Result (Line × List ℕ) Explained → Option Explained
behind walk len (Err x) = Some x
behind walk len (Ok s) = option_map (further (len - length s.1)) (walk s.0 s.1)

-- What is not met first, of at most n elements (own).
unfoldable pub walk_by : ℕ → Line → List ℕ → Option Explained
walk_by n line [] = ended line
walk_by zero line (b ∷ bytes) = None
walk_by (suc n) line (b ∷ bytes) = behind (walk_by n) (length (b ∷ bytes)) (step_by (walk_by n) line (b ∷ bytes))

-- What is not met first in contents that are to be those of a table from a line on, if anything
-- (Q.773, tables of information elements).
unfoldable pub walk : Line → List ℕ → Option Explained
walk line bytes = walk_by (length bytes) line bytes

-- The first element of the bytes, held against the line (own).
unfoldable pub step : Line → List ℕ → Result (Line × List ℕ) Explained
step line bytes = step_by walk line bytes
