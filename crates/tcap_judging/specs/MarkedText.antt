-- The octets of a message about the place of its fault, with marks below those that are faulty.
use Rattle.std.specs.Prelude.{ℕ, ◌+◌, ◌-◌, List, [], ◌∷◌, ◌++◌, length, take, drop, max, codes, Option, Some, None, Result, Ok, Err, nat_lt, if◌then◌else◌}
use Rattle.std.specs.List.{flat_map}
use Rattle.hex.specs.Hex.{encode_lower}
use Rattle.ber_core.specs.Element.{Parts, depth_limit}
use Rattle.ber_core.specs.ElementReading.{element_at}
use Rattle.ber_core.specs.declared.fault.BerFault.{BerFault}
use Rattle.tcap_explain.specs.Table.{is_over}
use Rattle.tcap_explain.specs.declared.line.Explained.{Explained}
use Rattle.tcap_explain.specs.declared.line.Rule.{Rule}
use Rattle.tcap_explain.specs.declared.line.Rule.TheVariants as rule

-- How many octets are shown before the place of a fault, and behind its octet, at most (own).
abbrev pub shown_about : ℕ
shown_about = 16

-- The octets before the place, of those that are shown (own).
abbrev pub shown_before : List ℕ → ℕ → List ℕ
shown_before octets place = drop (place - shown_about) (take place octets)

-- The octets from the place on, of those that are shown (own).
abbrev pub shown_from : List ℕ → ℕ → List ℕ
shown_from octets place = take (1 + shown_about) (drop place octets)

-- How many octets an element has left behind so many of its own; one where it has none left, or isn't read (own).
abbrev pub left_by : Result (Parts × List ℕ) BerFault → ℕ → ℕ
left_by (Ok r) before = max 1 (length r.0.whole - before)
left_by (Err fault) before = 1

-- How many octets the element of the fault has left from its place on; one where it has none left, or isn't read (own).
abbrev pub left_count : List ℕ → Explained → ℕ
left_count octets found = left_by (element_at depth_limit (drop found.element octets)) (found.place - found.element)

-- How many octets are faulty by a rule where the element has so many left: these; but one where an element can't be
-- read within the contents that hold it, or is missing there, or where these should end: what stands there may not end
-- within them (own).
abbrev pub faulty_by : Rule → ℕ → ℕ
faulty_by rule.MessageLength left = left
faulty_by (rule.Encoding fault) left = 1
faulty_by (rule.Other line) left = if is_over line then 1 else left
faulty_by (rule.Missing line) left = 1
faulty_by (rule.Octets contents count) left = left

-- How many octets are faulty, from the place of the fault on (own).
abbrev pub faulty_count : List ℕ → Explained → ℕ
faulty_count octets found = faulty_by found.rule (left_count octets found)

-- The faulty octets, of those that are shown (own).
abbrev pub shown_faulty : List ℕ → Explained → List ℕ
shown_faulty octets found = take (faulty_count octets found) (shown_from octets found.place)

-- An octet in hexadecimal, behind a space (own).
abbrev pub spaced : ℕ → List ℕ
spaced octet = codes " " ++ encode_lower (octet ∷ [])

-- As many spaces as an octet takes (own).
abbrev pub blanks : ℕ → List ℕ
blanks octet = codes "   "

-- A mark below an octet (own).
abbrev pub mark : ℕ → List ℕ
mark octet = codes " ^^"

-- Dots before the octets that are shown, where others stand before them (own).
abbrev pub dots_before : ℕ → List ℕ
dots_before place = if nat_lt shown_about place then codes " .." else []

-- As many spaces as these dots take (own).
abbrev pub blanks_before : ℕ → List ℕ
blanks_before place = if nat_lt shown_about place then codes "   " else []

-- Dots behind the octets that are shown, where others stand behind them (own).
abbrev pub dots_behind : List ℕ → ℕ → List ℕ
dots_behind octets place = if nat_lt (1 + shown_about) (length (drop place octets)) then codes " .." else []

-- Marks below the faulty octets; one behind all octets where the place is the end (own).
abbrev pub marks : List ℕ → List ℕ
marks [] = codes " ^^"
marks (octet ∷ octets) = flat_map mark (octet ∷ octets)

-- The octets that are shown (own).
abbrev pub shown_line : List ℕ → ℕ → List ℕ
shown_line octets place =
    codes "   " ++ (dots_before place ++ (flat_map spaced (shown_before octets place)
    ++ (flat_map spaced (shown_from octets place) ++ (dots_behind octets place ++ codes "\n"))))

-- The marks below them (own).
abbrev pub mark_line : List ℕ → Explained → List ℕ
mark_line octets found =
    codes "   " ++ (blanks_before found.place ++ (flat_map blanks (shown_before octets found.place)
    ++ (marks (shown_faulty octets found) ++ codes "\n")))

-- What is printed below the line of a message: nothing where it has no fault (own).
abbrev pub marked_text : List ℕ → Option Explained → List ℕ
marked_text octets None = []
marked_text octets (Some found) = shown_line octets found.place ++ mark_line octets found
