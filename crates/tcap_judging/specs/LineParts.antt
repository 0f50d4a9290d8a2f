-- What stands in a line: nothing, a message in hexadecimal that may have a name, or neither.
use Rattle.std.specs.Prelude.{ℕ, ◌+◌, ◌-◌, Bool, true, List, length, take, drop, Option, Some, None, not, nat_le, nat_lt, ◌==◌, ◌||◌, ◌&&◌, if◌then◌else◌, slice_index}
use Rattle.std.specs.List.{list_any, filter, position_or_len}
use Rattle.hex.specs.Hex.{is_hex_digit}
use Rattle.tcap_words.specs.Spelling.{spelled_by}
use Rattle.tcap_judging.specs.declared.bad_line.BadLine.{BadLine}
use Rattle.tcap_judging.specs.declared.bad_line.BadLine.TheVariants as bad
use Rattle.tcap_judging.specs.declared.naming.Naming.{Naming}
use Rattle.tcap_judging.specs.declared.naming.Naming.TheVariants.{Marked, All}

-- The longest line, in octets, without its line feed: a message of 65,535 octets at three characters each, and a
-- name (own).
abbrev pub line_limit : ℕ
line_limit = 200000

-- A blank: a space, a tab or a carriage return (own).
abbrev pub is_blank : ℕ → Bool
is_blank octet = octet == 32 || (octet == 9 || octet == 13)

-- A colon (own).
abbrev pub is_colon : ℕ → Bool
is_colon octet = octet == 58

-- What may stand in hexadecimal: a digit of either case, a blank or a colon (own).
abbrev pub is_in_hex : ℕ → Bool
is_in_hex octet = is_hex_digit octet || (is_blank octet || is_colon octet)

-- A quotation mark or a backslash (own).
abbrev pub is_quoting : ℕ → Bool
is_quoting octet = octet == 34 || octet == 92

-- An octet that no name has: it is no visible character of ASCII, or a quotation mark or a backslash (own).
abbrev pub is_unnamed : ℕ → Bool
is_unnamed octet = not (nat_le 0x21 octet && nat_le octet 0x7e) || is_quoting octet

-- An octet that no hexadecimal has: neither a digit nor a blank nor a colon (own).
abbrev pub is_foreign : ℕ → Bool
is_foreign octet = not (is_in_hex octet)

-- An octet by which a word is a name: it is neither a digit of hexadecimal nor a colon (own).
abbrev pub is_in_name : ℕ → Bool
is_in_name octet = not (is_hex_digit octet) && not (is_colon octet)

-- An octet that is no blank (own).
abbrev pub is_dark : ℕ → Bool
is_dark octet = not (is_blank octet)

-- A line from its first octet on that is no blank (own).
abbrev pub trimmed : List ℕ → List ℕ
trimmed line = drop (position_or_len is_dark line) line

-- The first word of it: the octets before the next blank (own).
abbrev pub first_word : List ℕ → List ℕ
first_word text = take (position_or_len is_blank text) text

-- What stands behind its first word (own).
abbrev pub behind_word : List ℕ → List ℕ
behind_word text = drop (position_or_len is_blank text) text

-- Whether a word ends in a colon, behind another octet (own).
abbrev pub ends_in_colon : List ℕ → Bool
ends_in_colon word = nat_lt 1 (length word) && is_colon (slice_index word (length word - 1))

-- A first word that ends in no colon is a name: each is, or one with an octet that is neither a digit of hexadecimal
-- nor a colon (own).
abbrev pub is_name : Naming → List ℕ → Bool
is_name Marked word = list_any is_in_name word
is_name All word = true

-- The name that a first word is: one that ends in a colon is it without that colon (own).
abbrev pub name_of : Naming → List ℕ → Option (List ℕ)
name_of naming word =
    if ends_in_colon word then Some (take (length word - 1) word)
    else if is_name naming word then Some word
    else None

-- What stands in a line (own).
pub data LineParts : Type 0 where
  -- nothing but blanks
  blank : LineParts
  -- hexadecimal, with the name before it, if it has one
  hex : (name : Option (List ℕ)) (digits : List ℕ) → LineParts
  -- neither
  bad_line : (why : BadLine) → LineParts

-- The column of the octet that stands so many octets behind the front of the rest of a line; columns are counted
-- from 1 (own).
abbrev pub column : List ℕ → List ℕ → ℕ → ℕ
column line rest place = length line - length rest + place + 1

-- What is wrong in a line with a name or none that has no digit of hexadecimal (own).
abbrev pub no_digits : Option (List ℕ) → BadLine
no_digits None = bad.NoDigits
no_digits (Some name) = bad.NoDigitsBehind

-- The parts of a line with a name or none, of which the rest is hexadecimal: each of its octets has to be a digit, a
-- blank or a colon, and a digit has to be there (own).
abbrev pub hex_parts : List ℕ → Option (List ℕ) → List ℕ → LineParts
hex_parts line name rest =
    if nat_lt (position_or_len is_foreign rest) (length rest) then bad_line
    (bad.Digit (column line rest (position_or_len is_foreign rest))
    (slice_index rest (position_or_len is_foreign rest)))
    else if list_any is_hex_digit rest then hex name rest
    else bad_line (no_digits name)

-- The parts of a line by the name that its first word is: each octet of a name has to be one that a name may have;
-- the hexadecimal stands behind the name, or begins with the first word (own).
abbrev pub named_parts : List ℕ → List ℕ → Option (List ℕ) → LineParts
named_parts line text None = hex_parts line None text
named_parts line text (Some name) =
    if nat_lt (position_or_len is_unnamed name) (length name) then bad_line
    (bad.Name (column line text (position_or_len is_unnamed name))
    (slice_index name (position_or_len is_unnamed name)))
    else hex_parts line (Some name) (behind_word text)

-- The parts of a line from its first octet on that is no blank (own).
abbrev pub text_parts : Naming → List ℕ → List ℕ → LineParts
text_parts naming line text =
    if length text == 0 then blank else named_parts line text (name_of naming (first_word text))

-- The parts of a line that isn't too long (own).
abbrev pub parts_within : Naming → List ℕ → LineParts
parts_within naming line = text_parts naming line (trimmed line)

-- The parts of a line; its length is judged first (own).
abbrev pub parts_of : Naming → List ℕ → LineParts
parts_of naming line = if nat_lt line_limit (length line) then bad_line bad.TooLong else parts_within naming line

-- The octets that hexadecimal spells with blanks and colons left out, if its digits are an even number (own).
abbrev pub octets_of : List ℕ → Option (List ℕ)
octets_of digits = spelled_by (filter is_hex_digit digits)
