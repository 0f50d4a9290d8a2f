-- What is told of a word that isn't what it has to be.
use Rattle.std.specs.Prelude.{ℕ, nat_lt, Bool, false, not, ◌&&◌, ◌==◌, ◌%◌, List, [], ◌∷◌, length, Option, Some, None, option_map, if◌then◌else◌}
use Rattle.std.specs.Char.{is_ascii_digit, is_ascii_graphic, is_ascii_hexdigit}
use Rattle.std.specs.List.{find, list_all}
use Rattle.tcap_lines.specs.declared.expected.Expected.{Expected}
use Rattle.tcap_lines.specs.declared.expected.Expected.TheVariants as expected
use Rattle.tcap_lines.specs.declared.fault.WordFault.{WordFault}
use Rattle.tcap_lines.specs.declared.fault.WordFault.TheVariants as fault
use Rattle.tcap_lines.specs.Fits.{is_dash}

-- What makes octets no word: that there are none, or the first of them that is no visible character of
-- ASCII (own).
abbrev pub unwritten : List ℕ → Option WordFault
unwritten [] = Some fault.Empty
unwritten (octet ∷ octets) = option_map (λ c. fault.Character c) (find (λ c. not (is_ascii_graphic c)) (octet ∷ octets))

-- A fault of the octets, and this one where they have none (own).
abbrev pub or_else : Option WordFault → WordFault → WordFault
or_else None other = other
or_else (Some found) other = found

-- Whether a zero stands before more (own).
abbrev pub begins_with_zero : List ℕ → Bool
begins_with_zero [] = false
begins_with_zero (first ∷ rest) = first == 48 && nat_lt 0 (length rest)

-- Whether a word is digits with a zero before them (own).
abbrev pub are_padded : List ℕ → Bool
are_padded word = begins_with_zero word && list_all is_ascii_digit word

-- Whether a word is a number with zeros before it; `-` may stand before them (own).
abbrev pub is_led_by_zeros : List ℕ → Bool
is_led_by_zeros [] = false
is_led_by_zeros (first ∷ rest) = if first == 45 then are_padded rest else are_padded (first ∷ rest)

-- Whether a word is an odd number of hexadecimal digits (own).
abbrev pub is_odd : List ℕ → Bool
is_odd word = length word % 2 == 1 && list_all is_ascii_hexdigit word

-- What is told where a number is expected (own).
abbrev pub told_of_number : Expected → List ℕ → WordFault
told_of_number wanted word = if is_led_by_zeros word then fault.LeadingZeros else fault.Other wanted

-- What is told where octets are expected (own).
abbrev pub told_of_octets : Expected → List ℕ → WordFault
told_of_octets wanted word = if is_odd word then fault.OddDigits else fault.Other wanted

-- What is told of a word that is none of what was expected, behind this one (own).
abbrev pub told : Expected → List ℕ → List ℕ → WordFault
told (expected.Number least most) before word = told_of_number (expected.Number least most) word
told (expected.Signed least most) before word = told_of_number (expected.Signed least most) word
told (expected.OptionalSigned least most) before word = told_of_number (expected.OptionalSigned least most) word
told expected.Octets before word = told_of_octets expected.Octets word
told expected.OctetsBehindCode before word =
    if is_dash before then fault.NoCode else told_of_octets expected.OctetsBehindCode word
told expected.Address before word = told_of_octets expected.Address word
told expected.Context before word = told_of_octets expected.Context word
told expected.DottedContext before word = told_of_octets expected.DottedContext word
told expected.ProblemKind before word = fault.Other expected.ProblemKind
told expected.AbortReason before word = fault.Other expected.AbortReason
told expected.Message before word = fault.Other expected.Message
