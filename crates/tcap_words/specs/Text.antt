-- The lines of the texts.
use Rattle.std.specs.Prelude.{◌≡◌, ℕ, Bool, true, false, List, take, ◌++◌, codes, length, Option, Some, None, ◌==◌, if◌then◌else◌}
use Rattle.std.specs.Fmt.{decimal}
use Rattle.hex.specs.Hex.{encode_lower}

-- A text that begins with what it was before (own).
abbrev pub BeginsWith : List ℕ → List ℕ → Type 0
BeginsWith old new = take (length old) new ≡ old

-- A line: its words and a line feed (own).
abbrev pub line : List ℕ → List ℕ
line words = words ++ codes "\n"

-- A line of a name and octets in hexadecimal, lower case, two digits an octet (own).
abbrev pub octets_line : List ℕ → List ℕ → List ℕ
octets_line name octets = name ++ (codes " " ++ (encode_lower octets ++ codes "\n"))

-- A line of a name and a decimal number (own).
abbrev pub number_line : List ℕ → ℕ → List ℕ
number_line name number = name ++ (codes " " ++ (decimal number ++ codes "\n"))

-- A line under a portion (own).
abbrev pub inner_line : List ℕ → List ℕ
inner_line words = codes "    " ++ (words ++ codes "\n")

-- Octets in hexadecimal, `-` where there are none (own).
abbrev pub octets_words : List ℕ → List ℕ
octets_words octets = if length octets == 0 then codes "-" else encode_lower octets

-- Octets in hexadecimal, `-` where they are empty or absent (own).
abbrev pub optional_octets_words : Option (List ℕ) → List ℕ
optional_octets_words None = codes "-"
optional_octets_words (Some octets) = octets_words octets

-- yes or no (own).
abbrev pub answer_words : Bool → List ℕ
answer_words true = codes "yes"
answer_words false = codes "no"
