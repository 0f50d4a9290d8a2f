-- The words for what is wrong in a line.
use Rattle.std.specs.Prelude.{ℕ, List, [], ◌∷◌, ◌++◌, codes}
use Rattle.std.specs.Fmt.{decimal}
use Rattle.hex.specs.Hex.{encode_lower}
use Rattle.tcap_judging.specs.declared.bad_line.BadLine.{BadLine}
use Rattle.tcap_judging.specs.declared.bad_line.BadLine.TheVariants as bad

-- A column, what was expected there, and the octet that was found (own).
abbrev pub column_words : ℕ → List ℕ → ℕ → List ℕ
column_words column expected octet = codes "column " ++ (decimal column ++ (expected ++ encode_lower (octet ∷ [])))

-- The words for what is wrong in a line (own).
abbrev pub bad_words : BadLine → List ℕ
bad_words bad.TooLong = codes "more than 200000 octets"
bad_words (bad.Name column octet) = column_words column
    (codes ": expected a name of visible ASCII without quotation marks and backslashes, found 0x") octet
bad_words (bad.Digit column octet) = column_words column (codes ": expected a hexadecimal digit, found 0x") octet
bad_words bad.NoDigits = codes "no hexadecimal digits"
bad_words bad.NoDigitsBehind = codes "no hexadecimal digits behind the name"
bad_words bad.OddDigits = codes "an odd number of hexadecimal digits"
