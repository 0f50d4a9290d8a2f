-- The words of what is wrong with a line.
use Rattle.std.specs.Prelude.{ℕ, ℤ, ◌==◌, List, [], ◌∷◌, ◌++◌, codes, if◌then◌else◌}
use Rattle.std.specs.Fmt.{decimal, signed_decimal}
use Rattle.hex.specs.Hex.{encode_lower}
use Rattle.tcap_lines.specs.declared.expected.Expected.{Expected}
use Rattle.tcap_lines.specs.declared.expected.Expected.TheVariants as expected
use Rattle.tcap_lines.specs.declared.fault.LineFault.{LineFault}
use Rattle.tcap_lines.specs.declared.fault.WordFault.{WordFault}
use Rattle.tcap_lines.specs.declared.fault.WordFault.TheVariants as fault
use Rattle.tcap_lines.specs.Table.{LineTable, names_of}

-- The range of a number (own).
abbrev pub range_words : ℕ → ℕ → List ℕ
range_words least most = codes "a number from " ++ (decimal least ++ (codes " to " ++ decimal most))

-- The range of a number that may be below zero (own).
abbrev pub signed_range_words : ℤ → ℤ → List ℕ
signed_range_words least most = codes "a number from " ++ (signed_decimal least ++ (codes " to " ++ signed_decimal most))

-- What a word has to be (own).
abbrev pub expected_words : Expected → List ℕ
expected_words (expected.Number least most) = range_words least most
expected_words (expected.Signed least most) = signed_range_words least most
expected_words (expected.OptionalSigned least most) = signed_range_words least most ++ codes ", or -"
expected_words expected.Octets = codes "octets in hexadecimal, or -"
expected_words expected.OctetsBehindCode = codes "octets in hexadecimal, or -"
expected_words expected.Address = codes "an address in hexadecimal, of at most 255 octets, or -"
expected_words expected.Context = codes "an application context in hexadecimal, or -"
expected_words expected.DottedContext = codes "an application context in dotted form or in hexadecimal, or -"
expected_words expected.ProblemKind = codes "general, invoke, result or error"
expected_words expected.AbortReason = codes "user or unsupported"
expected_words expected.Message = codes "a message, as A1"

-- Names, a space before each (own).
abbrev pub name_words : List (List ℕ) → List ℕ
name_words [] = []
name_words (name ∷ names) = codes " " ++ (name ++ name_words names)

-- The names that the word with this number may be: the first is a side or a name of a form, a later one the name
-- of a form behind a side (own).
abbrev pub names_at : LineTable → ℕ → List (List ℕ)
names_at table word = if word == 1 then table.sides ++ names_of table.alone else names_of table.on_side

-- Any of these names (own).
abbrev pub one_of : List (List ℕ) → List ℕ
one_of names = codes "one of" ++ name_words names

-- What is wrong with a word, which may be one of these names where it is to be one (own).
abbrev pub fault_words : List (List ℕ) → WordFault → List ℕ
fault_words names fault.Empty = codes ", one space between words"
fault_words names (fault.Character octet) = codes ", no character " ++ encode_lower (octet ∷ [])
fault_words names fault.Name = codes ", " ++ one_of names
fault_words names fault.NoName = codes " is missing, " ++ one_of names
fault_words names fault.LeadingZeros = codes ", a number without leading zeros"
fault_words names fault.OddDigits = codes ", an even number of hexadecimal digits"
fault_words names fault.NoCode = codes ", - behind a code that is -"
fault_words names (fault.Other wanted) = codes ", " ++ expected_words wanted
fault_words names (fault.Missing wanted) = codes " is missing, " ++ expected_words wanted
fault_words names fault.Surplus = codes ", nothing more"

-- What is wrong with a line of this table (own).
abbrev pub line_fault_words : LineTable → LineFault → List ℕ
line_fault_words table found = codes "word " ++ (decimal found.word ++ fault_words (names_at table found.word) found.fault)
