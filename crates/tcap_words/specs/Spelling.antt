-- Hexadecimal, and the octets that it spells.
use Rattle.std.specs.Prelude.{◌≡◌, ◌%◌, ℕ, List, length, Option, Some, None, Result, Ok, Err}
use Rattle.std.specs.List.{AllPass}
use Rattle.hex.specs.Hex.{decode_of, is_hex_digit}
use Rattle.hex.specs.declared.error.FromHexError.{FromHexError}

-- Hexadecimal: an even number of digits, of both cases (own).
abbrev pub IsHex : List ℕ → Type 0
IsHex hex = (length hex % 2 ≡ 0) × AllPass is_hex_digit hex

-- The octets, where digits were read as some (own).
abbrev pub octets_if_read : Result (List ℕ) FromHexError → Option (List ℕ)
octets_if_read (Ok octets) = Some octets
octets_if_read (Err fault) = None

-- The octets that hexadecimal spells, two digits each; none where it isn't hexadecimal (own).
abbrev pub spelled_by : List ℕ → Option (List ℕ)
spelled_by hex = octets_if_read (decode_of hex)
