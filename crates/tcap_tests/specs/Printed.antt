-- What the command prints for HEX, by computation.
use Rattle.std.specs.Prelude.{ℕ, Bool, true, false, List, Result, Ok, Err}
use Rattle.hex.specs.Hex.{decode_of}
use Rattle.hex.specs.declared.error.FromHexError.{FromHexError}
use Rattle.tcap_cmd.specs.CommandLine.{Asked, show, check, canon}
use Rattle.tcap_cmd.specs.Command.{text_of, is_good_of}

-- What is printed, and whether its verdict is good (own).
pub data Printed : Type 0 where
  good : (text : List ℕ) → Printed
  faulty : (text : List ℕ) → Printed
  nothing : Printed

-- A text with its verdict (own).
abbrev pub printed_as : Bool → List ℕ → Printed
printed_as true text = good text
printed_as false text = faulty text

-- What is printed of the bytes that HEX spells; nothing where it spells none (own).
abbrev pub printed_of : Asked → Result (List ℕ) FromHexError → Printed
printed_of asked (Ok bytes) = printed_as (is_good_of asked bytes) (text_of asked bytes)
printed_of asked (Err fault) = nothing

-- What is printed for what is asked of HEX (own).
abbrev pub printed : Asked → List ℕ → Printed
printed asked hex = printed_of asked (decode_of hex)

-- What `show` prints for HEX (own).
abbrev pub shown : List ℕ → Printed
shown hex = printed (show hex) hex

-- What `check` prints for HEX (own).
abbrev pub checked : List ℕ → Printed
checked hex = printed (check hex) hex

-- What `canon` prints for HEX (own).
abbrev pub rewritten : List ℕ → Printed
rewritten hex = printed (canon hex) hex
