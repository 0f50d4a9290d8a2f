-- Where the fault of an element's encoding is told.
use Rattle.std.specs.Prelude.{ℕ, zero, suc, ◌≤◌, Bool, true, false, List, length, take, Result, Ok, Err, if◌then◌else◌}
use Rattle.ber_core.specs.declared.fault.BerFault.{BerFault}
use Rattle.ber_core.specs.declared.fault.BerFault.TheVariants.{Short, BadTag, BadLength, IndefinitePrimitive, TooDeep}
use Rattle.ber_core.specs.Element.{Parts, depth_limit}
use Rattle.ber_core.specs.Fault.{ElementFault}
use Rattle.ber_core.specs.ElementReading.{element_at}

-- The octets are the front of an element that isn't whole yet, and no other fault is there
-- (X.690, Structure of an encoding).
abbrev pub IsOpen : List ℕ → Type 0
IsOpen octets = ElementFault depth_limit octets Short

-- The fault of the bytes is told at the octet behind the longest front that is still open: with that octet the
-- fault is there, whatever follows. Where the bytes are short it is their end (own).
pub record IsToldAt (place : ℕ) (bytes : List ℕ) : Type 0 where
  pub within : place ≤ length bytes
  pub open_before : IsOpen (take place bytes)
  pub longest : (n : ℕ) → n ≤ length bytes → IsOpen (take n bytes) → n ≤ place

-- Whether what was read is the fault Short (own).
abbrev pub is_short_of : Result (Parts × List ℕ) BerFault → Bool
is_short_of (Ok r) = false
is_short_of (Err Short) = true
is_short_of (Err BadTag) = false
is_short_of (Err BadLength) = false
is_short_of (Err IndefinitePrimitive) = false
is_short_of (Err TooDeep) = false

-- Whether the octets are still open (own).
unfoldable pub is_open : List ℕ → Bool
is_open octets = is_short_of (element_at depth_limit octets)

-- The longest front that is still open, of at most n octets, by its length (own).
unfoldable pub open_by : ℕ → List ℕ → ℕ
open_by zero bytes = 0
open_by (suc n) bytes = if is_open (take (suc n) bytes) then suc n else open_by n bytes

-- The octet at which the fault of the bytes is told (own).
unfoldable pub told_at : List ℕ → ℕ
told_at bytes = open_by (length bytes) bytes
