-- A list of elements, read from left to right.
use Rattle.std.specs.Prelude.{ℕ, zero, suc, List, [], ◌∷◌, length, Option, Some, None, Result, Ok, Err, ◌==◌, if◌then◌else◌}
use Rattle.ber_core.specs.declared.fault.BerFault.{BerFault}
use Rattle.ber_core.specs.Element.{Parts, depth_limit}
use Rattle.ber_core.specs.ElementReading.{element_at}

-- The element that was read and those that follow it, or the fault and nothing more (own).
abbrev pub items_from : (List ℕ → List (Result Parts BerFault)) → Result (Parts × List ℕ) BerFault → List (Result Parts BerFault)
items_from others (Ok r) = Ok r.0 ∷ others r.1
items_from others (Err f) = Err f ∷ []

-- The elements up to the first fault, and that fault; at most n of them (own).
unfoldable pub items_by : ℕ → List ℕ → List (Result Parts BerFault)
items_by n [] = []
items_by zero (b ∷ bytes) = []
items_by (suc n) (b ∷ bytes) = items_from (items_by n) (element_at depth_limit (b ∷ bytes))

-- The elements up to the first fault, and that fault (X.690, Contents octets).
abbrev pub items_of : List ℕ → List (Result Parts BerFault)
items_of bytes = items_by (length bytes) bytes

-- The item that was read, and what is left behind it (own).
abbrev pub item_of : Result (Parts × List ℕ) BerFault → Option (Result Parts BerFault) × List ℕ
item_of (Ok r) = (Some (Ok r.0), r.1)
item_of (Err f) = (Some (Err f), [])

-- Nothing is left (own).
abbrev pub no_item : Option (Result Parts BerFault) × List ℕ
no_item = (None, [])

-- The first item, and what is left behind it: after a fault, nothing (own).
unfoldable pub item_at : List ℕ → Option (Result Parts BerFault) × List ℕ
item_at bytes = if length bytes == 0 then no_item else item_of (element_at depth_limit bytes)
