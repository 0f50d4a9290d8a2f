-- Where a slice lies: its block of memory, and the octet of that block at which it begins.
use Rattle.std.specs.Prelude.{◌≡◌, ℕ, ◌+◌, ◌-◌, Bool, List, length, Option, Result, Ok, Err}
use Rattle.std.specs.Borrow.{Bor}
use Rattle.ber_core.specs.declared.fault.BerFault.{BerFault}
use Rattle.ber_core.specs.HeadReading.{head_at}

-- A slice of octets (own).
abbrev pub Slice : Type 0
Slice = Bor (List ℕ)

-- The part begins where the bytes begin (own).
abbrev pub AtFront : Slice → Slice → Type 0
AtFront part bytes = part.ref_ptr ≡ bytes.ref_ptr

-- The part lies in the block of the bytes, and begins n octets behind their first (own).
abbrev pub IsAt : ℕ → Slice → Slice → Type 0
IsAt n part bytes = (part.ref_ptr.0 ≡ bytes.ref_ptr.0) × (part.ref_ptr.1 ≡ bytes.ref_ptr.1 + n)

-- The part lies in the block of the bytes, and ends where they end (own).
abbrev pub AtEnd : Slice → Slice → Type 0
AtEnd part bytes = (part.ref_ptr.0 ≡ bytes.ref_ptr.0) × (part.ref_ptr.1 + length part.now ≡ bytes.ref_ptr.1 + length bytes.now)

-- How many octets the head has that was read (own).
abbrev pub head_length_of : List ℕ → Result (List ℕ × Bool × Option ℕ × List ℕ) BerFault → ℕ
head_length_of bytes (Ok h) = length bytes - length h.3
head_length_of bytes (Err f) = 0

-- How many octets the tag and the length at the front have, 0 where no head is there
-- (X.690, Structure of an encoding).
unfoldable pub head_length : List ℕ → ℕ
head_length bytes = head_length_of bytes (head_at bytes)
