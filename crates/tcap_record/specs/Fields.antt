-- The fields of a record: the octets of each, and what is read of one at the front of octets.
use Rattle.std.specs.Prelude.{ℕ, suc, List, [], ◌∷◌, ◌++◌, length, take, drop, Option, Some, None, Result, Ok, Err, nat_lt, ◌==◌, if◌then◌else◌}
use Rattle.std.specs.Int.{Width, byte_len, from_be_bytes}
use Rattle.ber_core.specs.Results.{◌>>=◌}

-- What reading comes to: a value and the octets behind it, or how many octets are left at the place where
-- it stops (own).
abbrev pub Reading : Type 0 → Type 0
Reading X = Result (X × List ℕ) ℕ

-- ---- numbers

-- The number that stands first, most significant octet first (own).
abbrev pub number_at : Width → List ℕ → Reading ℕ
number_at w octets =
    if nat_lt (length octets) (byte_len w) then Err 0
    else Ok (from_be_bytes w (take (byte_len w) octets), drop (byte_len w) octets)

-- ---- one octet that stands for a value

-- What stands behind this octet in a table, if it is there (own).
abbrev pub listed : {X : Type 0} → List (ℕ × X) → ℕ → Option X
listed [] octet = None
listed (row ∷ table) octet = if octet == row.0 then Some row.1 else listed table octet

-- What an octet stands for, with the octets behind it; where it stands for nothing, reading stops at it (own).
abbrev pub told : {X : Type 0} → Option X → List ℕ → Reading X
told None rest = Err (suc (length rest))
told (Some x) rest = Ok (x, rest)

-- The value that the first octet stands for (own).
abbrev pub named_at : {X : Type 0} → (ℕ → Option X) → List ℕ → Reading X
named_at name [] = Err 0
named_at name (octet ∷ rest) = told (name octet) rest

-- ---- octets behind their number

-- So many octets (own).
abbrev pub taken_at : ℕ → List ℕ → Reading (List ℕ)
taken_at n octets = if nat_lt (length octets) n then Err 0 else Ok (take n octets, drop n octets)

-- Octets, behind the octets of how many they are (own).
abbrev pub counted : (ℕ → List ℕ) → List ℕ → List ℕ
counted count octets = count (length octets) ++ octets

-- Octets behind how many they are (own).
abbrev pub counted_at : (List ℕ → Reading ℕ) → List ℕ → Reading (List ℕ)
counted_at count octets = count octets >>= (λ n. taken_at n.0 n.1)

-- ---- one after the other, and one of several

-- One field and then another (own).
abbrev pub pair : {X Y : Type 0} → (X → List ℕ) → (Y → List ℕ) → X × Y → List ℕ
pair first second both = first both.0 ++ second both.1

-- One field and then another (own).
abbrev pub pair_at : {X Y : Type 0} → (List ℕ → Reading X) → (List ℕ → Reading Y) → List ℕ → Reading (X × Y)
pair_at first second octets = first octets >>= (λ x. second x.1 >>= (λ y. Ok ((x.0, y.0), y.1)))

-- A field, as a value of another type (own).
abbrev pub as_at : {X Y : Type 0} → (X → Y) → (List ℕ → Reading X) → List ℕ → Reading Y
as_at view field octets = field octets >>= (λ x. Ok (view x.0, x.1))

-- The first octet says what stands behind it (own).
abbrev pub choice_at : {T X : Type 0} → (ℕ → Option T) → (T → List ℕ → Reading X) → List ℕ → Reading X
choice_at name field octets = named_at name octets >>= (λ t. field t.0 t.1)
