-- How many octets an element in the shortest definite form has.
use Rattle.std.specs.Prelude.{ℕ, ◌+◌, nat_lt, if◌then◌else◌}

-- The octets of an element with a tag of one octet and a content of this length
-- (X.690, Length octets; the shortest form is own).
abbrev pub element_length : ℕ → ℕ
element_length n =
    if nat_lt n 0x80 then n + 2
    else if nat_lt n 0x100 then n + 3
    else n + 4
