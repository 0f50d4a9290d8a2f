use Rattle.std.proofs.Common.{◌≡◌, ◌≤◌, ◌+◌, ◌*◌, ◌++◌, length, string_bytes, string_capacity, string_len}
use Rattle.hex.specs.Hex.{encode_lower}
use Rattle.tcap_words.proofs.hexadecimal.push_hex.Given as goal

-- the digits so far, and those of the octets that are left; and the room for these
abbrev pub invariant-loop-sixteen : goal.invariant-loop-sixteen
invariant-loop-sixteen g l =
    (string_bytes l.text ++ encode_lower l.rest ≡ string_bytes l.fn.text ++ encode_lower l.octets)
    × (string_len l.text + 2 * length l.rest ≡ string_len l.fn.text + 2 * length l.octets)
    × (string_capacity l.fn.text ≤ string_capacity l.text)

abbrev pub decreases-loop-sixteen : goal.decreases-loop-sixteen
decreases-loop-sixteen g l = length l.rest
