use Rattle.std.proofs.Common.{◌≡◌, ◌+◌, ◌≤◌, ◌++◌, length, drop, vec_len, vec_capacity}
use Rattle.ber_core.proofs.put.push_each.Given as goal

abbrev pub invariant-loop-octet : goal.invariant-loop-octet
invariant-loop-octet g l =
    (l.out.items ++ drop l.octet-index l.octets ≡ l.fn.out.items ++ l.octets)
    × (vec_len l.out + length l.octets ≤ vec_capacity l.out + l.octet-index)
