use Rattle.std.proofs.Common.{◌≡◌, ◌≤◌, drop}
use Rattle.ber_core.specs.Length.{number_after}
use Rattle.ber_core.proofs.head.number.Given as goal

abbrev pub invariant-loop-octet : goal.invariant-loop-octet
invariant-loop-octet l = (l.value ≤ 65535) × (number_after l.value (drop l.octet-index l.octets) ≡ number_after 0 l.octets)
