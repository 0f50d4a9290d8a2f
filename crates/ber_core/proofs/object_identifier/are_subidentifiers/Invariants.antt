use Rattle.std.proofs.Common.{◌≡◌, true, drop}
use Rattle.ber_core.specs.ObjectIdentifier.{subidentifiers_at}
use Rattle.ber_core.proofs.object_identifier.are_subidentifiers.Given as goal

abbrev pub invariant-loop-octet : goal.invariant-loop-octet
invariant-loop-octet l = subidentifiers_at l.begins (drop l.octet-index l.content) ≡ subidentifiers_at true l.content
