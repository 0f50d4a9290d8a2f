use Rattle.std.proofs.Common.{◌≡◌, ◌≤◌, [], length, drop}
use Rattle.object_identifiers.specs.Contents.{numbers_from}
use Rattle.object_identifiers.proofs.contents.numbers_of.Given as goal

abbrev pub invariant-loop-octet : goal.invariant-loop-octet
invariant-loop-octet l = record {
  read : numbers_from l.numbers.items l.number (drop l.octet-index l.octets) ≡ numbers_from [] 0 l.octets;
  has_room : length l.numbers.items ≤ l.octet-index;
}
