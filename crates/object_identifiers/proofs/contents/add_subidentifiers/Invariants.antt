use Rattle.std.proofs.Common.{◌≡◌, ◌≤◌, ◌++◌, drop, length}
use Rattle.std.specs.List.{flat_map}
use Rattle.object_identifiers.specs.Contents.{fitting, subidentifier}
use Rattle.object_identifiers.proofs.contents.add_subidentifiers.Given as goal

abbrev pub invariant-loop-number : goal.invariant-loop-number
invariant-loop-number l = record {
  written : fitting (l.octets.items ++ flat_map subidentifier (drop l.number-index l.numbers)) ≡ fitting (l.initial.octets.items ++ flat_map subidentifier l.numbers);
  short : length l.octets.items ≤ 255;
}
