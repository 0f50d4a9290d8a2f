use Rattle.std.proofs.Common.{◌≡◌, ◌≤◌, ◌<◌, length, drop}
use Rattle.object_identifiers.specs.Contents.{subidentifier, high_onto}
use Rattle.object_identifiers.proofs.SubidentifierLemmas.{room}
use Rattle.object_identifiers.proofs.contents.add_subidentifier.Given as goal

abbrev pub invariant-loop-rest : goal.invariant-loop-rest
invariant-loop-rest l = record {
  five : length l.series ≡ 5;
  within : l.first ≤ 4;
  fits : l.rest < room l.first;
  written : high_onto l.rest l.rest (drop l.first l.series) ≡ subidentifier l.number;
}

abbrev pub decreases-loop-rest : goal.decreases-loop-rest
decreases-loop-rest l = l.rest
