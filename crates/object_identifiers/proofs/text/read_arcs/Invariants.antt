use Rattle.std.proofs.Common.{◌≡◌, drop}
use Rattle.object_identifiers.specs.TextReading.{arcs_at, arcs_from}
use Rattle.object_identifiers.proofs.text.read_arcs.Given as goal

abbrev pub invariant-loop-character : goal.invariant-loop-character
invariant-loop-character l = arcs_from l.arcs.items l.number (drop l.character-index l.text) ≡ arcs_at l.text
