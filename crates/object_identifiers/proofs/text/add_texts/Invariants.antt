use Rattle.std.proofs.Common.{◌≡◌, ◌≤◌, ◌+◌, ◌-◌, ◌*◌, ◌++◌, length, drop}
use Rattle.std.specs.List.{flat_map}
use Rattle.arrayvec.specs.ArrayString.{array_string_len}
use Rattle.object_identifiers.specs.Arcs.{tail_text}
use Rattle.object_identifiers.proofs.text.add_texts.Given as goal

abbrev pub invariant-loop-arc : goal.invariant-loop-arc
invariant-loop-arc l = record {
  written : l.text.bytes ++ flat_map tail_text (drop l.arc-index l.arcs) ≡ l.initial.text.bytes ++ flat_map tail_text l.arcs;
  has_room : array_string_len l.text + 11 * (length l.arcs - l.arc-index) ≤ 2816;
}
