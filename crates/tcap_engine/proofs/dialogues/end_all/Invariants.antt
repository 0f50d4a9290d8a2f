use Rattle.std.proofs.Common.{◌≡◌, ◌≤◌, ◌++◌, drop, length}
use Rattle.std.specs.List.{flat_map}
use Rattle.tcap_engine.specs.IdleDialogues.{AreDistinct, idle_end_in, without_all}
use Rattle.tcap_engine.specs.DialogueEntries.{AreFrom}
use Rattle.tcap_engine.proofs.dialogues.end_all.Given as goal

abbrev pub invariant-loop-identifier : goal.invariant-loop-identifier
invariant-loop-identifier g l = record {
  told : l.sink.outputs ++ flat_map (idle_end_in l.table) (drop l.identifier-index l.ids) ≡ l.initial.sink.outputs ++ flat_map (idle_end_in l.initial.table) l.ids;
  room : length (flat_map (idle_end_in l.table) (drop l.identifier-index l.ids)) ≤ l.sink.places;
  left : without_all (drop l.identifier-index l.ids) l.table ≡ without_all l.ids l.initial.table;
  from : AreFrom 0 l.table;
  apart : AreDistinct (drop l.identifier-index l.ids);
}
