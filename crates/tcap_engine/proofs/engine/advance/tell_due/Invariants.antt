use Rattle.std.proofs.Common.{◌≡◌, ◌++◌, ◌+◌, ◌≤◌, ℕ, length, vec_len, vec_capacity}
use Rattle.tcap_model.specs.Table.DueLapses.{all_told}
use Rattle.tcap_engine.specs.IdleDialogues.{ends_in, idle_ids, left_by}
use Rattle.tcap_engine.specs.Lapsing.{step_count}
use Rattle.tcap_engine.specs.DialogueEntries.{AreFrom, dialogues_of}
use Rattle.tcap_engine.proofs.engine.advance.tell_due.Given as goal

abbrev pub invariant-loop-identifier : goal.invariant-loop-identifier
invariant-loop-identifier g l = record {
  from : AreFrom 0 l.table;
  room : length (all_told l.now (dialogues_of l.table)) ≤ l.sink.places;
  whole : l.initial.sink.places + length (all_told l.now (dialogues_of l.table)) ≤ l.sink.places + length (all_told l.now (dialogues_of l.initial.table));
  space : vec_len l.idle + length (idle_ids l.now l.table) ≤ vec_capacity l.idle;
  told : l.sink.outputs ++ all_told l.now (dialogues_of l.table) ≡ l.initial.sink.outputs ++ all_told l.now (dialogues_of l.initial.table);
  idle : l.idle.items ++ idle_ids l.now l.table ≡ idle_ids l.now l.initial.table;
  ends : (id : ℕ) → ends_in l.now l.table id ≡ ends_in l.now l.initial.table id;
  left : left_by l.now (idle_ids l.now l.initial.table) l.table ≡ left_by l.now (idle_ids l.now l.initial.table) l.initial.table;
}

abbrev pub decreases-loop-identifier : goal.decreases-loop-identifier
decreases-loop-identifier g l = step_count l.now l.table
