use Rattle.std.proofs.Common.{◌≡◌, ◌+◌, ◌-◌, ◌^◌, ◌≤◌, min}
use Rattle.std.specs.List.{sum_by}
use Rattle.tcap_engine.proofs.RoomLemmas.{idle_weight, moment_weight}
use Rattle.tcap_engine.proofs.dialogues.Dialogues.capacity_at.Given as goal
use Rattle.timed_table.specs.Due.{due_rows_left}

abbrev pub invariant-loop-dialogue : goal.invariant-loop-dialogue
invariant-loop-dialogue g l = record {
  fits : l.told ≤ 2 ^ 64 - 1;
  rest : min (l.told + sum_by (moment_weight l.now) (due_rows_left l.dialogue-iterator)) (2 ^ 64 - 1) ≡ min (sum_by (moment_weight l.now) (due_rows_left l.initial.dialogue-iterator)) (2 ^ 64 - 1);
  idle_fits : l.idle ≤ 2 ^ 64 - 1;
  idle_rest : min (l.idle + sum_by (idle_weight l.now) (due_rows_left l.dialogue-iterator)) (2 ^ 64 - 1) ≡ min (sum_by (idle_weight l.now) (due_rows_left l.initial.dialogue-iterator)) (2 ^ 64 - 1);
}
