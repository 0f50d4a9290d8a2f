use Rattle.std.proofs.Common.{◌≡◌, ◌≤◌, length, take}
use Rattle.tcap_invocation.specs.TimerList.{timers_at}
use Rattle.tcap_invocation.proofs.invocations.indexed.Indexed.of_few.Given as goal

abbrev pub invariant-loop-id : goal.invariant-loop-id
invariant-loop-id g l = record {
  taken : l.entries.entries ≡ take l.id-index l.rows;
  timers : l.timers.timers ≡ timers_at l.entries.entries;
  room : length l.rows ≤ l.timers.room;
}
