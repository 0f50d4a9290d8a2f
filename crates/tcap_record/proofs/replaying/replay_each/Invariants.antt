use Rattle.std.proofs.Common.{◌≡◌, ◌<◌, ◌^◌, length}
use Rattle.tcap_record.specs.Replaying.{Replayed}
use Rattle.tcap_record.proofs.replaying.replay_each.Given as goal

abbrev pub invariant-loop-rest : goal.invariant-loop-rest
invariant-loop-rest g l = record {
  replayed : Replayed l.log l.done l.rest l.initial.engine l.engine;
  total : l.total ≡ length l.log;
  fits : length l.log < 2 ^ 64;
}

abbrev pub decreases-loop-rest : goal.decreases-loop-rest
decreases-loop-rest g l = length l.rest
