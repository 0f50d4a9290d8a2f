use Rattle.std.proofs.Common.{◌≡◌}
use Rattle.std.specs.List.{IsDistinct}
use Rattle.std.specs.Map.{keys_of}
use Rattle.std.specs.Ordering.{int_eq}
use Rattle.tcap_invocation.specs.Invocations.{AreInOrder}
use Rattle.tcap_invocation.specs.TimerList.{IsTimed, sent_below}
use Rattle.tcap_invocation.proofs.invocations.indexed.timed.send_queued.Given as goal

abbrev pub invariant-loop-place : goal.invariant-loop-place
invariant-loop-place g l = record {
  rows : l.entries.entries ≡ sent_below l.clock l.place l.fn.entries.entries;
  order : AreInOrder l.entries.entries;
  distinct : IsDistinct int_eq (keys_of l.entries.entries);
  timed : IsTimed l.entries.entries l.timers;
}
