use Rattle.std.proofs.Common.{◌≡◌}
use Rattle.tcap_invocation.specs.Invocations.{AreInOrder}
use Rattle.tcap_invocation.specs.TimerList.{sent_below}
use Rattle.tcap_invocation.proofs.invocations.few.send_queued.Given as goal

abbrev pub invariant-loop-place : goal.invariant-loop-place
invariant-loop-place g l = record {
  rows : l.rows.items ≡ sent_below l.clock l.place l.fn.rows.items;
  order : AreInOrder l.rows.items;
}
