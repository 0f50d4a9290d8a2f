use Rattle.std.proofs.Common.{◌∙◌, sym, subst, arith}
use Rattle.tcap_invocation.specs.TimerList.{AreQueuedLast}
use Rattle.tcap_invocation.proofs.QueuedLemmas.{AreQueuedLast-sent_rows}
use Rattle.tcap_invocation.proofs.TimedLemmas.{sent_below-all}
use Rattle.tcap_invocation.proofs.invocations.indexed.timed.send_queued.Goals as goal

pub returns-clause-rows : goal.returns-clause-rows
returns-clause-rows g c =
    let long = c.len-place-end.ensures.len in
    let past = c.loop-place-test.false in
    c.loop-place.invariant.rows ∙ sent_below-all c.args.clock c.loop-place.place c.args.entries.now.entries (omega (arith, long, past))

pub returns-clause-last : goal.returns-clause-last
returns-clause-last g c = subst AreQueuedLast (sym (returns-clause-rows g c)) (AreQueuedLast-sent_rows c.args.clock c.args.entries.now.entries)
