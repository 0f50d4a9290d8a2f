use Rattle.std.specs.Ordering.{int_eq}
use Rattle.tcap_invocation.proofs.OrderLemmas.{AreInOrder-remove_entry}
use Rattle.tcap_invocation.proofs.QueuedLemmas.{AreQueuedLast-remove_entry}
use Rattle.tcap_invocation.proofs.TiedLemmas.{IsTimed-without}
use Rattle.tcap_invocation.proofs.invocations.indexed.timed.take_out.Goals as goal

pub returns-clause-order : goal.returns-clause-order
returns-clause-order g c = rw c.shift_remove.ensures.entries (AreInOrder-remove_entry (int_eq c.args.id.now) c.args.entries.now.entries c.requires.order)

pub returns-clause-timed : goal.returns-clause-timed
returns-clause-timed g c =
    rw c.shift_remove.ensures.entries (IsTimed-without c.args.entries.now.entries c.args.timers.now c.drop_timer.new.timers c.args.id.now c.args.entry.now c.requires.timed c.requires.order c.drop_timer.ensures.timers c.drop_timer.ensures.room c.requires.found)

pub returns-clause-last : goal.returns-clause-last
returns-clause-last g c = rw c.shift_remove.ensures.entries (AreQueuedLast-remove_entry (int_eq c.args.id.now) c.args.entries.now.entries c.requires.last)
