use Rattle.std.proofs.Common.{◌≡◌, refl}
use Rattle.std.specs.Ordering.{int_eq}
use Rattle.tcap_invocation.specs.declared.invocations.Invocation.{Invocation}
use Rattle.tcap_invocation.specs.declared.stage.Stage.TheVariants.{Waiting}
use Rattle.tcap_invocation.specs.Invocations.{at_stage}
use Rattle.tcap_invocation.proofs.OrderLemmas.{AreInOrder-at_stage, entry_at-sent}
use Rattle.tcap_invocation.proofs.QueuedLemmas.{AreQueuedLast-set_value, sent-unqueued}
use Rattle.tcap_invocation.proofs.TiedLemmas.{room-sent, is_sent-at, IsTimed-at_stage}
use Rattle.tcap_invocation.proofs.invocations.indexed.timed.wait.Goals as goal

pub put_timer-requires : goal.put_timer-requires
put_timer-requires g c =
    room-sent c.args.entries.now.entries c.args.timers.now c.drop_timer.new.timers c.args.id.now c.args.entry c.requires.timed c.requires.order c.drop_timer.ensures.timers c.drop_timer.ensures.room c.requires.found

pub returns-in-Some-clause-order : goal.returns-in-Some-clause-order
returns-in-Some-clause-order g c =
    let w : Invocation = record c.args.entry { stage = Waiting c.args.until } in
    let rows : (c.get_mut.follows.lender w).entries ≡ at_stage c.args.entries.now.entries c.args.id.now c.args.entry (Waiting c.args.until) = (c.get_mut.follows.holds w).0 in
    rw rows (AreInOrder-at_stage c.args.entries.now.entries c.args.id.now c.args.entry (Waiting c.args.until) c.requires.until c.requires.found c.requires.order)

pub returns-in-Some-clause-timed : goal.returns-in-Some-clause-timed
returns-in-Some-clause-timed g c =
    let w : Invocation = record c.args.entry { stage = Waiting c.args.until } in
    let rows : (c.get_mut.follows.lender w).entries ≡ at_stage c.args.entries.now.entries c.args.id.now c.args.entry (Waiting c.args.until) = (c.get_mut.follows.holds w).0 in
    rw rows (IsTimed-at_stage c.args.entries.now.entries c.args.timers.now c.drop_timer.new.timers c.args.id.now c.args.entry c.requires.timed c.requires.order c.drop_timer.ensures.timers c.drop_timer.ensures.room c.args.until c.put_timer.new.timers c.requires.found c.put_timer.ensures.timers c.put_timer.ensures.room)

pub returns-in-Some-clause-last : goal.returns-in-Some-clause-last
returns-in-Some-clause-last g c =
    let w : Invocation = record c.args.entry { stage = Waiting c.args.until } in
    let rows : (c.get_mut.follows.lender w).entries ≡ at_stage c.args.entries.now.entries c.args.id.now c.args.entry (Waiting c.args.until) = (c.get_mut.follows.holds w).0 in
    let found = entry_at-sent c.args.entries.now.entries c.args.id.now c.args.entry c.requires.found in
    let sent = sent-unqueued c.args.entry.stage (is_sent-at c.args.entries.now.entries c.args.id.now c.args.entry c.requires.found) in
    rw rows (AreQueuedLast-set_value (int_eq c.args.id.now) w c.args.entry c.args.entries.now.entries found sent refl c.requires.last)
