use Rattle.std.proofs.Common.{◌≡◌, subst, Option}
use Rattle.tcap_invocation.specs.declared.invocations.timers.Timer.{Timer}
use Rattle.tcap_invocation.specs.TimerList.{put_timer}
use Rattle.tcap_invocation.proofs.TiedLemmas.{IsTimed-without}
use Rattle.tcap_invocation.proofs.invocations.indexed.timed.take_timed.Goals as goal

pub returns-clause-timed : goal.returns-clause-timed
returns-clause-timed g c =
    let has = c.requires.found in
    rw c.shift_remove.ensures.entries (IsTimed-without c.args.entries.now.entries c.args.timers.now c.remove.new.self c.args.timer.id has.entry c.requires.timed c.requires.order
    (λ rest is. c.remove.ensures.timers rest (subst (λ (o : Option Timer). c.args.timers.now.timers ≡ put_timer o rest) has.own is)) c.remove.ensures.room has.found)
