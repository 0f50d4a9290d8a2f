use Rattle.tcap_invocation.specs.TimerList.{is_later}
use Rattle.tcap_invocation.proofs.TimerLemmas.{IsInOrder-filter}
use Rattle.tcap_invocation.proofs.invocations.timers.Timers.expire.Goals as goal

pub invariant_of-self : goal.invariant_of-self
invariant_of-self g c = rw c.take_due.ensures.timers (IsInOrder-filter (is_later c.args.clock) c.self.inside.ring.items c.self.invariant)
