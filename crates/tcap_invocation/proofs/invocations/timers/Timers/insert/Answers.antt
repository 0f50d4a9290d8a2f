use Rattle.tcap_invocation.proofs.TimerLemmas.{IsInOrder-put}
use Rattle.tcap_invocation.proofs.invocations.timers.Timers.insert.Goals as goal

pub invariant_of-self : goal.invariant_of-self
invariant_of-self g c = rw c.put.ensures.timers (IsInOrder-put c.args.timer c.self.inside.ring.items c.self.invariant)
