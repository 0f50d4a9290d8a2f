use Rattle.tcap_invocation.specs.TimerList.{is_kept}
use Rattle.tcap_invocation.proofs.TimerLemmas.{IsInOrder-filter}
use Rattle.tcap_invocation.proofs.invocations.timers.Timers.end_waits.Goals as goal

pub invariant_of-self : goal.invariant_of-self
invariant_of-self g c = rw c.take_over.ensures.timers (IsInOrder-filter (is_kept c.args.clock) c.self.inside.ring.items c.self.invariant)
