use Rattle.tcap_invocation.proofs.SortedLemmas.{AreSorted-sent}
use Rattle.tcap_invocation.proofs.invocations.rows.Rows.send_queued.Goals as goal

pub invariant_of-self : goal.invariant_of-self
invariant_of-self g c =
    let old = rw c.in-None.is at c.self.invariant in
    rw (c.in-None.is, c.send_queued.ensures) (AreSorted-sent c.args.clock c.self.inside.few.items c.requires old.0, tt)

pub invariant_of-self-in-Some : goal.invariant_of-self-in-Some
invariant_of-self-in-Some g c =
    let old = rw c.in-Some.is at c.self.invariant in
    (rw (c.send_queued-in-Some.ensures, c.deref_mut.ensures.value) (AreSorted-sent c.args.clock c.in-Some.many.value c.requires old.0), old.1)
