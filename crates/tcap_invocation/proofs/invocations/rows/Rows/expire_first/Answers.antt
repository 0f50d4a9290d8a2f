use Rattle.tcap_invocation.proofs.SortedLemmas.{AreSorted-after}
use Rattle.tcap_invocation.proofs.invocations.rows.Rows.expire_first.Goals as goal

pub invariant_of-self : goal.invariant_of-self
invariant_of-self g c =
    let old = rw c.in-None.is at c.self.invariant in
    rw (c.in-None.is, c.expire_first.ensures.rows) (AreSorted-after c.args.clock c.self.inside.few.items c.expire_first.result old.0, tt)

pub invariant_of-self-in-Some : goal.invariant_of-self-in-Some
invariant_of-self-in-Some g c =
    let old = rw c.in-Some.is at c.self.invariant in
    (rw (c.expire_first-in-Some.ensures.rows, c.deref_mut.ensures.value) (AreSorted-after c.args.clock c.in-Some.many.value c.expire_first-in-Some.result old.0), old.1)
