use Rattle.tcap_invocation.proofs.SortedLemmas.{AreSorted-filter}
use Rattle.tcap_invocation.proofs.invocations.rows.Rows.free_due.Goals as goal

pub invariant_of-self : goal.invariant_of-self
invariant_of-self g c =
    let old = rw c.in-None.is at c.self.invariant in
    rw (c.in-None.is, c.free_due.ensures) (AreSorted-filter _ c.self.inside.few.items old.0, tt)

pub invariant_of-self-in-Some : goal.invariant_of-self-in-Some
invariant_of-self-in-Some g c =
    let old = rw c.in-Some.is at c.self.invariant in
    (rw (c.free_due-in-Some.ensures, c.deref_mut.ensures.value) (AreSorted-filter _ c.in-Some.many.value old.0), old.1)
