use Rattle.tcap_invocation.proofs.SortedLemmas.{AreSorted-empty}
use Rattle.tcap_invocation.proofs.invocations.rows.Rows.clear.Goals as goal

pub invariant_of-self : goal.invariant_of-self
invariant_of-self g c = rw (c.in-None.is, c.clear.ensures.items) (AreSorted-empty, tt)

pub invariant_of-self-in-Some : goal.invariant_of-self-in-Some
invariant_of-self-in-Some g c =
    let old = rw c.in-Some.is at c.self.invariant in
    (rw c.clear-in-Some.ensures AreSorted-empty, old.1)
