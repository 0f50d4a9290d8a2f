use Rattle.tcap_invocation.proofs.SortedLemmas.{AreSorted-without}
use Rattle.tcap_invocation.proofs.invocations.rows.Rows.take_out.Goals as goal

pub invariant_of-self : goal.invariant_of-self
invariant_of-self g c =
    let old = rw c.in-None.is at c.self.invariant in
    rw (c.in-None.is, c.take_out.ensures) (AreSorted-without c.self.inside.few.items c.args.id.now old.0, tt)

pub invariant_of-self-in-Some : goal.invariant_of-self-in-Some
invariant_of-self-in-Some g c =
    let old = rw c.in-Some.is at c.self.invariant in
    (rw (c.take_out-in-Some.ensures, c.deref_mut.ensures.value) (AreSorted-without c.in-Some.many.value c.args.id.now old.0), old.1)
