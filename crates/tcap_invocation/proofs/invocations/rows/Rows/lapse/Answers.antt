use Rattle.tcap_invocation.specs.Rows.{AreSorted}
use Rattle.tcap_invocation.proofs.SortedLemmas.{AreSorted-lapsed}
use Rattle.tcap_invocation.proofs.invocations.rows.Rows.lapse.Goals as goal

pub invariant_of-self : goal.invariant_of-self
invariant_of-self g c =
    let old = rw c.in-None.is at c.self.invariant in
    rw c.in-None.is (AreSorted-lapsed c.lapse.result _ c.self.inside.few.items c.lapse.new.rows.items c.lapse.ensures.rows c.lapse.ensures.err old.0, tt)

pub invariant_of-self-in-Some : goal.invariant_of-self-in-Some
invariant_of-self-in-Some g c =
    let old = rw c.in-Some.is at c.self.invariant in
    let sorted : AreSorted c.deref_mut.result.now = rw c.deref_mut.ensures.value old.0 in
    (AreSorted-lapsed c.lapse-in-Some.result _ c.deref_mut.result.now c.lapse-in-Some.new.self c.lapse-in-Some.ensures.rows c.lapse-in-Some.ensures.err sorted, old.1)

pub returns-in-None-clause-rows : goal.returns-in-None-clause-rows
returns-in-None-clause-rows g c = rw (← c.self.view_is, c.in-None.is) c.lapse.ensures.rows
