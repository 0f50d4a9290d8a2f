use Rattle.std.proofs.Common.{◌≡◌, ◌++◌, ◌∷◌, [], rules}
use Rattle.std.proofs.lemmas.Int.{to_z-of_z}
use Rattle.std.specs.Int.{w8}
use Rattle.tcap_invocation.specs.Rows.{AreSorted, IsNew}
use Rattle.tcap_invocation.proofs.SortedLemmas.{AreSorted-push, AreSorted-pushed}
use Rattle.tcap_invocation.proofs.invocations.rows.Rows.push.Goals as goal

pub invariant_of-self : goal.invariant_of-self
invariant_of-self g c =
    let old = rw c.in-Some.is at c.self.invariant in
    let sorted : AreSorted c.deref_mut.result.now = rw c.deref_mut.ensures.value old.0 in
    let fresh : IsNew c.deref_mut.result.now c.args.id c.args.entry = search rules in
    (AreSorted-pushed _ c.deref_mut.result.now c.push.new.self c.args.id c.args.entry (rw (to_z-of_z w8 c.args.id c.ranges.id) at c.push.ensures.ok) c.push.ensures.err fresh sorted, old.1)

pub invariant_of-self-then-len-lt-FEW : goal.invariant_of-self-then-len-lt-FEW
invariant_of-self-then-len-lt-FEW g c =
    let old = rw c.in-None.is at c.self.invariant in
    let fresh : IsNew c.self.inside.few.items c.args.id c.args.entry = search rules in
    rw c.in-None.is (AreSorted-pushed c.push-in-None.result c.self.inside.few.items c.push-in-None.new.rows.items c.args.id c.args.entry (rw (to_z-of_z w8 c.args.id c.ranges.id) at c.push-in-None.ensures.ok) c.push-in-None.ensures.err fresh old.0, tt)

pub invariant_of-self-in-None-2 : goal.invariant_of-self-in-None-2
invariant_of-self-in-None-2 g c =
    let old = rw c.in-None.is at c.self.invariant in
    let fresh : IsNew c.self.inside.few.items c.args.id c.args.entry = search rules in
    let new : c.in_ok-indexed_with-in-None-2.field-0.value ≡ c.self.inside.few.items ++ (c.args.id, c.args.entry) ∷ [] = search rules in
    (rw new (AreSorted-push c.self.inside.few.items c.args.id c.args.entry fresh old.0), c.new.ensures.items)
