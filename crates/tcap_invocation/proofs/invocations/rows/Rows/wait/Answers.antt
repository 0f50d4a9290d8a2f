use Rattle.std.proofs.Common.{◌≡◌, Some, rules}
use Rattle.tcap_invocation.specs.Invocations.{sent_at}
use Rattle.tcap_invocation.proofs.SortedLemmas.{AreSorted-waiting}
use Rattle.tcap_invocation.proofs.invocations.rows.Rows.wait.Goals as goal

pub invariant_of-self : goal.invariant_of-self
invariant_of-self g c =
    let old = rw c.in-None.is at c.self.invariant in
    let sent : sent_at c.self.inside.few.items c.args.id.now ≡ Some c.args.entry = search rules in
    rw (c.in-None.is, c.set_stage.ensures) (AreSorted-waiting c.self.inside.few.items c.args.id.now c.args.entry c.args.until c.requires.until sent old.0, tt)

pub invariant_of-self-in-Some : goal.invariant_of-self-in-Some
invariant_of-self-in-Some g c =
    let old = rw c.in-Some.is at c.self.invariant in
    let sent : sent_at c.in-Some.many.value c.args.id.now ≡ Some c.args.entry = search rules in
    (rw (c.wait.ensures, c.deref_mut.ensures.value) (AreSorted-waiting c.in-Some.many.value c.args.id.now c.args.entry c.args.until c.requires.until sent old.0), old.1)
