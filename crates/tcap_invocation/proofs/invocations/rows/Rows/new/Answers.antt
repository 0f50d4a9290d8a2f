use Rattle.tcap_invocation.proofs.SortedLemmas.{AreSorted-empty}
use Rattle.tcap_invocation.proofs.invocations.rows.Rows.new.Goals as goal

pub invariant_of-result : goal.invariant_of-result
invariant_of-result g c = (rw c.new.ensures.items AreSorted-empty, tt)
