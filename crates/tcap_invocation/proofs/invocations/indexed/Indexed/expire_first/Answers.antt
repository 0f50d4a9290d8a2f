use Rattle.std.proofs.Common.{◌≡◌, ◌∙◌, ap, sym, rules, Some}
use Rattle.std.specs.Prelude.{option_copied}
use Rattle.tcap_invocation.specs.Order.{first_of}
use Rattle.tcap_invocation.specs.TimerList.{timers_at}
use Rattle.tcap_invocation.proofs.FirstTimerLemmas.{first-has}
use Rattle.tcap_invocation.proofs.SortedLemmas.{AreSorted-without}
use Rattle.tcap_invocation.proofs.invocations.indexed.Indexed.expire_first.Goals as goal

pub take_timed-requires-clause-found : goal.take_timed-requires-clause-found
take_timed-requires-clause-found g c =
    let some : option_copied c.first.result ≡ Some c.in_ok-timer.field-0.now = search rules in
    let first : first_of (timers_at c.self.inside.entries.entries) ≡ Some c.in_ok-timer.field-0.now = sym (ap first_of c.self.invariant.1.timers) ∙ sym c.first.ensures ∙ some in
    first-has c.self.inside.entries.entries c.in_ok-timer.field-0.now c.self.invariant.0.distinct first

pub invariant_of-self : goal.invariant_of-self
invariant_of-self g c =
    (rw c.take_timed.ensures.rows (AreSorted-without c.self.inside.entries.entries c.in_ok-timer.field-0.now.id c.self.invariant.0), c.take_timed.ensures.timed)
