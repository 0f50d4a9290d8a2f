use Rattle.std.proofs.Common.{◌≡◌, ◌-◌, rules, tests, false, Some}
use Rattle.std.specs.Prelude.{slice_get}
use Rattle.tcap_invocation.specs.Invocations.{Row}
use Rattle.tcap_invocation.specs.Stage.{is_queued}
use Rattle.tcap_invocation.proofs.QueuedLemmas.{sent_below-first}
use Rattle.tcap_invocation.proofs.invocations.indexed.timed.first_queued.Goals as goal

pub returns-else-is_queued : goal.returns-else-is_queued
returns-else-is_queued g c = λ clock.
    let no : c.is_queued.result ≡ false = search (rules, tests) in
    let other : (r : Row) → slice_get c.args.entries.now.entries (c.loop-place.place - 1) ≡ Some r → is_queued r.1.stage ≡ false = c.is_queued.ensures no in
    sent_below-first clock c.loop-place.place c.args.entries.now.entries c.loop-place-test.true c.loop-place.invariant c.requires other
