use Rattle.std.proofs.Common.{◌≡◌, ◌<◌, refl, arith, rules, add-one, length, slice_get, Some}
use Rattle.std.proofs.lemmas.Option.{slice_get_read}
use Rattle.tcap_invocation.specs.Invocations.{Row}
use Rattle.tcap_invocation.proofs.FirstTimerLemmas.{first-step, first-all}
use Rattle.tcap_invocation.proofs.invocations.few.first_timer.Goals as goal

pub loop-place-preserved : goal.loop-place-preserved
loop-place-preserved g c =
    let rows = c.args.rows.now.items in
    let r : Row = c.index.result.now in
    let within : c.loop-place.place < length rows = search (rules, arith) in
    let at : slice_get rows c.loop-place.place ≡ Some r = slice_get_read rows (length rows) c.loop-place.place r refl within c.index.ensures in
    rw (add-one, c.nearer-first.ensures) (first-step rows c.loop-place.place c.loop-place.first r c.loop-place.invariant at)

pub returns : goal.returns
returns g c = first-all c.args.rows.now.items c.loop-place.place c.loop-place.first c.requires (search (rules, arith)) c.loop-place.invariant
