use Rattle.std.proofs.Common.{◌≡◌, ◌∙◌, ◌<◌, ◌≤◌, ap, sym, refl, subst, arith, add-one, length, slice_get, Some, List}
use Rattle.std.proofs.lemmas.Option.{slice_get_read}
use Rattle.tcap_invocation.specs.declared.stage.Stage.TheVariants.{Queued}
use Rattle.tcap_invocation.specs.Stage.{moment_limit, IsTimely}
use Rattle.tcap_invocation.specs.Invocations.{Row, AreInOrder}
use Rattle.tcap_invocation.specs.TimerList.{sent_place}
use Rattle.tcap_invocation.proofs.FewLemmas.{sent_place-set, length-sent_below}
use Rattle.tcap_invocation.proofs.TimedLemmas.{sent_below-all, sent_place-same, sent_entry-same, AreInOrder-sent_place, IsTimely-get}
use Rattle.tcap_invocation.proofs.invocations.few.send_queued.Goals as goal
use Rattle.tcap_invocation.proofs.invocations.few.send_queued.Goals.{in-Queued, in_default}

pub overflow_add-clock : goal.overflow_add-clock
overflow_add-clock g c =
    let rows : List Row = c.loop-place.rows.items in
    let r : Row = c.index.result.now in
    let same = ap length c.loop-place.invariant.rows in
    let kept = length-sent_below c.args.clock c.loop-place.place c.args.rows.now.items in
    let within : c.loop-place.place < length rows = omega (arith, same, kept) in
    let at : slice_get rows c.loop-place.place ≡ Some r = slice_get_read rows (length rows) c.loop-place.place r refl within c.index.ensures in
    let timely : IsTimely (Queued c.in-Queued.timeout) = subst IsTimely c.in-Queued.is (IsTimely-get c.loop-place.place rows r at c.loop-place.invariant.order) in
    let short : c.in-Queued.timeout ≤ moment_limit = timely.1 in
    let late : c.args.clock ≤ moment_limit = c.requires.clock in
    omega (arith, short, late)

pub loop-place-preserved : goal.loop-place-preserved
loop-place-preserved g c =
    let rows : List Row = c.loop-place.rows.items in
    let r : Row = c.index.result.now in
    let same = ap length c.loop-place.invariant.rows in
    let kept = length-sent_below c.args.clock c.loop-place.place c.args.rows.now.items in
    let within : c.loop-place.place < length rows = omega (arith, same, kept) in
    let at : slice_get rows c.loop-place.place ≡ Some r = slice_get_read rows (length rows) c.loop-place.place r refl within c.index.ensures in
    let new : c.match-index.rows.items ≡ sent_place c.args.clock c.loop-place.place rows =
    elim c.match-index.branch [
      | in-Queued w ↦ ap (λ v. v.items) w.rows-is ∙ sent_place-set c.args.clock c.loop-place.place w.in-Queued.timeout rows r w.index_mut.result.now c.index.ensures w.index_mut.ensures.value within w.in-Queued.is
      | in_default w ↦ ap (λ v. v.items) w.rows-is ∙ sym (sent_place-same c.args.clock c.loop-place.place rows r at (sent_entry-same c.args.clock r.1 w.in_default.not-Queued))
    ] in
    record {
      rows = rw add-one (new ∙ ap (sent_place c.args.clock c.loop-place.place) c.loop-place.invariant.rows);
      order = subst AreInOrder (sym new) (AreInOrder-sent_place c.args.clock c.loop-place.place rows c.requires.clock c.loop-place.invariant.order);
    }

pub returns : goal.returns
returns g c =
    let long = c.len-place-end.ensures in
    let past = c.loop-place-test.false in
    let own = c.args.rows.now.ok.0 in
    c.loop-place.invariant.rows ∙ sent_below-all c.args.clock c.loop-place.place c.args.rows.now.items (omega (arith, long, past, own))
