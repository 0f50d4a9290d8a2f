use Rattle.std.proofs.Common.{◌≡◌, ◌∙◌, ◌+◌, ◌≤◌, sym, ap, subst, arith, slice_get, Some, None, List}
use Rattle.std.specs.Option.{option_map}
use Rattle.std.specs.Ordering.{int_eq}
use Rattle.std.specs.List.{IsDistinct}
use Rattle.std.specs.Map.Iter.{deref_pair}
use Rattle.indexmap.specs.IndexMap.{with_value_at}
use Rattle.indexmap.proofs.CallerLemmas.{keys-with_value_at}
use Rattle.tcap_invocation.specs.declared.invocations.Invocation.{Invocation}
use Rattle.tcap_invocation.specs.declared.stage.Stage.{Stage}
use Rattle.tcap_invocation.specs.declared.stage.Stage.TheVariants.{Queued, Sent}
use Rattle.tcap_invocation.specs.Stage.{moment_limit, IsTimely, sent_stage}
use Rattle.tcap_invocation.specs.Invocations.{Row, sent_entry}
use Rattle.tcap_invocation.proofs.TimedLemmas.{sent_place-written, sent_place-same, sent_place-past, sent_entry-same, AreInOrder-sent_place, IsTimely-get}
use Rattle.tcap_invocation.proofs.TiedLemmas.{room-queued, IsTimed-sent_place}
use Rattle.tcap_invocation.proofs.invocations.indexed.timed.send_at.Goals as goal

pub returns-in_default-clause-rows : goal.returns-in_default-clause-rows
returns-in_default-clause-rows g c =
    let rows : List Row = c.args.entries.now.entries in
    let none : slice_get rows c.args.place ≡ None = sym c.get_index.ensures.entry ∙ ap (option_map deref_pair) c.in_default.is in
    sym (sent_place-past c.args.clock c.args.place rows none)

pub returns-in_default-stage : goal.returns-in_default-stage
returns-in_default-stage g c =
    let rows : List Row = c.args.entries.now.entries in
    let r : Row = (c.in-Some.id.now, c.in-Some.entry.now) in
    let found : slice_get rows c.args.place ≡ Some r = sym c.get_index.ensures.entry ∙ ap (option_map deref_pair) c.in-Some.is in
    record {
      rows = sym (sent_place-same c.args.clock c.args.place rows r found (sent_entry-same c.args.clock c.in-Some.entry.now c.in_default-stage.not-Queued));
      order = c.requires.order;
      distinct = c.requires.distinct;
      timed = c.requires.timed;
    }

pub overflow_add-sent : goal.overflow_add-sent
overflow_add-sent g c =
    let rows : List Row = c.args.entries.now.entries in
    let r : Row = (c.in-Some.id.now, c.in-Some.entry.now) in
    let found : slice_get rows c.args.place ≡ Some r = sym c.get_index.ensures.entry ∙ ap (option_map deref_pair) c.in-Some.is in
    let timely : IsTimely (Queued c.in-Queued.timeout) = subst IsTimely c.in-Queued.is (IsTimely-get c.args.place rows r found c.requires.order) in
    let within : c.in-Queued.timeout ≤ moment_limit = timely.1 in
    let late : c.args.clock ≤ moment_limit = c.requires.clock in
    omega (arith, within, late)

pub put_timer-requires : goal.put_timer-requires
put_timer-requires g c =
    let rows : List Row = c.args.entries.now.entries in
    let r : Row = (c.in-Some.id.now, c.in-Some.entry.now) in
    let found : slice_get rows c.args.place ≡ Some r = sym c.get_index.ensures.entry ∙ ap (option_map deref_pair) c.in-Some.is in
    room-queued rows c.args.timers.now c.args.place c.in-Queued.timeout r c.requires.timed found c.in-Queued.is

pub returns-clause-rows : goal.returns-clause-rows
returns-clause-rows g c =
    let rows : List Row = c.args.entries.now.entries in
    let r : Row = (c.in-Some.id.now, c.in-Some.entry.now) in
    let found : slice_get rows c.args.place ≡ Some r = sym c.get_index.ensures.entry ∙ ap (option_map deref_pair) c.in-Some.is in
    let stage : sent_entry c.args.clock r.1 ≡ record r.1 { stage = Sent (c.args.clock + c.in-Queued.timeout) } = ap (λ (s : Stage). record r.1 { stage = sent_stage c.args.clock s }) c.in-Queued.is in
    ap (λ (w : Invocation). (with_value_at c.args.entries.now c.args.place w).entries) (sym stage) ∙ sent_place-written c.args.entries.now c.args.clock c.args.place rows r found

pub returns-clause-order : goal.returns-clause-order
returns-clause-order g c = rw (returns-clause-rows g c) (AreInOrder-sent_place c.args.clock c.args.place c.args.entries.now.entries c.requires.clock c.requires.order)

pub returns-clause-distinct : goal.returns-clause-distinct
returns-clause-distinct g c =
    let w : Invocation = record c.in-Some.entry.now { stage = Sent (c.args.clock + c.in-Queued.timeout) } in
    subst (IsDistinct int_eq) (sym (keys-with_value_at c.args.entries.now c.args.place w)) c.requires.distinct

pub returns-clause-timed : goal.returns-clause-timed
returns-clause-timed g c =
    let rows : List Row = c.args.entries.now.entries in
    let r : Row = (c.in-Some.id.now, c.in-Some.entry.now) in
    let found : slice_get rows c.args.place ≡ Some r = sym c.get_index.ensures.entry ∙ ap (option_map deref_pair) c.in-Some.is in
    rw (returns-clause-rows g c) (IsTimed-sent_place rows c.args.timers.now c.put_timer.new.timers c.requires.timed c.put_timer.ensures.room c.args.clock c.args.place c.in-Queued.timeout r found c.in-Queued.is c.requires.order c.put_timer.ensures.timers)
