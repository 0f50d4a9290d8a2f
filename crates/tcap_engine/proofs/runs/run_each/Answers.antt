use Rattle.std.proofs.Common.{rules, arith, ◌≡◌, ◌+◌, ◌++◌, ◌∷◌, [], take, List, subst, sym}
use Rattle.tcap_engine.specs.EventViews.{answers_view, event_view, events_view}
use Rattle.tcap_engine.specs.Running.{Runs, StandsThrough, after_events}
use Rattle.tcap_engine.proofs.RunLemmas.{none-run, none-through, runs-more, through-more, through-so-far, one-more}
use Rattle.tcap_model.specs.Words.Event.{Event}
use Rattle.tcap_engine.proofs.runs.run_each.Goals as goal

pub loop-event-init : goal.loop-event-init
loop-event-init g c = record {
  count = search rules;
  moves = none-run c.args.engine.now (answers_view c.args.answers.now.items);
  stands = λ h at. none-through h c.args.engine.now (answers_view c.args.answers.now.items) at;
}

pub returns-in_err-answer_one-clause-stands : goal.returns-in_err-answer_one-clause-stands
returns-in_err-answer_one-clause-stands g c = λ h at.
    let loop = c.loop-event in
    let before = c.args.answers.now.items in
    rw (c.in_err-answer_one.ensures.engine, c.in_err-answer_one.ensures.answers)
    (through-so-far h (events_view c.args.events.now) loop.event-index before loop.answers.items loop.engine
    (answers_view before) (answers_view loop.answers.items) loop.invariant.count (loop.invariant.stands h at))

pub loop-event-preserved : goal.loop-event-preserved
loop-event-preserved g c =
    let loop = c.loop-event in
    let one = c.in_ok-answer_one.ensures in
    let es = take loop.event-index (events_view c.args.events.now) in
    let e = event_view c.event-item.result in
    let new = c.answer_one.new.engine in
    let before = answers_view c.args.answers.now.items in
    let between = answers_view loop.answers.items in
    let after = answers_view c.answer_one.new.answers.items in
    let more : take (loop.event-index + 1) (events_view c.args.events.now) ≡ es ++ e ∷ [] = one-more event_view c.args.events.now loop.event-index c.event-item.result c.loop-event-test.true c.event-item.is in
    record {
      count = omega (arith, one.ok, loop.invariant.count);
      moves = subst (λ (xs : List Event). Runs c.args.engine.now xs new before after) (sym more)
          (runs-more c.args.engine.now es (e ∷ []) loop.engine new before between after loop.invariant.moves one.moves);
      stands = λ h at.
          let through : StandsThrough h es loop.engine before between = loop.invariant.stands h at in
          subst (λ (xs : List Event). StandsThrough h xs new before after) (sym more)
          (through-more h es (e ∷ []) loop.engine new before between after through (one.stands (after_events h es) through.stands));
    }
