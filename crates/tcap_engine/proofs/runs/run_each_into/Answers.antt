use Rattle.std.proofs.Common.{◌≡◌, ◌∙◌, ◌+◌, ◌++◌, ◌∷◌, [], false, take, List, subst, sym}
use Rattle.std.specs.Result.{is_err}
use Rattle.tcap_engine.specs.EventViews.{event_view, events_view}
use Rattle.tcap_engine.specs.Running.{MayWant, RunsInto, StandsThroughInto, after_events}
use Rattle.tcap_engine.proofs.RunIntoLemmas.{ends-behind, into-next, none-into, none-through-into, through-into-next}
use Rattle.tcap_engine.proofs.RunLemmas.{one-more}
use Rattle.tcap_model.specs.Table.EngineMove.{engine_move}
use Rattle.tcap_model.specs.Words.Event.{Event}
use Rattle.tcap_engine.proofs.runs.run_each_into.Goals as goal

pub loop-done-init : goal.loop-done-init
loop-done-init g c = record {
  moves = none-into c.args.engine.now c.args.outbox.now.outputs;
  stands = λ h at. none-through-into h c.args.engine.now c.args.outbox.now.outputs at;
}

pub loop-done-preserved : goal.loop-done-preserved
loop-done-preserved g c =
    let loop = c.loop-done in
    let one = c.handle_into.ensures in
    let es = take loop.done (events_view c.args.events.now) in
    let e = event_view c.index-events-done.result in
    let new = c.handle_into.new.self in
    let before = c.args.outbox.now.outputs in
    let between = loop.outbox.outputs in
    let after = c.handle_into.new.outbox.outputs in
    let ok : is_err c.handle_into.result ≡ false = sym c.is_err.ensures.value ∙ c.if-is_err.false in
    let more : take (loop.done + 1) (events_view c.args.events.now) ≡ es ++ e ∷ [] = one-more event_view c.args.events.now loop.done c.index-events-done.result c.loop-done-test.true c.index-events-done.is in
    record {
      moves = subst (λ (xs : List Event). RunsInto c.args.engine.now xs new before after) (sym more)
          (into-next c.args.engine.now es e loop.engine new before between after c.handle_into.result ok loop.invariant.moves one.kept one.told one.moves);
      stands = λ h at.
          let through : StandsThroughInto h es loop.engine before between = loop.invariant.stands h at in
          subst (λ (xs : List Event). StandsThroughInto h xs new before after) (sym more)
          (through-into-next h es e loop.engine new before between after c.handle_into.result ok through one.kept one.told (one.stands (after_events h es) through.stands));
    }

pub returns-clause-memory : goal.returns-clause-memory
returns-clause-memory g c = ends-behind (λ (event : Event). MayWant event (engine_move c.loop-done.engine event).answer) event_view c.args.events.now
