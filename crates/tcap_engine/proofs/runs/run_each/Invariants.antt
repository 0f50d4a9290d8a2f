use Rattle.std.proofs.Common.{◌≡◌, ◌+◌, length, take}
use Rattle.tcap_engine.specs.EventViews.{answers_view, events_view}
use Rattle.tcap_engine.specs.Running.{Runs, StandsThrough}
use Rattle.tcap_model.specs.Histories.History.{History}
use Rattle.tcap_model.specs.Table.World.{StandsAt}
use Rattle.tcap_engine.proofs.runs.run_each.Given as goal

abbrev pub invariant-loop-event : goal.invariant-loop-event
invariant-loop-event g l = record {
  count : length l.answers.items ≡ length l.initial.answers.items + l.event-index;
  moves : Runs l.initial.engine (take l.event-index (events_view l.events)) l.engine (answers_view l.initial.answers.items) (answers_view l.answers.items);
  stands : (h : History) → StandsAt h l.initial.engine → StandsThrough h (take l.event-index (events_view l.events)) l.engine (answers_view l.initial.answers.items) (answers_view l.answers.items);
}
