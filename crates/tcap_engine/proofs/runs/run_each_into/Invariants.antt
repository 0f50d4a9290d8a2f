use Rattle.std.proofs.Common.{take}
use Rattle.tcap_engine.specs.EventViews.{events_view}
use Rattle.tcap_engine.specs.Running.{RunsInto, StandsThroughInto}
use Rattle.tcap_model.specs.Histories.History.{History}
use Rattle.tcap_model.specs.Table.World.{StandsAt}
use Rattle.tcap_engine.proofs.runs.run_each_into.Given as goal

abbrev pub invariant-loop-done : goal.invariant-loop-done
invariant-loop-done g l = record {
  moves : RunsInto l.initial.engine (take l.done (events_view l.events)) l.engine l.initial.outbox.outputs l.outbox.outputs;
  stands : (h : History) → StandsAt h l.initial.engine → StandsThroughInto h (take l.done (events_view l.events)) l.engine l.initial.outbox.outputs l.outbox.outputs;
}
