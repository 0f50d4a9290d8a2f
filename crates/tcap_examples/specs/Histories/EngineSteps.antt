-- Histories that the engine's move runs through, event by event.
use Rattle.std.specs.Prelude.{◌≡◌, List, [], ◌∷◌}
use Rattle.tcap_examples.specs.Histories.Steps.{Step, Walk, after_step, nothing_happened}
use Rattle.tcap_examples.specs.Histories.Worked.{Worked}
use Rattle.tcap_model.specs.Histories.History.{History, Start}
use Rattle.tcap_model.specs.Histories.Pair.{Pair, Past}
use Rattle.tcap_model.specs.Replies.Reply.{reply}
use Rattle.tcap_model.specs.Table.EngineMove.{EngineMoved, engine_move}
use Rattle.tcap_model.specs.Table.World.{World, world_of}

-- What is stated of a step: its answer, and the engine after it (own).
abbrev pub stated : Step → EngineMoved
stated step = record { answer = step.answer; after = step.after }

-- The engine moves so; the reply is its answer, and the engine after it is the one at the history with
-- this step (own).
pub record IsMove (h : History) (before : World) (step : Step) : Type 0 where
  pub moves : engine_move before step.event ≡ stated step
  pub is_reply : reply h step.event ≡ step.answer
  pub is_world : world_of (after_step h step) ≡ step.after

-- Each step is such a move, from where the step before it leads (own).
abbrev pub AreMoves : History → World → List Step → Type 0
AreMoves h before [] = Unit {0}
AreMoves h before (step ∷ steps) = IsMove h before step × AreMoves (after_step h step) step.after steps

-- The engine at the start is the one that is written, and it moves from step to step (own).
pub record RunsThrough (w : Walk) : Type 0 where
  pub begins : world_of (nothing_happened w.start) ≡ w.before
  pub goes : AreMoves (nothing_happened w.start) w.before w.steps

-- The engine at a history (own).
abbrev pub engine_at : Start → Past → World
engine_at start past = world_of (record { start = start; pairs = past })

-- The step that a pair of a history makes (own).
abbrev pub step_at : Start → Pair → Past → Step
step_at start pair past = record { event = pair.event; answer = pair.answer; after = engine_at start (pair ∷ past) }

-- At each pair of a worked history the engine there moves to the engine with that pair (own).
abbrev pub RunsAlong : Start → Past → Type 0
RunsAlong start [] = Unit {0}
RunsAlong start (pair ∷ past) =
    (engine_move (engine_at start past) pair.event ≡ stated (step_at start pair past)) × RunsAlong start past

-- The engine runs along a worked history (own).
abbrev pub Runs : Worked → Type 0
Runs w = RunsAlong w.history.start w.history.pairs
