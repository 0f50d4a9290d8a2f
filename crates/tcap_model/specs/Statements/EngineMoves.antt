-- The engine's move against the history: what is to be proved of every event.
use Rattle.std.specs.Prelude.{◌≡◌, ◌∷◌}
use Rattle.tcap_model.specs.Histories.History.{History}
use Rattle.tcap_model.specs.Replies.Legal.{IsLegal}
use Rattle.tcap_model.specs.Replies.Reply.{reply}
use Rattle.tcap_model.specs.Table.Agreement.{due_pair}
use Rattle.tcap_model.specs.Table.EngineMove.{EngineMoved, engine_move}
use Rattle.tcap_model.specs.Table.World.{World, StandsAt, world_of}
use Rattle.tcap_model.specs.Words.Event.{Event}
use Rattle.tcap_model.specs.Words.InRange.{InRange}

-- A history with one event more, and the answer that is due to it (own).
abbrev pub with_pair : History → Event → History
with_pair h event = record h { pairs = due_pair h event ∷ h.pairs }

-- To an event after a history the answer is the reply, and the engine then stands at the history with
-- the event's pair (own).
pub record MovesAlike (h : History) (event : Event) (moved : EngineMoved) : Type 0 where
  pub answers : moved.answer ≡ reply h event
  pub stands : StandsAt (with_pair h event) moved.after

-- What the history says of an event: the reply, and the engine at the history with its pair (own).
abbrev pub moved_at : History → Event → EngineMoved
moved_at h event = record { answer = reply h event; after = world_of (with_pair h event) }

-- An engine that stands at a history answers each event as the history says, and stands at the history
-- with its pair then (own).
abbrev pub EachMovesAlike : Type 0
EachMovesAlike =
    (h : History) (engine : World) (event : Event) → StandsAt h engine → InRange event
    → MovesAlike h event (engine_move engine event)

-- What an engine does to each event is what the history says, as one equation, at the engine that a legal
-- history gives (own).
abbrev pub EachMoveIsSaid : Type 0
EachMoveIsSaid =
    (h : History) (event : Event) → IsLegal h → InRange event → engine_move (world_of h) event ≡ moved_at h event
