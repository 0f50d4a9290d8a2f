-- Moves of an engine with one rule turned, and where each of them shows.
use Rattle.std.specs.Prelude.{◌≡◌, ◌+◌, Bool, true, false, [], ◌∷◌, flat_map, is_some, map, None, Option, Some}
use Rattle.tcap_examples.specs.Histories.EngineWalks.{begun_engine, both_lapsed, both_sent, end_to_1, full_abort}
use Rattle.tcap_examples.specs.Histories.EngineWalks.{full_engine, none_left, peer_begins}
use Rattle.tcap_model.specs.Procedures.Reception.{Reception, reception}
use Rattle.tcap_model.specs.Table.Dialogue.{Dialogue}
use Rattle.tcap_model.specs.Table.DueLapses.{all_told, at_moment, due_in, due_key, due_told}
use Rattle.tcap_model.specs.Table.EngineMove.{EngineMoved, advanced, birth_fault_in, dialogue_in, engine_move}
use Rattle.tcap_model.specs.Table.EngineMove.{is_live_in, received_in}
use Rattle.tcap_model.specs.Table.World.{World}
use Rattle.tcap_model.specs.Words.Answer.{Answer}
use Rattle.tcap_model.specs.Words.Address.{Address}
use Rattle.tcap_model.specs.Words.Event.{Event}
use Rattle.tcap_model.specs.Words.KeyOrder.{in_order}
use Rattle.tcap_model.specs.Words.Output.{DropCause, Output}
use Rattle.tcap_model.specs.Words.State.{State}
use Rattle.tcap_examples.specs.Values.Peer.{arrived}

-- What an engine does to an event (own).
abbrev pub Move : Type 0
Move = World → Event → EngineMoved

-- An event at which the engine's move is the stated one, and a turned one isn't (own).
pub record Shows (turned : Move) (before : World) (event : Event) (stated : EngineMoved) : Type 0 where
  pub is_right : engine_move before event ≡ stated
  pub is_turned : turned before event ≡ stated → ⊥

-- ---- lapses dialogue by dialogue

-- At a moment each dialogue tells its lapses in order, one dialogue after the other (own).
abbrev pub by_dialogue : Move
by_dialogue w Event.new_dialogue = engine_move w Event.new_dialogue
by_dialogue w (Event.on_dialogue identifier request) = engine_move w (Event.on_dialogue identifier request)
by_dialogue w (Event.received from bytes) = engine_move w (Event.received from bytes)
by_dialogue w (Event.moment now) = record (advanced w now) {
  answer = Answer.outputs (map due_told (flat_map (λ d. in_order due_key (due_in now d)) w.dialogues));
}

-- The lapse of the second dialogue has the earlier deadline (own).
abbrev pub told_in_order : EngineMoved
told_in_order = record { answer = Answer.outputs both_lapsed; after = none_left }

-- ---- what is free before it is told

-- At a moment the dialogues change first, and what is due then is told (own).
abbrev pub freed_first : Move
freed_first w Event.new_dialogue = engine_move w Event.new_dialogue
freed_first w (Event.on_dialogue identifier request) = engine_move w (Event.on_dialogue identifier request)
freed_first w (Event.received from bytes) = engine_move w (Event.received from bytes)
freed_first w (Event.moment now) =
    record (advanced w now) { answer = Answer.outputs (all_told now (map (at_moment now) w.dialogues)) }

-- ---- an identifier that is drawn at the limit

-- Bytes that are aborted draw an identifier, as an accepted Begin does (own).
abbrev pub drawn_for : World → Address → Reception → EngineMoved
drawn_for w from (Reception.aborted answer) =
    received_in (record w { next_dialogue = w.next_dialogue + 1 }) from (Reception.aborted answer)
drawn_for w from (Reception.dropped why) = received_in w from (Reception.dropped why)
drawn_for w from (Reception.unidirectional context info components) =
    received_in w from (Reception.unidirectional context info components)
drawn_for w from (Reception.begun origin context info components) =
    received_in w from (Reception.begun origin context info components)
drawn_for w from (Reception.taken identifier message) = received_in w from (Reception.taken identifier message)
drawn_for w from (Reception.broken identifier answer cause) = received_in w from (Reception.broken identifier answer cause)

-- An engine that draws one for each Begin, be it accepted or aborted (own).
abbrev pub drawing_early : Move
drawing_early w Event.new_dialogue = engine_move w Event.new_dialogue
drawing_early w (Event.on_dialogue identifier request) = engine_move w (Event.on_dialogue identifier request)
drawing_early w (Event.received from bytes) =
    drawn_for w from (reception (is_live_in w.dialogues) (is_some (birth_fault_in w)) bytes)
drawing_early w (Event.moment now) = engine_move w (Event.moment now)

-- A Begin at the limit is aborted, and the engine is as it was (own).
abbrev pub not_drawn : EngineMoved
not_drawn = record { answer = Answer.outputs (full_abort ∷ []); after = full_engine }

-- ---- a dialogue in Initiation Received that takes messages

-- Whether a dialogue has a peer that may write to it (own).
abbrev pub has_peer : State → Bool
has_peer State.fresh = false
has_peer State.sent = true
has_peer (State.received peer) = true
has_peer (State.active peer) = true

-- Whether a dialogue has a peer that may write to it, if it stands (own).
abbrev pub has_peer_if_any : Option Dialogue → Bool
has_peer_if_any None = false
has_peer_if_any (Some d) = has_peer d.standing.state

-- An engine in which each dialogue with a peer is live (own).
abbrev pub hearing_early : Move
hearing_early w Event.new_dialogue = engine_move w Event.new_dialogue
hearing_early w (Event.on_dialogue identifier request) = engine_move w (Event.on_dialogue identifier request)
hearing_early w (Event.received from bytes) =
    received_in w from (reception (λ identifier. has_peer_if_any (dialogue_in identifier w.dialogues))
    (is_some (birth_fault_in w)) bytes)
hearing_early w (Event.moment now) = engine_move w (Event.moment now)

-- An End to a dialogue in Initiation Received is dropped, and the dialogue stands (own).
abbrev pub not_ended : EngineMoved
not_ended = record { answer = Answer.outputs (Output.dropped DropCause.no_dialogue ∷ []); after = begun_engine }

-- ---- where they show

-- Each turned rule shows at one event of the walks (own).
abbrev pub ByDialogueShows : Type 0
ByDialogueShows = Shows by_dialogue both_sent (Event.moment 20) told_in_order

-- What is due is told before its row is gone (own).
abbrev pub FreedFirstShows : Type 0
FreedFirstShows = Shows freed_first both_sent (Event.moment 20) told_in_order

-- The next identifier stays (own).
abbrev pub DrawingEarlyShows : Type 0
DrawingEarlyShows = Shows drawing_early full_engine (arrived peer_begins) not_drawn

-- The dialogue stays (own).
abbrev pub HearingEarlyShows : Type 0
HearingEarlyShows = Shows hearing_early begun_engine (arrived end_to_1) not_ended
