-- What an engine answers to events, one after the other.
use Rattle.std.specs.Prelude.{◌≡◌, ◌-◌, List, [], ◌∷◌, ◌++◌, length, take, drop, flat_map, IsTrue}
use Rattle.tcap_dialogue.specs.RequestForm.{takes_memory}
use Rattle.tcap_engine.specs.HistoryForm.{Headline}
use Rattle.tcap_model.specs.Histories.History.{History}
use Rattle.tcap_model.specs.Replies.Reply.{reply}
use Rattle.tcap_model.specs.Statements.EngineMoves.{with_pair}
use Rattle.tcap_model.specs.Table.EngineMove.{engine_move}
use Rattle.tcap_model.specs.Table.World.{World, StandsAt}
use Rattle.tcap_model.specs.Words.Answer.{Answer}
use Rattle.tcap_model.specs.Words.Event.{Event}
use Rattle.tcap_model.specs.Words.Output.{Output}

-- Memory may be refused where bytes are received, and else only where the answer takes memory (own).
abbrev pub MayWant : Event → Answer → Type 0
MayWant Event.new_dialogue answer = IsTrue (takes_memory answer)
MayWant (Event.on_dialogue dialogue request) answer = IsTrue (takes_memory answer)
MayWant (Event.received from bytes) answer = Unit {0}
MayWant (Event.moment now) answer = IsTrue (takes_memory answer)

-- The events that were done: each has left one answer more (own).
abbrev pub done : {X : Type 0} → List X → List X → List Event → List Event
done old new events = take (length new - length old) events

-- The answers that were appended to some (own).
abbrev pub new_answers : List Answer → List Answer → List Answer
new_answers before after = drop (length before) after

-- The outputs of an answer; an answer of any other kind has none (own).
abbrev pub outputs_in : Answer → List Output
outputs_in (Answer.new_dialogue dialogue) = []
outputs_in (Answer.number number) = []
outputs_in Answer.done = []
outputs_in (Answer.given_up number) = []
outputs_in (Answer.outputs outputs) = outputs
outputs_in (Answer.refused fault) = []

-- The outputs of answers, one after the other (own).
abbrev pub all_outputs : List Answer → List Output
all_outputs answers = flat_map outputs_in answers

-- ---- step form

-- The answers to events, one for each, and the engine after them (own).
pub record EngineRan : Type 0 where
  pub answers : List Answer
  pub after : World

-- An answer, and those to the events that follow (own).
abbrev pub answered_first : Answer → EngineRan → EngineRan
answered_first answer ran = record { answers = answer ∷ ran.answers; after = ran.after }

-- What an engine answers to events, one after the other, and what it is after them (own).
abbrev pub engine_run : World → List Event → EngineRan
engine_run w [] = record { answers = []; after = w }
engine_run w (event ∷ events) =
    answered_first (engine_move w event).answer (engine_run (engine_move w event).after events)

-- These events were done: their answers stand after those that stood there, and the engine is what it is
-- after them (own).
pub record Runs (old : World) (events : List Event) (new : World) (before after : List Answer) : Type 0 where
  pub answered : after ≡ before ++ (engine_run old events).answers
  pub moved : new ≡ (engine_run old events).after

-- These events were done: what their answers tell stands behind what was there, and the engine is what it is after
-- them (own).
pub record RunsInto (old : World) (events : List Event) (new : World) (before after : List Output) : Type 0 where
  pub told : after ≡ before ++ all_outputs (engine_run old events).answers
  pub moved : new ≡ (engine_run old events).after

-- ---- history form

-- A history with events more, each with the answer that is due to it (own).
abbrev pub after_events : History → List Event → History
after_events h [] = h
after_events h (event ∷ events) = after_events (with_pair h event) events

-- What is answered to events after a history (own).
abbrev pub replies : History → List Event → List Answer
replies h [] = []
replies h (event ∷ events) = reply h event ∷ replies (with_pair h event) events

-- These events were done after a history: the answers that are new are the replies; the engine then
-- stands at the history with the events' pairs, and the headline holds there (own).
pub record StandsThrough (h : History) (events : List Event) (new : World) (before after : List Answer) : Type 0 where
  pub are_replies : after ≡ before ++ replies h events
  pub stands : StandsAt (after_events h events) new
  pub headline : Headline (after_events h events)

-- These events were done after a history: what is new is what the replies tell; the engine then stands at the
-- history with the events' pairs, and the headline holds there (own).
pub record StandsThroughInto (h : History) (events : List Event) (new : World) (before after : List Output) : Type 0 where
  pub are_told : after ≡ before ++ all_outputs (replies h events)
  pub stands : StandsAt (after_events h events) new
  pub headline : Headline (after_events h events)
