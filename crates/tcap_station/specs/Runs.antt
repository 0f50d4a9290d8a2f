-- What happens to a station, call by call.
use Rattle.std.specs.Prelude.{◌≡◌, ℕ, true, List, [], ◌∷◌, ◌++◌}
use Rattle.std.specs.List.{AllByRecursion}
use Rattle.tcap_engine.specs.Running.{after_events, engine_run, replies, outputs_in}
use Rattle.tcap_model.specs.Histories.History.{History}
use Rattle.tcap_model.specs.Table.EngineMove.{engine_move}
use Rattle.tcap_model.specs.Table.World.{StandsAt}
use Rattle.tcap_model.specs.Words.Answer.{Answer, is_accepted}
use Rattle.tcap_model.specs.Words.Event.{Event}
use Rattle.tcap_model.specs.Words.InRange.{InRange}
use Rattle.tcap_station.specs.Station.{StationState, following, with_event, without_first}
use Rattle.tcap_station.specs.WaitingOutput.{WaitingOutput, numbered_outputs}

-- From one station to another, with what was taken from the front in order, and the events that were accepted: an
-- event is accepted; an output is taken; or a call is refused, and nothing changes (own).
pub data Run (first : StationState) : List WaitingOutput → List Event → StationState → Type 0 where
  begins : Run first [] [] first
  accepts : (taken : List WaitingOutput) (events : List Event) (s : StationState) (event : Event)
      → Run first taken events s → is_accepted (engine_move s.engine event).answer ≡ true
      → Run first taken (events ++ event ∷ []) (with_event (engine_move s.engine event) s)
  takes : (taken : List WaitingOutput) (events : List Event) (s : StationState) (w : WaitingOutput)
      (rest : List WaitingOutput) → Run first taken events s → s.waiting ≡ w ∷ rest
      → Run first (taken ++ w ∷ []) events (without_first s)
  refuses : (taken : List WaitingOutput) (events : List Event) (s : StationState)
      → Run first taken events s → Run first taken events s

-- What answers to events send and tell, each output with the number of its event, where so many events came before
-- (own).
abbrev pub all_numbered : ℕ → List Answer → List WaitingOutput
all_numbered before [] = []
all_numbered before (answer ∷ answers) =
    numbered_outputs (following before) (outputs_in answer) ++ all_numbered (following before) answers

-- How many events were accepted after so many, where these are their answers (own).
abbrev pub count_after : ℕ → List Answer → ℕ
count_after before [] = before
count_after before (answer ∷ answers) = count_after (following before) answers

-- After a run from a station at which nothing waits: what was taken and then what waits is what the engine's
-- answers to the accepted events send and tell, the engine is what it is after those events, and they are counted
-- (own).
pub record IsTakenOnce (first : StationState) (taken : List WaitingOutput) (events : List Event) (s : StationState) : Type 0 where
  pub in_order : taken ++ s.waiting ≡ all_numbered first.events (engine_run first.engine events).answers
  pub engine : s.engine ≡ (engine_run first.engine events).after
  pub counted : s.events ≡ count_after first.events (engine_run first.engine events).answers

-- It is so of every run (own).
abbrev pub EachIsTakenOnce : Type 0
EachIsTakenOnce =
    (first : StationState) (taken : List WaitingOutput) (events : List Event) (s : StationState)
    → first.waiting ≡ [] → Run first taken events s → IsTakenOnce first taken events s

-- The numbers of all events are those that their types hold, as those of all calls are (own).
abbrev pub AreInRange : List Event → Type 0
AreInRange events = AllByRecursion InRange events

-- The same of a history at which the engine stood at first: what was taken and then what waits is what the replies to
-- the accepted events send and tell, and the engine stands at the history with these events (own).
pub record IsTakenAfter (h : History) (first : StationState) (taken : List WaitingOutput) (events : List Event) (s : StationState) : Type 0 where
  pub in_order : taken ++ s.waiting ≡ all_numbered first.events (replies h events)
  pub stands : StandsAt (after_events h events) s.engine

-- It is so of every run and every such history (own).
abbrev pub EachIsTakenAfter : Type 0
EachIsTakenAfter =
    (h : History) (first : StationState) (taken : List WaitingOutput) (events : List Event) (s : StationState)
    → first.waiting ≡ [] → StandsAt h first.engine → AreInRange events → Run first taken events s
    → IsTakenAfter h first taken events s
