-- A station, and what an event makes of it.
use Rattle.std.specs.Prelude.{ℕ, ◌+◌, ◌-◌, ◌^◌, Bool, false, nat_lt, min, List, ◌++◌, drop, Option, Some, None}
use Rattle.tcap_engine.specs.MessageLength.{sent_length}
use Rattle.tcap_engine.specs.Running.{outputs_in}
use Rattle.tcap_model.specs.Table.EngineMove.{EngineMoved}
use Rattle.tcap_model.specs.Table.World.{World}
use Rattle.tcap_model.specs.Words.Answer.{Answer}
use Rattle.tcap_station.specs.WaitingOutput.{WaitingOutput, numbered_outputs}

-- What a contract sees of a station: the engine, what waits in order, how many events were accepted, and how
-- many octets a message of its user may have (own).
pub record StationState : Type 0 where
  pub engine : World
  pub waiting : List WaitingOutput
  pub events : ℕ
  pub max_message : ℕ

-- The number of the event after so many: they are counted up to 2^64 - 1, and no further (own).
abbrev pub following : ℕ → ℕ
following events = min (events + 1) (2 ^ 64 - 1)

-- An event is accepted: the engine is what the move says, and what is sent and told waits behind what waited
-- (own).
abbrev pub with_event : EngineMoved → StationState → StationState
with_event m s = record {
  engine = m.after;
  waiting = s.waiting ++ numbered_outputs (following s.events) (outputs_in m.answer);
  events = following s.events;
  max_message = s.max_message;
}

-- The output that comes next is taken away, if one waits (own).
abbrev pub without_first : StationState → StationState
without_first s = record s { waiting = drop 1 s.waiting }

-- ---- the length of a message

-- Whether a message has more octets than this, if there is one (own).
abbrev pub is_above : ℕ → Option ℕ → Bool
is_above most None = false
is_above most (Some count) = nat_lt most count

-- Whether the message of an answer has more octets than this (own).
abbrev pub sends_above : ℕ → Answer → Bool
sends_above most answer = is_above most (sent_length answer)
