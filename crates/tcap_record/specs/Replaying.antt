-- A log of events, handed to an engine.
use Rattle.std.specs.Prelude.{◌≡◌, ℕ, ◌+◌, ◌-◌, ◌^◌, ◌<◌, List, ◌++◌, length}
use Rattle.tcap_engine.specs.Running.{MayWant, engine_run, after_events}
use Rattle.tcap_model.specs.Histories.History.{History}
use Rattle.tcap_model.specs.Statements.EngineMoves.{with_pair}
use Rattle.tcap_model.specs.Table.EngineMove.{engine_move}
use Rattle.tcap_model.specs.Table.World.{World, StandsAt}
use Rattle.tcap_model.specs.Words.Event.{Event}
use Rattle.tcap_record.specs.declared.fault.ReplayFault.{ReplayFault}
use Rattle.tcap_record.specs.declared.fault.ReplayFault.TheVariants as faults
use Rattle.tcap_record.specs.declared.replaying.Stop.{Stop}
use Rattle.tcap_record.specs.declared.replaying.Stop.TheVariants as stops
use Rattle.tcap_record.specs.Records.{record_of, log_of, HasRecord, AllHaveRecords, DamagedFirst}

-- ---- one event

-- An event was handed to an engine: it is what the event makes of it, and whatever history it stood at, it
-- stands at the history with the event and its reply (own).
pub record HandedOn (event : Event) (old new : World) : Type 0 where
  pub moved : new ≡ (engine_move old event).after
  pub stands : (h : History) → StandsAt h old → StandsAt (with_pair h event) new

-- The first record of a log was replayed, and this follows it (own).
pub record ReplayedOne (log rest : List ℕ) (old new : World) : Type 0 where
  pub event : Event
  pub has_record : HasRecord event
  pub is_log : log ≡ record_of event ++ rest
  pub handed_on : HandedOn event old new

-- The record of an event stands first in a log, and memory may be refused to it: the engine doesn't refuse it, and
-- keeps or tells something (own).
pub record WantsFirst (log : List ℕ) (engine : World) : Type 0 where
  pub event : Event
  pub behind : List ℕ
  pub has_record : HasRecord event
  pub is_log : log ≡ record_of event ++ behind
  pub may_want : MayWant event (engine_move engine event).answer

-- The first record of a log was not replayed, and the engine is as it was: memory was refused to its event, or the
-- octets stop beginning a record at this place (own).
abbrev pub StopsStep : Stop → List ℕ → World → World → Type 0
StopsStep stops.OutOfMemory log old new = (new ≡ old) × WantsFirst log old
StopsStep (stops.Damaged offset) log old new = (new ≡ old) × DamagedFirst log offset

-- ---- a log

-- A log begins with the records of so many events, and this follows them; the engine is what it is after these events,
-- and whatever history it stood at, it stands at the history with them and their replies (own).
pub record Replayed (log : List ℕ) (count : ℕ) (rest : List ℕ) (old new : World) : Type 0 where
  pub events : List Event
  pub are_so_many : length events ≡ count
  pub have_records : AllHaveRecords events
  pub is_log : log ≡ log_of events ++ rest
  pub moved : new ≡ (engine_run old events).after
  pub stands : (h : History) → StandsAt h old → StandsAt (after_events h events) new

-- Where a replay stops: behind so many events stands the record of one to which memory was refused; or octets stand
-- there that are no record from this place of the log on (own).
abbrev pub StopsReplay : ReplayFault → List ℕ → World → World → Type 0
StopsReplay (faults.OutOfMemory done) log old new =
    (rest : List ℕ) × Replayed log done rest old new × WantsFirst rest new
StopsReplay (faults.Damaged done place) log old new =
    (rest : List ℕ) × Replayed log done rest old new × (0 < length rest)
    × ((offset : ℕ) × (place ≡ (length log - length rest) + offset) × DamagedFirst rest offset)

-- ---- the fault of a step as that of a log

-- The place of a step's fault in a log whose octets from this place on were read is a number of 64 bits (own).
abbrev pub PlaceFits : Stop → ℕ → Type 0
PlaceFits stops.OutOfMemory begin = Unit {0}
PlaceFits (stops.Damaged offset) begin = begin + offset < 2 ^ 64

-- Why a replay stops behind so many events, where the octets behind them begin at this place (own).
abbrev pub fault_from : Stop → ℕ → ℕ → ReplayFault
fault_from stops.OutOfMemory done begin = faults.OutOfMemory done
fault_from (stops.Damaged offset) done begin = faults.Damaged done (begin + offset)
