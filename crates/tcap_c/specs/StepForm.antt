-- What a call does to the station that a handle keeps: its steps, and what every history says.
use Rattle.std.specs.Prelude.{◌≡◌, ◌≢◌, ℕ, Result}
use Rattle.ber_core.specs.declared.fault.OutOfMemory.{OutOfMemory}
use Rattle.tcap_model.specs.Table.EngineMove.{engine_move}
use Rattle.tcap_model.specs.Words.Answer.{Answer}
use Rattle.tcap_model.specs.Words.Event.{Event}
use Rattle.tcap_primitives.specs.declared.fault.Fault.{Fault}
use Rattle.tcap_station.specs.HistoryForm.{StandsTaken, StandsTold}
use Rattle.tcap_station.specs.Station.{StationState}
use Rattle.tcap_station.specs.StepForm.{Takes, TakesReceived, TakesWithin, outputs_of}
use Rattle.tcap_c.specs.Status.{taken_number, received_number}
use Rattle.tcap_c.specs.declared.handle.Handle.{Handle}

-- A call answers this number, and nothing has changed (own).
abbrev pub Refuses : ℕ → ℕ → Handle → Handle → Type 0
Refuses number status old new = (status ≡ number) × (new ≡ old)

-- A request is taken or refused as the station does: the number is that of its answer, and what the answer names is
-- written (own).
pub record Asked (T : Type 0) (view : T → Answer) (Writes : Result T Fault → Type 0)
    (event : Event) (status : ℕ) (old new : StationState) : Type 0 where
  pub answer : Result T Fault
  pub number : status ≡ taken_number answer
  pub writes : Writes answer
  pub moves : Takes view answer (engine_move old.engine event) old new
  pub stands : StandsTaken view answer event old new

-- The same of a request of dialogue handling: its message is within the limit (own).
pub record AskedWithin (event : Event) (status : ℕ) (old new : StationState) : Type 0 where
  pub answer : Result (Unit {0}) Fault
  pub number : status ≡ taken_number answer
  pub moves : TakesWithin answer (engine_move old.engine event) old new
  pub stands : StandsTold answer event old new

-- The same of a moment (own).
pub record Advanced (event : Event) (status : ℕ) (old new : StationState) : Type 0 where
  pub answer : Result (Unit {0}) Fault
  pub number : status ≡ taken_number answer
  pub moves : Takes (outputs_of (engine_move old.engine event)) answer (engine_move old.engine event) old new
  pub stands : StandsTold answer event old new

-- The same of octets that are received (own).
pub record Received (event : Event) (status : ℕ) (old new : StationState) : Type 0 where
  pub answer : Result (Unit {0}) OutOfMemory
  pub number : status ≡ received_number answer
  pub moves : TakesReceived answer (engine_move old.engine event) old new
  pub stands : StandsTold answer event old new

-- A moment, and then another event: where the moment is refused, its number is answered and nothing else happens
-- (own).
pub record AtMoment (Then : ℕ → StationState → StationState → Type 0) (now status : ℕ) (old new : StationState) : Type 0 where
  -- the station at the moment, and the number of its answer
  pub between : StationState
  pub moment : ℕ
  pub advanced : Advanced (Event.moment now) moment old between
  pub refused : moment ≢ 0 → (status ≡ moment) × (new ≡ between)
  pub taken : moment ≡ 0 → Then status between new
