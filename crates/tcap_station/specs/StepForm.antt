-- What a call of a station does, beside what the engine's move says.
use Rattle.std.specs.Prelude.{◌≡◌, ◌⊎◌, ℕ, true, false, Result, Ok, Err, IsTrue}
use Rattle.ber_core.specs.declared.fault.OutOfMemory.{OutOfMemory}
use Rattle.tcap_dialogue.specs.RequestForm.{takes_memory}
use Rattle.tcap_model.specs.Table.EngineMove.{EngineMoved}
use Rattle.tcap_model.specs.Words.Answer.{Answer}
use Rattle.tcap_model.specs.Words.Fault as model
use Rattle.tcap_primitives.specs.FaultViews.{fault_view}
use Rattle.tcap_primitives.specs.declared.fault.Fault.{Fault}
use Rattle.tcap_station.specs.Station.{StationState, with_event, sends_above}
use Rattle.tcap_engine.specs.Running.{outputs_in}

-- The outputs of the move's answer (own).
abbrev pub outputs_of : {T : Type 0} → EngineMoved → T → Answer
outputs_of m _ = Answer.outputs (outputs_in m.answer)

-- A refusal is the one that the move gives; `OutOfMemory` comes only where the move's answer takes memory (own).
abbrev pub IsRefusal : model.Fault → Answer → Type 0
IsRefusal model.Fault.out_of_memory answer = IsTrue (takes_memory answer)
IsRefusal f answer = answer ≡ Answer.refused f

-- The answer is the move's, and the event is accepted; or it is refused, and nothing has changed (own).
abbrev pub Takes : {T : Type 0} → (T → Answer) → Result T Fault → EngineMoved → StationState → StationState → Type 0
Takes view (Ok x) m old new = (view x ≡ m.answer) × (new ≡ with_event m old)
Takes view (Err f) m old new = (new ≡ old) × IsRefusal (fault_view f) m.answer

-- Bytes are accepted, or memory was refused, and nothing has changed (own).
abbrev pub TakesReceived : {T : Type 0} → Result T OutOfMemory → EngineMoved → StationState → StationState → Type 0
TakesReceived (Ok x) m old new = (outputs_of m x ≡ m.answer) × (new ≡ with_event m old)
TakesReceived (Err refused) m old new = new ≡ old

-- A request of dialogue handling that the move accepts is `TooLong` where its message has more octets than a message
-- may have, and `OutOfMemory` only where it has not and something is sent or told (own).
abbrev pub IsLimited : ℕ → model.Fault → Answer → Type 0
IsLimited most model.Fault.out_of_memory answer = IsTrue (takes_memory answer) × (sends_above most answer ≡ false)
IsLimited most model.Fault.too_long answer = sends_above most answer ≡ true
IsLimited most f answer = ⊥

-- It is refused as the move refuses it, or for its limit or for memory where the move accepts it (own).
abbrev pub IsRefusalWithin : ℕ → model.Fault → Answer → Type 0
IsRefusalWithin most f answer = (answer ≡ Answer.refused f) ⊎ IsLimited most f answer

-- A request of dialogue handling is accepted, and its message has no more octets than a message may have; or it is
-- refused, and nothing has changed (own).
abbrev pub TakesWithin : {T : Type 0} → Result T Fault → EngineMoved → StationState → StationState → Type 0
TakesWithin (Ok x) m old new =
    (sends_above old.max_message m.answer ≡ false) × (outputs_of m x ≡ m.answer) × (new ≡ with_event m old)
TakesWithin (Err f) m old new = (new ≡ old) × IsRefusalWithin old.max_message (fault_view f) m.answer
