-- What a call of a station says of any history at which its engine stands.
use Rattle.std.specs.Prelude.{◌≡◌, ◌++◌, Result, Ok, Err}
use Rattle.tcap_engine.specs.HistoryForm.{Headline}
use Rattle.tcap_model.specs.Histories.History.{History}
use Rattle.tcap_model.specs.Replies.Reply.{reply}
use Rattle.tcap_model.specs.Statements.EngineMoves.{with_pair}
use Rattle.tcap_model.specs.Table.World.{StandsAt}
use Rattle.tcap_model.specs.Words.Answer.{Answer}
use Rattle.tcap_model.specs.Words.Event.{Event}
use Rattle.tcap_station.specs.Station.{StationState}
use Rattle.tcap_station.specs.WaitingOutput.{numbered_outputs}
use Rattle.tcap_engine.specs.Running.{outputs_in}

-- The answer to an event after a history is the reply: what it sends and tells waits behind what waited. The
-- engine then stands at the history with the event's pair, and the headline holds there (own).
pub record TakenOn (h : History) (event : Event) (answer : Answer) (old new : StationState) : Type 0 where
  pub is_reply : answer ≡ reply h event
  pub waits : new.waiting ≡ old.waiting ++ numbered_outputs new.events (outputs_in (reply h event))
  pub stands : StandsAt (with_pair h event) new.engine
  pub headline : Headline (with_pair h event)

-- An answer is the reply to the event; a refused event leaves the engine at the history (own).
abbrev pub TakenAfter : {T E : Type 0} → (T → Answer) → Result T E → History → Event → StationState → StationState → Type 0
TakenAfter view (Ok x) h event old new = TakenOn h event (view x) old new
TakenAfter view (Err refused) h event old new = StandsAt h new.engine

-- Whatever history the engine stood at, it stands so after a call (own).
abbrev pub StandsTaken : {T E : Type 0} → (T → Answer) → Result T E → Event → StationState → StationState → Type 0
StandsTaken view result event old new = (h : History) → StandsAt h old.engine → TakenAfter view result h event old new

-- What is sent and told in the reply (own).
abbrev pub reply_outputs : {T : Type 0} → History → Event → T → Answer
reply_outputs h event _ = Answer.outputs (outputs_in (reply h event))

-- The same of a call whose answer is what is sent and told (own).
abbrev pub StandsTold : {T E : Type 0} → Result T E → Event → StationState → StationState → Type 0
StandsTold result event old new =
    (h : History) → StandsAt h old.engine → TakenAfter (reply_outputs h event) result h event old new
