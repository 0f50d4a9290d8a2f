-- What a call of an engine says of any history at which the engine stands.
use Rattle.std.specs.Prelude.{◌≡◌, ℕ, Result, Ok, Err}
use Rattle.ber_core.specs.declared.fault.OutOfMemory.{OutOfMemory}
use Rattle.tcap_primitives.specs.declared.fault.Fault.{Fault}
use Rattle.tcap_primitives.specs.FaultViews.{fault_view}
use Rattle.tcap_model.specs.Histories.History.{History}
use Rattle.tcap_model.specs.Replies.Reply.{reply}
use Rattle.tcap_model.specs.Statements.EngineMoves.{with_pair}
use Rattle.tcap_model.specs.Statements.Headline.{Bounded, Counted, Decided, HasOutcome, PlainlyDecided}
use Rattle.tcap_model.specs.Table.World.{World, StandsAt}
use Rattle.tcap_model.specs.Words.Answer.{Answer}
use Rattle.tcap_model.specs.Words.Event.{Event}
use Rattle.tcap_model.specs.Words.Fault as model

-- Of each number: its closing indications are those that its decision asks for, which are none where it
-- has no outcome, and else exactly one, in the answer to the event that decided it; they tell its outcome,
-- and are at most one, and exactly one after its deadline or the end of its dialogue; and the engine
-- keeps within its bounds (own).
pub record Headline (h : History) : Type 0 where
  pub decided : (n : ℕ) → Decided h n
  pub plainly : (n : ℕ) → PlainlyDecided h n
  pub outcome : (n : ℕ) → HasOutcome h n
  pub counted : (n : ℕ) → Counted h n
  pub bounded : Bounded h

-- The answer to an event after a history is the reply; the engine then stands at the history with the
-- event's pair, and the headline holds there (own).
pub record StandsOn (h : History) (event : Event) (answer : Answer) (engine : World) : Type 0 where
  pub is_reply : answer ≡ reply h event
  pub stands : StandsAt (with_pair h event) engine
  pub headline : Headline (with_pair h event)

-- A request was refused: the refusal is the reply, and the engine stands at the history with it. Where
-- memory was refused nothing happened, and it stands at the history still (own).
abbrev pub StandsRefused : model.Fault → History → Event → World → Type 0
StandsRefused model.Fault.out_of_memory h event engine = StandsAt h engine
StandsRefused f h event engine = StandsOn h event (Answer.refused f) engine

-- An answer, or a refusal, is the reply to the event, and the engine stands at the history with it (own).
abbrev pub StandsAfter : {T : Type 0} → (T → Answer) → Result T Fault → History → Event → World → Type 0
StandsAfter view (Ok x) h event engine = StandsOn h event (view x) engine
StandsAfter view (Err f) h event engine = StandsRefused (fault_view f) h event engine

-- Whatever history an engine stood at, it stands so after a call (own).
abbrev pub Stands : {T : Type 0} → (T → Answer) → Result T Fault → Event → World → World → Type 0
Stands view result event old new = (h : History) → StandsAt h old → StandsAfter view result h event new

-- The answer to received bytes is the reply, and the engine stands at the history with it. Bytes are never
-- refused; where memory was, the engine stands at the history still (own).
abbrev pub ReceivedOn : {T : Type 0} → (T → Answer) → Result T OutOfMemory → History → Event → World → Type 0
ReceivedOn view (Ok x) h event engine = StandsOn h event (view x) engine
ReceivedOn view (Err refused) h event engine = StandsAt h engine

-- Whatever history an engine stood at, it stands so after bytes were received (own).
abbrev pub StandsReceived : {T : Type 0} → (T → Answer) → Result T OutOfMemory → Event → World → World → Type 0
StandsReceived view result event old new = (h : History) → StandsAt h old → ReceivedOn view result h event new
