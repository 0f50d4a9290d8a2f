-- Two calls of an engine, one after the other.
use Rattle.std.proofs.Common.{IfOk, Result, Ok, Err}
use Rattle.ber_core.specs.declared.fault.OutOfMemory.{OutOfMemory}
use Rattle.tcap_primitives.specs.declared.fault.Fault.{Fault}
use Rattle.tcap_engine.specs.HistoryForm.{StandsOn, Stands, StandsReceived}
use Rattle.tcap_model.specs.Histories.History.{History}
use Rattle.tcap_model.specs.Statements.EngineMoves.{with_pair}
use Rattle.tcap_model.specs.Table.World.{World, StandsAt}
use Rattle.tcap_model.specs.Words.Answer.{Answer}
use Rattle.tcap_model.specs.Words.Event.{Event}

-- Where neither bytes nor a request were refused, the engine stands at the history with both.
pub stands_on_both : {T U : Type 0} → (told : T → Answer) (asked : U → Answer) (first : Result T OutOfMemory) (second : Result U Fault) (heard event : Event) (old between new : World)
    → StandsReceived told first heard old between → Stands asked second event between new
    → (h : History) → StandsAt h old → IfOk first (λ _. IfOk second (λ x. StandsOn (with_pair h heard) event (asked x) new))
stands_on_both told asked (Err f) second heard event old between new one two h at = tt
stands_on_both told asked (Ok x) (Err f) heard event old between new one two h at = tt
stands_on_both told asked (Ok x) (Ok y) heard event old between new one two h at = two (with_pair h heard) (one h at).stands
