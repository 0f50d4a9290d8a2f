-- What a dialogue answers to a request of any kind, beside what the table says.
use Rattle.std.specs.Prelude.{◌≡◌, ℕ, ◌<◌, ◌^◌, ◌-◌, List, Some, Result, Ok, Err}
use Rattle.tcap_invocation.specs.Invocations.{Row, AllBelow}
use Rattle.tcap_model.specs.Table.Dialogue as model
use Rattle.tcap_model.specs.Words.Answer.{Answer}
use Rattle.tcap_model.specs.Words.Output.{Output}
use Rattle.tcap_model.specs.Words.Request.{Request, ComponentRequest}
use Rattle.tcap_dialogue.specs.declared.dialogue.requests.Accepted.{Accepted}
use Rattle.tcap_dialogue.specs.declared.dialogue.requests.Accepted.TheVariants as accepted
use Rattle.tcap_dialogue.specs.declared.dialogue.requests.Asked.{Asked}
use Rattle.tcap_dialogue.specs.declared.dialogue.requests.Asked.TheVariants as asked
use Rattle.tcap_primitives.specs.declared.fault.Fault.{Fault}
use Rattle.tcap_dialogue.specs.RequestForm.{RefusedBy}
use Rattle.tcap_primitives.specs.FaultViews.{fault_view}
use Rattle.tcap_primitives.specs.SinkViews.{KeepsOutputs, told_since}
use Rattle.tcap_dialogue.specs.StepViews.{Outcome, stepped, told_outcome}

-- An Invoke gets a number that is left and above all that the dialogue had; no other request gets one
-- (own).
abbrev pub IsNumbered : ℕ → List Row → Request → Type 0
IsNumbered number rows (Request.component (ComponentRequest.invoke id class code parameter linked timeout)) =
    (number < 2 ^ 64 - 1) × AllBelow number rows
IsNumbered number rows (Request.component (ComponentRequest.result_last id body)) = Unit {0}
IsNumbered number rows (Request.component (ComponentRequest.result_more id body)) = Unit {0}
IsNumbered number rows (Request.component (ComponentRequest.error_back id code parameter)) = Unit {0}
IsNumbered number rows (Request.component (ComponentRequest.u_reject id problem)) = Unit {0}
IsNumbered number rows (Request.component (ComponentRequest.u_cancel id)) = Unit {0}
IsNumbered number rows (Request.dialogue request) = Unit {0}

-- What was answered, where the dialogue is then this one (own).
abbrev pub asked_view : {A : Type 0} → Asked A → model.Dialogue → Outcome
asked_view (asked.Number number) d = (Answer.number number, Some d)
asked_view asked.Done d = (Answer.done, Some d)
asked_view (asked.GivenUp number) d = (Answer.given_up number, Some d)
asked_view (asked.Step step) d = stepped step d

-- An answer is the one that the table gives and the dialogue what it says, or the refusal is (own).
abbrev pub Asks : {A : Type 0} → Result (Asked A) Fault → Outcome → model.Dialogue → model.Dialogue → Type 0
Asks (Ok a) o old new = asked_view a new ≡ o
Asks (Err f) o old new = RefusedBy (fault_view f) o old new

-- What was answered to an accepted request, where this was told and the dialogue is then this one (own).
abbrev pub accepted_outcome : List Output → Accepted → model.Dialogue → Outcome
accepted_outcome told (accepted.Number number) d = (Answer.number number, Some d)
accepted_outcome told accepted.Done d = (Answer.done, Some d)
accepted_outcome told (accepted.GivenUp number) d = (Answer.given_up number, Some d)
accepted_outcome told (accepted.Step over) d = told_outcome told over d

-- A request of dialogue handling appends to the outputs what it tells, any other nothing (own).
abbrev pub Appends : Accepted → List Output → List Output → Type 0
Appends (accepted.Number number) before after = after ≡ before
Appends accepted.Done before after = after ≡ before
Appends (accepted.GivenUp number) before after = after ≡ before
Appends (accepted.Step over) before after = KeepsOutputs before after

-- An answer and what was appended are what the table gives, and the dialogue is what it says, or the refusal is,
-- which appends nothing (own).
abbrev pub AsksInto : List Output → List Output → Result Accepted Fault → Outcome → model.Dialogue → model.Dialogue → Type 0
AsksInto before after (Ok a) o old new = Appends a before after × (accepted_outcome (told_since before after) a new ≡ o)
AsksInto before after (Err f) o old new = (after ≡ before) × RefusedBy (fault_view f) o old new
