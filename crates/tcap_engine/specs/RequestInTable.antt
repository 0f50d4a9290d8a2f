-- What a table answers to a request on one of its dialogues, beside what the model's table says.
use Rattle.std.specs.Prelude.{◌≡◌, ℕ, ◌<◌, Bool, true, false, List, Option, Some, None, Result, Ok, Err, IsTrue}
use Rattle.ber_core.specs.declared.fault.OutOfMemory.{OutOfMemory}
use Rattle.tcap_dialogue.specs.declared.dialogue.requests.Accepted.{Accepted}
use Rattle.tcap_dialogue.specs.declared.dialogue.requests.Accepted.TheVariants as accepted
use Rattle.tcap_dialogue.specs.declared.dialogue.requests.Asked.{Asked}
use Rattle.tcap_dialogue.specs.declared.dialogue.requests.Asked.TheVariants as asked
use Rattle.tcap_primitives.specs.declared.fault.Fault.{Fault}
use Rattle.tcap_primitives.specs.declared.fault.Fault.TheVariants as fault
use Rattle.tcap_dialogue.specs.RequestForm.{takes_memory}
use Rattle.tcap_primitives.specs.FaultViews.{fault_view}
use Rattle.tcap_primitives.specs.OutputViews.{all_shown}
use Rattle.tcap_dialogue.specs.StepViews.{Outcome}
use Rattle.tcap_model.specs.Table.Dialogue.{Dialogue}
use Rattle.tcap_model.specs.Words.Answer.{Answer}
use Rattle.tcap_model.specs.Words.Fault as model
use Rattle.tcap_model.specs.Words.Identifiers.{last_number}
use Rattle.tcap_model.specs.Words.Output.{Output}
use Rattle.tcap_model.specs.Words.Request.{Request, ComponentRequest}
use Rattle.tcap_engine.specs.DialogueEntries.{TableEntry, entries_with}

-- What was answered (own).
abbrev pub asked_answer : {A : Type 0} → Asked A → Answer
asked_answer (asked.Number number) = Answer.number number
asked_answer asked.Done = Answer.done
asked_answer (asked.GivenUp number) = Answer.given_up number
asked_answer (asked.Step step) = Answer.outputs (all_shown step.outputs.items)

-- An answer that carries a number carries one that may be drawn: the greatest never is (own).
abbrev pub IsLeft : Answer → ℕ → Type 0
IsLeft (Answer.new_dialogue dialogue) next = Unit {0}
IsLeft (Answer.number number) next = next < last_number
IsLeft Answer.done next = Unit {0}
IsLeft (Answer.given_up number) next = Unit {0}
IsLeft (Answer.outputs outputs) next = Unit {0}
IsLeft (Answer.refused f) next = Unit {0}

-- What was answered, where this was told (own).
abbrev pub accepted_answer : List Output → Accepted → Answer
accepted_answer told (accepted.Number number) = Answer.number number
accepted_answer told accepted.Done = Answer.done
accepted_answer told (accepted.GivenUp number) = Answer.given_up number
accepted_answer told (accepted.Step over) = Answer.outputs told

-- Whether the dialogue is over then (own).
abbrev pub ends_dialogue : Accepted → Bool
ends_dialogue (accepted.Number number) = false
ends_dialogue accepted.Done = false
ends_dialogue (accepted.GivenUp number) = false
ends_dialogue (accepted.Step over) = over

-- Whether a request queues a component and frees no identifier, so that time next changes its dialogue when it did
-- before (Q.774, Component handling).
abbrev pub keeps_timer : Request → Bool
keeps_timer (Request.component (ComponentRequest.invoke id class code parameter linked timeout)) = true
keeps_timer (Request.component (ComponentRequest.result_last id body)) = true
keeps_timer (Request.component (ComponentRequest.result_more id body)) = true
keeps_timer (Request.component (ComponentRequest.error_back id code parameter)) = true
keeps_timer (Request.component (ComponentRequest.u_reject id problem)) = false
keeps_timer (Request.component (ComponentRequest.u_cancel id)) = false
keeps_timer (Request.dialogue request) = false

-- The answer is that of the outcome, and its dialogue is the outcome's in the table then, or is gone
-- (own).
abbrev pub EntriesMove : Outcome → ℕ → Answer → List TableEntry → List TableEntry → Type 0
EntriesMove o d answer old new = (answer ≡ o.0) × (new ≡ entries_with d o.1 old)

-- The refusal is that of the outcome, and its dialogue stands in the table then. `OutOfMemory` comes only
-- where the outcome takes memory, and leaves the table as it was (own).
abbrev pub EntriesRefuse : model.Fault → Outcome → ℕ → List TableEntry → List TableEntry → Type 0
EntriesRefuse model.Fault.out_of_memory o d old new = (new ≡ old) × IsTrue (takes_memory o.0)
EntriesRefuse f o d old new = EntriesMove o d (Answer.refused f) old new

-- An answer, or a refusal, is that of the outcome, and its dialogue stands in the table then, or is gone
-- (own).
abbrev pub EntriesAnswer : {T : Type 0} → (T → Answer) → Result T Fault → Outcome → ℕ → List TableEntry → List TableEntry → Type 0
EntriesAnswer view (Ok a) o d old new = EntriesMove o d (view a) old new
EntriesAnswer view (Err f) o d old new = EntriesRefuse (fault_view f) o d old new

-- What a table answers to a request on the dialogue of an identifier, which is this one if it stands; else
-- it is unknown, and nothing changes (own).
abbrev pub AnswersInTable : {T : Type 0} → (T → Answer) → Result T Fault → (Dialogue → Outcome) → ℕ → Option Dialogue → List TableEntry → List TableEntry → Type 0
AnswersInTable view result says d None old new = (result ≡ Err fault.UnknownDialogue) × (new ≡ old)
AnswersInTable view result says d (Some dialogue) old new = EntriesAnswer view result (says dialogue) d old new

-- What a table gives where a message reaches one of its dialogues, which stands; where memory was refused
-- nothing changes (own).
abbrev pub DeliversInTable : {T : Type 0} → (T → Answer) → Result T OutOfMemory → (Dialogue → Outcome) → ℕ → Option Dialogue → List TableEntry → List TableEntry → Type 0
DeliversInTable view (Err refused) says d dialogue old new = new ≡ old
DeliversInTable view (Ok outputs) says d None old new = ⊥
DeliversInTable view (Ok outputs) says d (Some dialogue) old new = EntriesMove (says dialogue) d (view outputs) old new

-- What a table gives where a message may reach one of its dialogues: whether that is live, and what it says then; where
-- it isn't, or memory was refused, nothing changes (own).
abbrev pub TakesInTable : (Bool → Answer) → Result Bool OutOfMemory → Bool → (Dialogue → Outcome) → ℕ → Option Dialogue → List TableEntry → List TableEntry → Type 0
TakesInTable view (Err refused) live says d dialogue old new = new ≡ old
TakesInTable view (Ok true) true says d dialogue old new = DeliversInTable view (Ok true) says d dialogue old new
TakesInTable view (Ok true) false says d dialogue old new = ⊥
TakesInTable view (Ok false) true says d dialogue old new = ⊥
TakesInTable view (Ok false) false says d dialogue old new = new ≡ old
