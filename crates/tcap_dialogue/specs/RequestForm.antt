-- Refusals as a contract sees them.
use Rattle.std.specs.Prelude.{◌≡◌, ℕ, List, Bool, true, false, [], ◌∷◌, Some, Result, Ok, Err, IsTrue}
use Rattle.tcap_model.specs.Table.Dialogue as model
use Rattle.tcap_model.specs.Words.Answer.{Answer}
use Rattle.tcap_model.specs.Words.Fault as model_fault
use Rattle.tcap_model.specs.Words.Output.{Output}
use Rattle.tcap_dialogue.specs.declared.dialogue.Step.{Step}
use Rattle.tcap_primitives.specs.declared.fault.Fault.{Fault}
use Rattle.tcap_primitives.specs.FaultViews.{fault_view}
use Rattle.tcap_reception.specs.declared.state.After.{After}
use Rattle.tcap_reception.specs.StateViews.{is_over}
use Rattle.tcap_dialogue.specs.StepViews.{Outcome, StepsTo, stepped}

-- Whether something is kept or told, for which memory may be refused: the answer is no refusal and no
-- empty list, and nothing was given up (own).
abbrev pub takes_memory : Answer → Bool
takes_memory (Answer.new_dialogue dialogue) = true
takes_memory (Answer.number number) = true
takes_memory Answer.done = true
takes_memory (Answer.given_up number) = false
takes_memory (Answer.outputs []) = false
takes_memory (Answer.outputs (o ∷ os)) = true
takes_memory (Answer.refused f) = false

-- A refusal is the one that the table gives, and the dialogue is what it says; `OutOfMemory` comes only
-- where the table's answer takes memory, and leaves the dialogue as it was (own).
abbrev pub RefusedBy : model_fault.Fault → Outcome → model.Dialogue → model.Dialogue → Type 0
RefusedBy model_fault.Fault.out_of_memory o old new = (new ≡ old) × IsTrue (takes_memory o.0)
RefusedBy f o old new = o ≡ (Answer.refused f, Some new)

-- An answer is the one that the table gives and the dialogue what it says, or the refusal is (own).
abbrev pub Answers : {T : Type 0} → (T → Answer) → Result T Fault → Outcome → model.Dialogue → model.Dialogue → Type 0
Answers view (Ok x) o old new = o ≡ (view x, Some new)
Answers view (Err f) o old new = RefusedBy (fault_view f) o old new

-- A step, or a refusal, is what the outcome says; the dialogue may be over after a step (own).
abbrev pub Steps : {A : Type 0} → Result (Step A) Fault → Outcome → model.Dialogue → model.Dialogue → Type 0
Steps (Ok s) o old new = stepped s new ≡ o
Steps (Err f) o old new = RefusedBy (fault_view f) o old new

-- What a step appended, or a refusal, is what the outcome says; the dialogue may be over after a step, and a refusal
-- appends nothing (own).
abbrev pub StepsInto : List Output → List Output → Result After Fault → Outcome → model.Dialogue → model.Dialogue → Type 0
StepsInto before after (Ok state) o old new = StepsTo before after (is_over state) new o
StepsInto before after (Err f) o old new = (after ≡ before) × RefusedBy (fault_view f) o old new

-- The same of a request after which the dialogue always is over, or never (own).
abbrev pub StepsBy : Bool → List Output → List Output → Result (Unit {0}) Fault → Outcome → model.Dialogue → model.Dialogue → Type 0
StepsBy over before after (Ok done) o old new = StepsTo before after over new o
StepsBy over before after (Err f) o old new = (after ≡ before) × RefusedBy (fault_view f) o old new

-- An invocation gets a number (own).
abbrev pub numbered : ℕ → Answer
numbered number = Answer.number number

-- A component is queued (own).
abbrev pub queued_done : Unit {0} → Answer
queued_done _ = Answer.done

-- An invocation is given up (own).
abbrev pub gave_up : ℕ → Answer
gave_up number = Answer.given_up number
