-- What a call of the engine answers, beside what the engine's move says.
use Rattle.std.specs.Prelude.{◌≡◌, ℕ, Bool, true, false, List, [], Option, Some, None, Result, Ok, Err, IsTrue}
use Rattle.ber_core.specs.declared.fault.OutOfMemory.{OutOfMemory}
use Rattle.tcap_primitives.specs.declared.fault.Fault.{Fault}
use Rattle.tcap_dialogue.specs.RequestForm.{takes_memory}
use Rattle.tcap_primitives.specs.FaultViews.{fault_view}
use Rattle.tcap_primitives.specs.declared.output.Output.{Output}
use Rattle.tcap_primitives.specs.OutputViews.{all_shown}
use Rattle.tcap_primitives.specs.SinkViews.{KeepsOutputs, told_since}
use Rattle.std.specs.declared.vec.Vec.{Vec}
use Rattle.tcap_model.specs.Procedures.AbortRules.{fault_cause, sent_if_any}
use Rattle.tcap_model.specs.Table.EngineMove.{EngineMoved, dialogue_in, reached_in}
use Rattle.tcap_model.specs.Table.TableMove.{DialogueEvent}
use Rattle.tcap_model.specs.Table.World.{World}
use Rattle.tcap_model.specs.Words.Address.{Address}
use Rattle.tcap_model.specs.Words.Answer.{Answer}
use Rattle.tcap_model.specs.Words.Fault as model
use Rattle.tcap_model.specs.Words.Output as told
use Rattle.tcap_pdu.specs.declared.fault.FrameFault.{FrameFault}
use Rattle.tcap_pdu.specs.FrameSpelling.{Message}

-- The answer and the engine are those of the move (own).
abbrev pub Moves : EngineMoved → Answer → World → Type 0
Moves m answer new = (answer ≡ m.answer) × (new ≡ m.after)

-- A refusal is the one that the move gives; `OutOfMemory` comes only where the move's answer takes
-- memory, and leaves the engine as it was (own).
abbrev pub EngineRefuses : model.Fault → EngineMoved → World → World → Type 0
EngineRefuses model.Fault.out_of_memory m old new = (new ≡ old) × IsTrue (takes_memory m.answer)
EngineRefuses f m old new = Moves m (Answer.refused f) new

-- An answer and the engine after it are those of the move, or the refusal is (own).
abbrev pub EngineAnswers : {T : Type 0} → (T → Answer) → Result T Fault → EngineMoved → World → World → Type 0
EngineAnswers view (Ok x) m old new = Moves m (view x) new
EngineAnswers view (Err f) m old new = EngineRefuses (fault_view f) m old new

-- A dialogue is created (own).
abbrev pub birth_answer : ℕ → Answer
birth_answer dialogue = Answer.new_dialogue dialogue

-- Outputs are told (own).
abbrev pub outputs_answer : {A : Type 0} → Vec (Output A) A → Answer
outputs_answer told = Answer.outputs (all_shown told.items)

-- What was told since these outputs (own).
abbrev pub since_answer : {T : Type 0} → List told.Output → List told.Output → T → Answer
since_answer before after _ = Answer.outputs (told_since before after)

-- What bytes are answered is what the move says; where memory was refused the engine is as it was (own).
abbrev pub EngineReceives : {T : Type 0} → (T → Answer) → Result T OutOfMemory → EngineMoved → World → World → Type 0
EngineReceives view (Ok x) m old new = Moves m (view x) new
EngineReceives view (Err refused) m old new = new ≡ old

-- What was appended to the outputs is what the move answers, and the engine is what it says; where memory was refused
-- nothing was appended, and the engine is as it was (own).
abbrev pub ReceivesInto : {T : Type 0} → List told.Output → List told.Output → Result T OutOfMemory → EngineMoved → World → World → Type 0
ReceivesInto before after (Ok x) m old new = KeepsOutputs before after × Moves m (Answer.outputs (told_since before after)) new
ReceivesInto before after (Err refused) m old new = (after ≡ before) × (new ≡ old)

-- What is so where a dialogue took the message (own).
abbrev pub IfTaken : Result Bool OutOfMemory → Type 0 → Type 0
IfTaken (Ok true) P = P
IfTaken (Ok false) P = Unit {0}
IfTaken (Err refused) P = Unit {0}

-- What is so unless a dialogue took the message (own).
abbrev pub UnlessTaken : Result Bool OutOfMemory → Type 0 → Type 0
UnlessTaken (Ok true) P = Unit {0}
UnlessTaken (Ok false) P = P
UnlessTaken (Err refused) P = P

-- Whether a live dialogue was named and took the message. What was appended to the outputs is what its move answers
-- then, and the engine is what that says; where none was named, or memory was refused, nothing was appended, and the
-- engine is as it was (own).
abbrev pub DeliversTo : List told.Output → List told.Output → Result Bool OutOfMemory → Option EngineMoved → World → World → Type 0
DeliversTo before after (Err refused) m old new = (after ≡ before) × (new ≡ old)
DeliversTo before after (Ok true) (Some m) old new = KeepsOutputs before after × Moves m (Answer.outputs (told_since before after)) new
DeliversTo before after (Ok true) None old new = ⊥
DeliversTo before after (Ok false) (Some m) old new = ⊥
DeliversTo before after (Ok false) None old new = (after ≡ before) × (new ≡ old)

-- What an engine does where a message from an address reaches this dialogue (own).
abbrev pub frame_reached : World → Address → Message → ℕ → EngineMoved
frame_reached w from m d = reached_in w d [] (DialogueEvent.frame from m) (dialogue_in d w.dialogues)

-- What it does where a faulty message names this dialogue: an Abort goes first to the address that it came from, if
-- the originator is known (own).
abbrev pub fault_reached : World → Address → Option Message → FrameFault → ℕ → EngineMoved
fault_reached w from abort f d =
    reached_in w d (sent_if_any from abort) (DialogueEvent.fault (fault_cause f)) (dialogue_in d w.dialogues)
