-- How a message is served: the engine takes it, each Invoke that it tells is answered in the order of the
-- Invokes, and what is queued then is sent.
use Rattle.std.specs.Prelude.{◌≡◌, ℕ, ℤ, Bool, true, false, List, [], ◌∷◌, Option, Some, None, Result, Ok, Err, is_some}
use Rattle.std.specs.List.{list_any}
use Rattle.tcap_component.specs.Component.{CodeParts}
use Rattle.tcap_engine.specs.StepForm.{EngineAnswers, Moves}
use Rattle.tcap_invocation.specs.declared.class.Class.{Class}
use Rattle.tcap_model.specs.Table.EngineMove.{engine_move}
use Rattle.tcap_model.specs.Table.World.{World}
use Rattle.tcap_model.specs.Words.Address.{Address}
use Rattle.tcap_model.specs.Words.Answer.{Answer}
use Rattle.tcap_model.specs.Words.Event.{Event}
use Rattle.tcap_model.specs.Words.Output.{Output}
use Rattle.tcap_model.specs.Words.Request.{DialogueRequest, Ending, Request}
use Rattle.tcap_primitives.specs.declared.fault.Fault.{Fault}
use Rattle.tcap_register.specs.Answering.{ServesInvoke}
use Rattle.tcap_register.specs.Invokes.{InvokeParts, dialogue_told, invoke_told}
use Rattle.tcap_register.specs.declared.operations.Reply.{Reply}

-- Whether an output tells an Invoke that is to be answered (own).
abbrev pub is_invoke : Output → Bool
is_invoke output = is_some (invoke_told output)

-- The dialogue that outputs begin or continue, if one does (own).
abbrev pub dialogue_of : List Output → Option ℕ
dialogue_of [] = None
dialogue_of (output ∷ outputs) = first (dialogue_told output) (dialogue_of outputs)
  where
    first : Option ℕ → Option ℕ → Option ℕ
    first None later = later
    first (Some dialogue) later = Some dialogue

-- What sends the answers: a message that tells Invokes is answered by a basic End, any other by a Continue, so
-- that its sender may go on (own).
abbrev pub concluding : Bool → Request
concluding true = Request.dialogue (DialogueRequest.finish Ending.basic None [])
concluding false = Request.dialogue (DialogueRequest.go_on None [])

-- What ends a dialogue and sends nothing (Q.771, Dialogue end).
abbrev pub silent_end : Request
silent_end = Request.dialogue (DialogueRequest.finish Ending.prearranged None [])

-- A request on a dialogue is accepted with these outputs, or refused (own).
abbrev pub AsksOf : ℕ → Request → Result (List Output) Fault → World → World → Type 0
AsksOf dialogue request result old new =
    EngineAnswers Answer.outputs result (engine_move old (Event.on_dialogue dialogue request)) old new

-- The outputs of a request, none where it was refused (own).
abbrev pub outputs_of : Result (List Output) Fault → List Output
outputs_of (Ok outputs) = outputs
outputs_of (Err fault) = []

-- A dialogue is to end with nothing sent (own).
pub record Leaves (dialogue : ℕ) (sent : List Output) (old new : World) : Type 0 where
  pub result : Result (List Output) Fault
  pub asks : AsksOf dialogue silent_end result old new
  pub is_sent : sent ≡ outputs_of result

module _ {S : Type 0} where
  -- The answers were sent; or the message was refused: that is handed to the operations, and the dialogue is
  -- to end with nothing sent (own).
  abbrev pub Concluded : (S → ℕ → Option ℤ → Fault → S → Type 0)
      → ℕ → Result (List Output) Fault → List Output → World → S → World → S → Type 0
  Concluded refused_gives dialogue (Ok outputs) sent old before new after =
      (sent ≡ outputs) × (new ≡ old) × (after ≡ before)
  Concluded refused_gives dialogue (Err fault) sent old before new after =
      refused_gives before dialogue None fault after × Leaves dialogue sent old new

  -- What is queued in a dialogue is sent by this request (own).
  pub record ConcludesDialogue (refused_gives : S → ℕ → Option ℤ → Fault → S → Type 0)
      (dialogue : ℕ) (request : Request) (sent : List Output)
      (old : World) (before : S) (new : World) (after : S) : Type 0 where
    pub result : Result (List Output) Fault
    pub middle : World
    pub asks : AsksOf dialogue request result old middle
    pub concluded : Concluded refused_gives dialogue result sent middle before new after

  -- Where a dialogue was begun or continued, what is queued in it is sent; else nothing is (own).
  abbrev pub Concludes : (S → ℕ → Option ℤ → Fault → S → Type 0)
      → Option ℕ → Request → List Output → World → S → World → S → Type 0
  Concludes refused_gives None request sent old before new after = (sent ≡ []) × (new ≡ old) × (after ≡ before)
  Concludes refused_gives (Some dialogue) request sent old before new after =
      ConcludesDialogue refused_gives dialogue request sent old before new after

module _ {S A : Type 0} where
  -- Where an output tells an Invoke, it is served; else nothing happens (own).
  abbrev pub ServesTold : (S → CodeParts → Option Class → Type 0)
      → (S → CodeParts → Option (List ℕ) → Reply A → S → Type 0)
      → (S → ℕ → Option ℤ → Fault → S → Type 0)
      → Option InvokeParts → World → S → World → S → Type 0
  ServesTold class_of_gives answer_gives refused_gives None old before new after = (new ≡ old) × (after ≡ before)
  ServesTold class_of_gives answer_gives refused_gives (Some invoke) old before new after =
      ServesInvoke class_of_gives answer_gives refused_gives invoke old before new after

  -- Each Invoke that outputs tell is served, one after the other, and nothing else happens (own).
  abbrev pub ServesAll : (S → CodeParts → Option Class → Type 0)
      → (S → CodeParts → Option (List ℕ) → Reply A → S → Type 0)
      → (S → ℕ → Option ℤ → Fault → S → Type 0)
      → List Output → World → S → World → S → Type 0
  ServesAll class_of_gives answer_gives refused_gives [] old before new after = (new ≡ old) × (after ≡ before)
  ServesAll class_of_gives answer_gives refused_gives (output ∷ outputs) old before new after =
      (middle : World) × (between : S)
      × ServesTold class_of_gives answer_gives refused_gives (invoke_told output) old before middle between
      × ServesAll class_of_gives answer_gives refused_gives outputs middle between new after

  -- A message is served: the engine takes it, each Invoke that it tells is served, and the answers are sent
  -- (own).
  pub record Serves (class_of_gives : S → CodeParts → Option Class → Type 0)
      (answer_gives : S → CodeParts → Option (List ℕ) → Reply A → S → Type 0)
      (refused_gives : S → ℕ → Option ℤ → Fault → S → Type 0)
      (from : Address) (bytes : List ℕ) (heard sent : List Output)
      (old : World) (before : S) (new : World) (after : S) : Type 0 where
    pub taken : World
    pub takes : Moves (engine_move old (Event.received from bytes)) (Answer.outputs heard) taken
    pub middle : World
    pub between : S
    pub serves : ServesAll class_of_gives answer_gives refused_gives heard taken before middle between
    pub concludes : Concludes refused_gives (dialogue_of heard) (concluding (list_any is_invoke heard)) sent
        middle between new after
