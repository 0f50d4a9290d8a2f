-- How an Invoke is answered: at most once, in its dialogue, with its identifier, by what its class reports.
use Rattle.std.specs.Prelude.{◌≡◌, ℕ, ℤ, Bool, true, false, List, Option, Some, None, Result, Ok, Err}
use Rattle.std.specs.declared.vec.Vec.{Vec}
use Rattle.tcap_component.specs.Component.{BodyParts, CodeParts}
use Rattle.tcap_component.specs.Problem.{ProblemParts}
use Rattle.tcap_component.specs.Views.{code_parts, problem_parts}
use Rattle.tcap_component.specs.declared.problem.Kind.TheVariants as kind
use Rattle.tcap_dialogue.specs.RequestForm.{queued_done}
use Rattle.tcap_engine.specs.StepForm.{EngineAnswers}
use Rattle.tcap_invocation.specs.Class.{reports_failure, reports_success}
use Rattle.tcap_invocation.specs.declared.class.Class.{Class}
use Rattle.tcap_model.specs.Table.EngineMove.{engine_move}
use Rattle.tcap_model.specs.Table.World.{World}
use Rattle.tcap_model.specs.Words.Event.{Event}
use Rattle.tcap_model.specs.Words.Request.{ComponentRequest, Request}
use Rattle.tcap_primitives.specs.declared.fault.Fault.{Fault}
use Rattle.tcap_register.specs.Invokes.{InvokeParts}
use Rattle.tcap_register.specs.declared.operations.Reply.{Reply}
use Rattle.tcap_register.specs.declared.operations.Reply.TheVariants as reply

-- The problem of an Invoke whose operation isn't known (Q.773, Invoke Problem).
abbrev pub unrecognized_operation : ProblemParts
unrecognized_operation = record { kind = kind.Invoke; code = 1 }

-- The octets of a parameter, if there is one (own).
abbrev pub octets_of : {A : Type 0} → Option (Vec ℕ A) → Option (List ℕ)
octets_of None = None
octets_of (Some octets) = Some octets.items

-- What a Return Result holds: nothing where there is no parameter (Q.773, Return Result component).
abbrev pub body_for : CodeParts → Option (List ℕ) → Option BodyParts
body_for code None = None
body_for code (Some octets) = Some (record { code = code; parameter = Some octets })

-- A request, where an outcome is reported; else none (Q.771, Operation classes).
abbrev pub if_reported : Bool → ComponentRequest → Option ComponentRequest
if_reported true request = Some request
if_reported false request = None

-- What answers an Invoke: a Return Result Last where the class reports success, a Return Error where it reports
-- failure, a Reject in any class; else nothing (Q.771, Operation classes).
abbrev pub reply_request : {A : Type 0} → Class → InvokeParts → Reply A → Option ComponentRequest
reply_request class invoke (reply.Success parameter) =
    if_reported (reports_success class)
    (ComponentRequest.result_last invoke.id (body_for invoke.code (octets_of parameter)))
reply_request class invoke (reply.Failure error parameter) =
    if_reported (reports_failure class)
    (ComponentRequest.error_back invoke.id (code_parts error) (octets_of parameter))
reply_request class invoke (reply.Reject problem) =
    Some (ComponentRequest.u_reject (Some invoke.id) (problem_parts problem))

-- A component is asked for in a dialogue, or nothing is: the engine accepts or refuses it, as its move says (own).
abbrev pub AsksFor : Option ComponentRequest → ℕ → Result (Unit {0}) Fault → World → World → Type 0
AsksFor None dialogue result old new = (result ≡ Ok tt) × (new ≡ old)
AsksFor (Some request) dialogue result old new =
    EngineAnswers queued_done result (engine_move old (Event.on_dialogue dialogue (Request.component request))) old new

module _ {S : Type 0} where
  -- A refusal is handed to the operations; where there is none they stay (own).
  abbrev pub HandsOver : (S → ℕ → Option ℤ → Fault → S → Type 0)
      → ℕ → Option ℤ → Result (Unit {0}) Fault → S → S → Type 0
  HandsOver refused_gives dialogue id (Ok done) old new = new ≡ old
  HandsOver refused_gives dialogue id (Err fault) old new = refused_gives old dialogue id fault new

  -- A component is asked for in answer to an Invoke, in its dialogue, or nothing is; a refusal is handed to
  -- the operations (own).
  pub record Answered (refused_gives : S → ℕ → Option ℤ → Fault → S → Type 0) (request : Option ComponentRequest)
      (invoke : InvokeParts) (old : World) (before : S) (new : World) (after : S) : Type 0 where
    pub result : Result (Unit {0}) Fault
    pub asks : AsksFor request invoke.dialogue result old new
    pub hands : HandsOver refused_gives invoke.dialogue (Some invoke.id) result before after

module _ {S A : Type 0} where
  -- The operation is done, and its Invoke answered by what it came to (own).
  pub record Done (answer_gives : S → CodeParts → Option (List ℕ) → Reply A → S → Type 0)
      (refused_gives : S → ℕ → Option ℤ → Fault → S → Type 0) (class : Class)
      (invoke : InvokeParts) (old : World) (before : S) (new : World) (after : S) : Type 0 where
    pub came_to : Reply A
    pub between : S
    pub answers : answer_gives before invoke.code invoke.parameter came_to between
    pub answered : Answered refused_gives (reply_request class invoke came_to) invoke old between new after

  -- An operation that the register has is done; of any other the Invoke is rejected
  -- (Q.773, Invoke Problem).
  abbrev pub DoneBy : (S → CodeParts → Option (List ℕ) → Reply A → S → Type 0)
      → (S → ℕ → Option ℤ → Fault → S → Type 0) → Option Class
      → InvokeParts → World → S → World → S → Type 0
  DoneBy answer_gives refused_gives None invoke old before new after =
      Answered refused_gives (Some (ComponentRequest.u_reject (Some invoke.id) unrecognized_operation))
      invoke old before new after
  DoneBy answer_gives refused_gives (Some class) invoke old before new after =
      Done answer_gives refused_gives class invoke old before new after

  -- An Invoke is served: by the class that the operations say its code has (own).
  pub record ServesInvoke (class_of_gives : S → CodeParts → Option Class → Type 0)
      (answer_gives : S → CodeParts → Option (List ℕ) → Reply A → S → Type 0)
      (refused_gives : S → ℕ → Option ℤ → Fault → S → Type 0)
      (invoke : InvokeParts) (old : World) (before : S) (new : World) (after : S) : Type 0 where
    pub class : Option Class
    pub has_class : class_of_gives before invoke.code class
    pub done : DoneBy answer_gives refused_gives class invoke old before new after
