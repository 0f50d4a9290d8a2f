-- The engine answers each request with its kind, or refuses it.
use Rattle.std.proofs.Common.{ℕ, ℤ, List, Option, Some, None, Result, Ok, Err, IfOk, refl, sym, subst}
use Rattle.tcap_dialogue.specs.declared.dialogue.requests.Accepted.{Accepted}
use Rattle.tcap_dialogue.specs.declared.dialogue.requests.Accepted.TheVariants as asked
use Rattle.tcap_primitives.specs.declared.fault.Fault.{Fault}
use Rattle.tcap_engine.specs.StepForm.{EngineAnswers}
use Rattle.tcap_engine.specs.AnswerKinds.{AnswerKind, kind_of, MayAnswer}
use Rattle.tcap_engine.specs.RequestInTable.{accepted_answer}
use Rattle.tcap_model.specs.Procedures.Refusals.{due_on}
use Rattle.tcap_model.specs.Table.Dialogue.{Dialogue}
use Rattle.tcap_model.specs.Table.EngineMove.{engine_move, dialogue_in, requested_in, setting_in}
use Rattle.tcap_model.specs.Table.TableMove.{Setting, accepted, giving_up, requested_by, situation, table_move}
use Rattle.tcap_model.specs.Table.World.{World}
use Rattle.tcap_model.specs.Words.Event.{Event}
use Rattle.tcap_model.specs.Words.Answer.{Answer}
use Rattle.tcap_model.specs.Words.Fault as model
use Rattle.tcap_model.specs.Words.Output.{Output}
use Rattle.tcap_model.specs.Words.Request.{Request, ComponentRequest, DialogueRequest}
use Rattle.tcap_invocation.specs.Closing.{given_up_at}

given : (d : Dialogue) (id : ℤ) (number : Option ℕ) → MayAnswer AnswerKind.given_up (giving_up d id number).answer
given d id None = tt
given d id (Some number) = refl

accepted-kind : (s : Setting) (d : Dialogue) (r : Request) → MayAnswer (kind_of r) (accepted s d r).answer
accepted-kind s d (Request.component (ComponentRequest.invoke id class code parameter linked timeout)) = refl
accepted-kind s d (Request.component (ComponentRequest.result_last id body)) = refl
accepted-kind s d (Request.component (ComponentRequest.result_more id body)) = refl
accepted-kind s d (Request.component (ComponentRequest.error_back id code parameter)) = refl
accepted-kind s d (Request.component (ComponentRequest.u_reject id problem)) = refl
accepted-kind s d (Request.component (ComponentRequest.u_cancel id)) = given d id (given_up_at d.invocations.rows id)
accepted-kind s d (Request.dialogue (DialogueRequest.uni to context info)) = refl
accepted-kind s d (Request.dialogue (DialogueRequest.begin to context info)) = refl
accepted-kind s d (Request.dialogue (DialogueRequest.go_on context info)) = refl
accepted-kind s d (Request.dialogue (DialogueRequest.finish ending context info)) = refl
accepted-kind s d (Request.dialogue (DialogueRequest.u_abort why info)) = refl

requested-kind : (s : Setting) (d : Dialogue) (r : Request) (due : Option model.Fault) → MayAnswer (kind_of r) (requested_by s d r due).answer
requested-kind s d r (Some f) = tt
requested-kind s d r None = accepted-kind s d r

stands-kind : (w : World) (d : ℕ) (r : Request) (found : Option Dialogue) → MayAnswer (kind_of r) (requested_in w d r found).answer
unfolding table_move
stands-kind w d r None = tt
stands-kind w d r (Some x) = requested-kind (setting_in w) x r (due_on (situation (setting_in w) x r) r)

moved-kind : (w : World) (d : ℕ) (r : Request) → MayAnswer (kind_of r) (engine_move w (Event.on_dialogue d r)).answer
unfolding engine_move
moved-kind w d r = stands-kind w d r (dialogue_in d w.dialogues)

-- What the engine answers to a request, where it answers as its move says, is of the request's kind.
pub of-kind : {T : Type 0} (view : T → Answer) (result : Result T Fault) (d : ℕ) (r : Request) (old new : World)
    → EngineAnswers view result (engine_move old (Event.on_dialogue d r)) old new
    → IfOk result (λ a. MayAnswer (kind_of r) (view a))
of-kind view (Ok a) d r old new answers = subst (MayAnswer (kind_of r)) (sym answers.0) (moved-kind old d r)
of-kind view (Err f) d r old new answers = tt

-- The kind of an answer doesn't depend on what was told.
told-kind : (kind : AnswerKind) (told other : List Output) (a : Accepted) → MayAnswer kind (accepted_answer told a) → MayAnswer kind (accepted_answer other a)
told-kind kind told other (asked.Number number) h = h
told-kind kind told other asked.Done h = h
told-kind kind told other (asked.GivenUp number) h = h
told-kind kind told other (asked.Step over) h = h

pub any-kind : (kind : AnswerKind) (told : List Output) (result : Result Accepted Fault) → IfOk result (λ a. MayAnswer kind (accepted_answer told a)) → IfOk result (λ a. (other : List Output) → MayAnswer kind (accepted_answer other a))
any-kind kind told (Ok a) h = λ other. told-kind kind told other a h
any-kind kind told (Err f) h = tt
