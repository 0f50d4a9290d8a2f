-- The kind of answer that each request gets.
use Rattle.std.specs.Prelude.{◌≡◌}
use Rattle.tcap_model.specs.Words.Answer.{Answer}
use Rattle.tcap_model.specs.Words.Request.{Request, ComponentRequest, DialogueRequest}

-- What an accepted request is answered with: the number of a new invocation; nothing, since it was
-- queued; the number of the invocation that was given up; what is sent and told (own).
pub data AnswerKind : Type 0 where
  number : AnswerKind
  queued : AnswerKind
  given_up : AnswerKind
  outputs : AnswerKind

-- The kind of a request's answer (own).
abbrev pub kind_of : Request → AnswerKind
kind_of (Request.component (ComponentRequest.invoke id class code parameter linked timeout)) = AnswerKind.number
kind_of (Request.component (ComponentRequest.result_last id body)) = AnswerKind.queued
kind_of (Request.component (ComponentRequest.result_more id body)) = AnswerKind.queued
kind_of (Request.component (ComponentRequest.error_back id code parameter)) = AnswerKind.queued
kind_of (Request.component (ComponentRequest.u_reject id problem)) = AnswerKind.queued
kind_of (Request.component (ComponentRequest.u_cancel id)) = AnswerKind.given_up
kind_of (Request.dialogue (DialogueRequest.uni to context info)) = AnswerKind.outputs
kind_of (Request.dialogue (DialogueRequest.begin to context info)) = AnswerKind.outputs
kind_of (Request.dialogue (DialogueRequest.go_on context info)) = AnswerKind.outputs
kind_of (Request.dialogue (DialogueRequest.finish ending context info)) = AnswerKind.outputs
kind_of (Request.dialogue (DialogueRequest.u_abort why info)) = AnswerKind.outputs

-- An answer is of the kind, or is a refusal (own).
abbrev pub MayAnswer : AnswerKind → Answer → Type 0
MayAnswer kind (Answer.new_dialogue dialogue) = ⊥
MayAnswer kind (Answer.number n) = AnswerKind.number ≡ kind
MayAnswer kind Answer.done = AnswerKind.queued ≡ kind
MayAnswer kind (Answer.given_up n) = AnswerKind.given_up ≡ kind
MayAnswer kind (Answer.outputs os) = AnswerKind.outputs ≡ kind
MayAnswer kind (Answer.refused fault) = Unit {0}
