-- Requests as a contract sees them.
use Rattle.std.specs.Prelude.{option_copied}
use Rattle.std.specs.Option.{option_map}
use Rattle.tcap_component.specs.Views.{code_parts, body_parts, problem_parts}
use Rattle.tcap_model.specs.Words.Request as model
use Rattle.tcap_model.specs.Words.Request.{ComponentRequest, DialogueRequest, AbortReason}
use Rattle.tcap_primitives.specs.declared.request.Ending.{Ending}
use Rattle.tcap_primitives.specs.declared.request.Ending.TheVariants as ending
use Rattle.tcap_primitives.specs.declared.request.AbortWhy.{AbortWhy}
use Rattle.tcap_primitives.specs.declared.request.AbortWhy.TheVariants as why
use Rattle.tcap_primitives.specs.declared.request.InvokeRequest.{InvokeRequest}
use Rattle.tcap_primitives.specs.declared.request.ResultRequest.{ResultRequest}
use Rattle.tcap_primitives.specs.declared.request.ErrorRequest.{ErrorRequest}
use Rattle.tcap_primitives.specs.declared.request.RejectRequest.{RejectRequest}
use Rattle.tcap_primitives.specs.declared.request.CancelRequest.{CancelRequest}
use Rattle.tcap_primitives.specs.declared.request.UniRequest.{UniRequest}
use Rattle.tcap_primitives.specs.declared.request.BeginRequest.{BeginRequest}
use Rattle.tcap_primitives.specs.declared.request.ContinueRequest.{ContinueRequest}
use Rattle.tcap_primitives.specs.declared.request.EndRequest.{EndRequest}
use Rattle.tcap_primitives.specs.declared.request.AbortRequest.{AbortRequest}
use Rattle.tcap_primitives.specs.declared.request.Request.{Request}
use Rattle.tcap_primitives.specs.declared.request.Request.TheVariants as request

-- How a dialogue ends (own).
abbrev pub ending_view : Ending → model.Ending
ending_view ending.Basic = model.Ending.basic
ending_view ending.Prearranged = model.Ending.prearranged

-- Why the user aborts (own).
abbrev pub reason_view : AbortWhy → AbortReason
reason_view why.User = AbortReason.by_user
reason_view why.NotSupported = AbortReason.not_supported

-- TC-INVOKE request, by what its slices hold (own).
abbrev pub invoke_view : InvokeRequest → ComponentRequest
invoke_view r =
    ComponentRequest.invoke r.id r.class (code_parts r.code) (option_copied r.parameter) r.linked r.timeout_ms

-- TC-RESULT-L request, by what its slices hold (own).
abbrev pub last_view : ResultRequest → ComponentRequest
last_view r = ComponentRequest.result_last r.id (option_map body_parts r.body)

-- TC-RESULT-NL request, by what its slices hold (own).
abbrev pub more_view : ResultRequest → ComponentRequest
more_view r = ComponentRequest.result_more r.id (option_map body_parts r.body)

-- TC-U-ERROR request, by what its slices hold (own).
abbrev pub error_view : ErrorRequest → ComponentRequest
error_view r = ComponentRequest.error_back r.id (code_parts r.code) (option_copied r.parameter)

-- TC-U-REJECT request (own).
abbrev pub reject_view : RejectRequest → ComponentRequest
reject_view r = ComponentRequest.u_reject r.id (problem_parts r.problem)

-- TC-U-CANCEL request (own).
abbrev pub cancel_view : CancelRequest → ComponentRequest
cancel_view r = ComponentRequest.u_cancel r.id

-- TC-UNI request, by what its slices hold (own).
abbrev pub uni_view : UniRequest → DialogueRequest
uni_view r = DialogueRequest.uni r.to.now (option_copied r.context) r.info.now

-- TC-BEGIN request, by what its slices hold (own).
abbrev pub begin_view : BeginRequest → DialogueRequest
begin_view r = DialogueRequest.begin r.to.now (option_copied r.context) r.info.now

-- TC-CONTINUE request, by what its slices hold (own).
abbrev pub continue_view : ContinueRequest → DialogueRequest
continue_view r = DialogueRequest.go_on (option_copied r.context) r.info.now

-- TC-END request, by what its slices hold (own).
abbrev pub end_view : EndRequest → DialogueRequest
end_view r = DialogueRequest.finish (ending_view r.ending) (option_copied r.context) r.info.now

-- TC-U-ABORT request, by what its slices hold (own).
abbrev pub abort_view : AbortRequest → DialogueRequest
abort_view r = DialogueRequest.u_abort (reason_view r.why) r.info.now

-- A request, by what its slices hold (own).
abbrev pub request_view : Request → model.Request
request_view (request.Invoke r) = model.Request.component (invoke_view r)
request_view (request.ResultLast r) = model.Request.component (last_view r)
request_view (request.ResultMore r) = model.Request.component (more_view r)
request_view (request.ErrorBack r) = model.Request.component (error_view r)
request_view (request.Reject r) = model.Request.component (reject_view r)
request_view (request.Cancel r) = model.Request.component (cancel_view r)
request_view (request.Uni r) = model.Request.dialogue (uni_view r)
request_view (request.Begin r) = model.Request.dialogue (begin_view r)
request_view (request.Continue r) = model.Request.dialogue (continue_view r)
request_view (request.End r) = model.Request.dialogue (end_view r)
request_view (request.Abort r) = model.Request.dialogue (abort_view r)
