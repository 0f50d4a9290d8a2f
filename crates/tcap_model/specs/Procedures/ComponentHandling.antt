-- What one received component tells and which Reject it has.
use Rattle.std.specs.Prelude.{ℕ, ℤ, Bool, true, false, List, Option, Some, None, Result, Ok, Err, map, if◌then◌else◌}
use Rattle.tcap_component.specs.Problem.{ProblemParts, unexpected_error, unexpected_result, unrecognized_error, unrecognized_linked_id, unrecognized_result}
use Rattle.tcap_component.specs.Component.{ComponentParts, CodeParts, BodyParts}
use Rattle.tcap_component.specs.Component.ComponentParts.{invoke, result_last, error_back, reject_back, result_more}
use Rattle.tcap_component.specs.ComponentFault.{FaultParts}
use Rattle.tcap_invocation.specs.declared.class.Class.{Class}
use Rattle.tcap_invocation.specs.Class.{reports_success, reports_failure}
use Rattle.tcap_model.specs.Words.Output.{Output, Closing, Rejector, ComponentIndication}
use Rattle.tcap_model.specs.Procedures.Problems.{is_of_answer, remote_rejector}

-- A component that was read, or the fault of one that can't be read (own).
abbrev pub Item : Type 0
Item = Result ComponentParts FaultParts

-- An invocation that is Sent: its dialogue, its number and its operation class (own).
pub record SentInvocation : Type 0 where
  pub dialogue : ℕ
  pub number : ℕ
  pub class : Class

-- The invoke identifier whose invocation a component is about: the linked one of an Invoke, the one
-- that a result, an error or a Reject answers (Q.774, Component handling).
abbrev pub subject_of : Item → Option ℤ
subject_of (Ok (invoke id linked code parameter)) = linked
subject_of (Ok (result_last id body)) = Some id
subject_of (Ok (error_back id code parameter)) = Some id
subject_of (Ok (reject_back id problem)) = id
subject_of (Ok (result_more id body)) = Some id
subject_of (Err f) = None

-- What a component tells, and the Reject that answers it, if one does (own).
pub record Handled : Type 0 where
  pub told : Output
  pub reject : Option ComponentParts

-- A component that is told and not rejected (own).
abbrev pub telling : Output → Handled
telling output = record { told = output; reject = None }

-- A component that is rejected here: the user is told and the peer gets a Reject
-- (Q.774, Component related abnormal conditions).
abbrev pub rejecting : Option ℕ → Option ℤ → ProblemParts → Handled
rejecting dialogue id problem =
    record {
      told = Output.component (ComponentIndication.local_reject dialogue id problem);
      reject =
          Some (reject_back id problem);
    }

-- An answer that closes the invocation (Q.774, Invocation state machine).
abbrev pub closing : SentInvocation → ℤ → Closing → Handled
closing sent id how = telling (Output.component (ComponentIndication.closed sent.dialogue sent.number id how))

-- An answer that the operation class doesn't have: it closes the invocation, which is told as a local
-- Reject, and the peer gets the Reject (Q.774, Component related abnormal conditions).
abbrev pub closing_unexpected : SentInvocation → ℤ → ProblemParts → Handled
closing_unexpected sent id problem =
    record {
      told = Output.component (ComponentIndication.closed sent.dialogue sent.number id
          (Closing.rejected problem Rejector.local));
      reject = Some (reject_back (Some id) problem);
    }

-- An Invoke is told: it has no linked identifier, or that of an invocation that is Sent; with any
-- other linked identifier it is rejected (Q.774, Component handling).
abbrev pub invoke_handled : Option ℕ → Option SentInvocation → ℤ → Option ℤ → CodeParts → Option (List ℕ) → Handled
invoke_handled dialogue sent id None code parameter =
    telling (Output.component (ComponentIndication.invoked dialogue id None code parameter))
invoke_handled dialogue (Some sent) id (Some linked) code parameter =
    telling (Output.component (ComponentIndication.invoked dialogue id (Some linked) code parameter))
invoke_handled dialogue None id (Some linked) code parameter = rejecting dialogue (Some id) unrecognized_linked_id

-- A Return Result Last for an invocation that is Sent, by whether its class reports success: it closes
-- the invocation, or else is unexpected (Q.774, Component handling).
abbrev pub last_by : SentInvocation → ℤ → Option BodyParts → Bool → Handled
last_by sent id body true = closing sent id (Closing.result_last body)
last_by sent id body false = closing_unexpected sent id unexpected_result

-- A Return Result Last; for an identifier that isn't Sent it is rejected (Q.774, Component handling).
abbrev pub last_handled : Option ℕ → Option SentInvocation → ℤ → Option BodyParts → Handled
last_handled dialogue None id body = rejecting dialogue (Some id) unrecognized_result
last_handled dialogue (Some sent) id body = last_by sent id body (reports_success sent.class)

-- A Return Result Not Last for an invocation that is Sent, by whether its class reports success: it is
-- told and closes nothing, or else is unexpected (Q.774, Component handling).
abbrev pub more_by : SentInvocation → ℤ → Option BodyParts → Bool → Handled
more_by sent id body true =
    telling (Output.component (ComponentIndication.result_more sent.dialogue sent.number id body))
more_by sent id body false = closing_unexpected sent id unexpected_result

-- A Return Result Not Last; for an identifier that isn't Sent it is rejected
-- (Q.774, Component handling).
abbrev pub more_handled : Option ℕ → Option SentInvocation → ℤ → Option BodyParts → Handled
more_handled dialogue None id body = rejecting dialogue (Some id) unrecognized_result
more_handled dialogue (Some sent) id body = more_by sent id body (reports_success sent.class)

-- A Return Error for an invocation that is Sent, by whether its class reports failure: it closes the
-- invocation, or else is unexpected (Q.774, Component handling).
abbrev pub error_by : SentInvocation → ℤ → CodeParts → Option (List ℕ) → Bool → Handled
error_by sent id code parameter true = closing sent id (Closing.error_back code parameter)
error_by sent id code parameter false = closing_unexpected sent id unexpected_error

-- A Return Error; for an identifier that isn't Sent it is rejected (Q.774, Component handling).
abbrev pub error_handled : Option ℕ → Option SentInvocation → ℤ → CodeParts → Option (List ℕ) → Handled
error_handled dialogue None id code parameter = rejecting dialogue (Some id) unrecognized_error
error_handled dialogue (Some sent) id code parameter = error_by sent id code parameter (reports_failure sent.class)

-- A Reject that closes no invocation (Q.774, Component handling).
abbrev pub remote : Option ℕ → Option ℤ → ProblemParts → Handled
remote dialogue id problem =
    telling (Output.component (ComponentIndication.remote_reject dialogue id problem (remote_rejector problem)))

-- A Reject for an invocation that is Sent, by whether it is one of an answer: one of the Invoke closes
-- the invocation, one of an answer that was sent from here closes nothing (Q.774, Component handling).
abbrev pub reject_by : SentInvocation → ℤ → ProblemParts → Bool → Handled
reject_by sent id problem true = remote (Some sent.dialogue) (Some id) problem
reject_by sent id problem false = closing sent id (Closing.rejected problem (remote_rejector problem))

-- A Reject, which may be without an identifier (Q.774, Component handling).
abbrev pub reject_handled : Option ℕ → Option SentInvocation → Option ℤ → ProblemParts → Handled
reject_handled dialogue sent None problem = remote dialogue None problem
reject_handled dialogue None (Some id) problem = remote dialogue (Some id) problem
reject_handled dialogue (Some sent) (Some id) problem = reject_by sent id problem (is_of_answer problem.kind)

-- The Reject of a component that can't be read; a faulty Reject isn't answered, so that no two sides
-- reject one another without end (Q.774, Component related abnormal conditions).
abbrev pub fault_reject : FaultParts → Option ComponentParts
fault_reject f = if f.was_reject then None else Some (reject_back f.id f.problem)

-- What a component of a dialogue, or of a Unidirectional, tells and which Reject it has, given whether
-- the invocation that it is about is Sent, and which it is. A component that can't be read is told as
-- a local Reject and closes nothing (Q.774, Component handling; that it closes nothing is own).
abbrev pub handled : Option ℕ → Option SentInvocation → Item → Handled
handled dialogue sent (Ok (invoke id linked code parameter)) = invoke_handled dialogue sent id linked code parameter
handled dialogue sent (Ok (result_last id body)) = last_handled dialogue sent id body
handled dialogue sent (Ok (result_more id body)) = more_handled dialogue sent id body
handled dialogue sent (Ok (error_back id code parameter)) = error_handled dialogue sent id code parameter
handled dialogue sent (Ok (reject_back id problem)) = reject_handled dialogue sent id problem
handled dialogue sent (Err f) =
    record {
      told = Output.component (ComponentIndication.local_reject dialogue f.id f.problem);
      reject =
          fault_reject f;
    }

-- What some components tell (Q.774, Component handling).
abbrev pub told_of : List Handled → List Output
told_of components = map (λ (h : Handled). h.told) components

-- What the components of a Unidirectional tell: no invocation is Sent there, and no Reject goes out
-- (Q.774, Unstructured dialogue).
abbrev pub uni_told : List Item → List Output
uni_told items = map (λ item. (handled None None item).told) items
