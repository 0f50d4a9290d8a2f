-- The handling of results, errors and Rejects, by what the class machine says of them.
use Rattle.std.specs.Prelude.{ℕ, ℤ, List, Bool, true, false, Option, Some, None}
use Rattle.tcap_component.specs.Component.{BodyParts, CodeParts}
use Rattle.tcap_component.specs.Component.ComponentParts.{reject_back}
use Rattle.tcap_component.specs.Problem.{ProblemParts, unexpected_error, unexpected_result, unrecognized_error, unrecognized_result}
use Rattle.tcap_invocation.specs.declared.invocations.answers.Verdict.{Verdict}
use Rattle.tcap_invocation.specs.declared.invocations.answers.Verdict.TheVariants.{Good, Unexpected, Unknown}
use Rattle.tcap_model.specs.Procedures.ComponentHandling.{Handled, SentInvocation, telling, rejecting, remote, last_handled, more_handled}
use Rattle.tcap_model.specs.Procedures.Problems.{remote_rejector}
use Rattle.tcap_model.specs.Words.Output.{Output, Closing, Rejector, ComponentIndication}

-- What is told of an invocation that is closed (Q.774, Component handling).
abbrev pub closed : ℕ → ℕ → ℤ → Closing → Output
closed d number id how = Output.component (ComponentIndication.closed d number id how)

-- What is told of a good result: the last one closes the invocation (Q.774, Component handling).
abbrev pub good_result : Bool → ℕ → ℕ → ℤ → Option BodyParts → Output
good_result true d number id body = closed d number id (Closing.result_last body)
good_result false d number id body = Output.component (ComponentIndication.result_more d number id body)

-- An answer that the operation class doesn't have: it closes the invocation, and the peer gets a
-- Reject (Q.774, Component related abnormal conditions).
abbrev pub unexpected : ℕ → ℕ → ℤ → ProblemParts → Handled
unexpected d number id problem =
    record {
      told = closed d number id (Closing.rejected problem Rejector.local);
      reject = Some (reject_back (Some id) problem);
    }

-- A Return Result, Last or not, by the verdict on it (Q.774, Component handling).
abbrev pub result_judged : ℕ → ℤ → Option BodyParts → Bool → Verdict → Handled
result_judged d id body last (Good number) = telling (good_result last d number id body)
result_judged d id body last (Unexpected number) = unexpected d number id unexpected_result
result_judged d id body last Unknown = rejecting (Some d) (Some id) unrecognized_result

-- A Return Error, by the verdict on it (Q.774, Component handling).
abbrev pub error_judged : ℕ → ℤ → CodeParts → Option (List ℕ) → Verdict → Handled
error_judged d id code parameter (Good number) = telling (closed d number id (Closing.error_back code parameter))
error_judged d id code parameter (Unexpected number) = unexpected d number id unexpected_error
error_judged d id code parameter Unknown = rejecting (Some d) (Some id) unrecognized_error

-- A Reject, by the number of the invocation that it closes (Q.774, Component handling).
abbrev pub reject_judged : ℕ → ℤ → ProblemParts → Option ℕ → Handled
reject_judged d id problem (Some number) = telling (closed d number id (Closing.rejected problem (remote_rejector problem)))
reject_judged d id problem None = remote (Some d) (Some id) problem

-- A Return Result, Last or not, by whether the invocation is Sent (Q.774, Component handling).
abbrev pub result_handled : Option ℕ → Option SentInvocation → ℤ → Option BodyParts → Bool → Handled
result_handled dialogue sent id body true = last_handled dialogue sent id body
result_handled dialogue sent id body false = more_handled dialogue sent id body
