-- The operation classes are told three times, and each time the same: by the class table of the
-- invocations, by what a component tells, and by how a mark closes its invocation.
use Rattle.std.specs.Prelude.{◌≡◌, ℕ, ℤ, true, false, List, Option, Some, None, Ok}
use Rattle.tcap_component.specs.Component.{CodeParts, BodyParts, ComponentParts}
use Rattle.tcap_component.specs.Problem.{ProblemParts, unexpected_error, unexpected_result}
use Rattle.tcap_invocation.specs.Class.{Received, Consequence, class_rule}
use Rattle.tcap_model.specs.Invocations.Closes.{closing_of}
use Rattle.tcap_model.specs.Invocations.Marks.{Mark}
use Rattle.tcap_model.specs.Procedures.ComponentHandling.{SentInvocation, Handled, telling, closing, closing_unexpected, remote, handled}
use Rattle.tcap_model.specs.Procedures.Problems.{is_of_answer, remote_rejector}
use Rattle.tcap_model.specs.Words.Output.{Output, Closing, Rejector, ComponentIndication}

-- The lines on which the three agree, for an answer to an invocation that is Sent: what comes of it,
-- what is told and rejected, and how the invocation is closed (Q.774, Component sublayer procedures).
pub data IsLine (sent : SentInvocation) (id : ℤ) : Consequence → Handled → Option Closing → Type 0 where
  a_result : (body : Option BodyParts) →
      IsLine sent id Consequence.result_last (closing sent id (Closing.result_last body))
      (Some (Closing.result_last body))
  a_part : (body : Option BodyParts) →
      IsLine sent id Consequence.result_more
      (telling (Output.component (ComponentIndication.result_more sent.dialogue sent.number id body))) None
  an_error : (code : CodeParts) (parameter : Option (List ℕ)) →
      IsLine sent id Consequence.error_back (closing sent id (Closing.error_back code parameter))
      (Some (Closing.error_back code parameter))
  no_result : IsLine sent id Consequence.rejected_result (closing_unexpected sent id unexpected_result)
      (Some (Closing.rejected unexpected_result Rejector.local))
  no_error : IsLine sent id Consequence.rejected_error (closing_unexpected sent id unexpected_error)
      (Some (Closing.rejected unexpected_error Rejector.local))
  a_reject : (problem : ProblemParts) →
      IsLine sent id Consequence.rejected (closing sent id (Closing.rejected problem (remote_rejector problem)))
      (Some (Closing.rejected problem (remote_rejector problem)))
  of_an_answer : (problem : ProblemParts) →
      IsLine sent id Consequence.not_of_the_invoke (remote (Some sent.dialogue) (Some id) problem) None

-- Each answer to an invocation that is Sent, of whatever class, is on one of these lines. A Reject of an
-- answer that was sent from here is no mark of the invocation (Q.774, Component sublayer procedures).
pub record ClassTablesAgree (sent : SentInvocation) (id : ℤ) (timeout clock : ℕ) : Type 0 where
  pub last : (body : Option BodyParts) →
      IsLine sent id (class_rule sent.class Received.return_result_last)
      (handled (Some sent.dialogue) (Some sent) (Ok (ComponentParts.result_last id body)))
      (closing_of sent.class timeout (Some clock) (Mark.last body))
  pub more : (body : Option BodyParts) →
      IsLine sent id (class_rule sent.class Received.return_result_not_last)
      (handled (Some sent.dialogue) (Some sent) (Ok (ComponentParts.result_more id body)))
      (closing_of sent.class timeout (Some clock) (Mark.more body))
  pub error : (code : CodeParts) (parameter : Option (List ℕ)) →
      IsLine sent id (class_rule sent.class Received.return_error)
      (handled (Some sent.dialogue) (Some sent) (Ok (ComponentParts.error_back id code parameter)))
      (closing_of sent.class timeout (Some clock) (Mark.error code parameter))
  pub reject : (problem : ProblemParts) → is_of_answer problem.kind ≡ false →
      IsLine sent id (class_rule sent.class (Received.reject problem.kind))
      (handled (Some sent.dialogue) (Some sent) (Ok (ComponentParts.reject_back (Some id) problem)))
      (closing_of sent.class timeout (Some clock) (Mark.reject problem))
  pub reject_of_answer : (problem : ProblemParts) → is_of_answer problem.kind ≡ true →
      IsLine sent id (class_rule sent.class (Received.reject problem.kind))
      (handled (Some sent.dialogue) (Some sent) (Ok (ComponentParts.reject_back (Some id) problem))) None
