-- The class table, what a component tells and how a mark closes agree, class by class.
use Rattle.std.proofs.Common.{◌≡◌, ℕ, ℤ, true, false, List, Option, Some, None}
use Rattle.tcap_component.specs.Component.{CodeParts, BodyParts}
use Rattle.tcap_component.specs.Problem.{ProblemParts}
use Rattle.tcap_invocation.specs.declared.class.Class.{Class}
use Rattle.tcap_invocation.specs.declared.class.Class.TheVariants.{One, Two, Three, Four}
use Rattle.tcap_invocation.specs.Class.{Received, class_rule, reports_success, reports_failure}
use Rattle.tcap_model.specs.Invocations.Closes.{closing_by_last, closing_by_more, closing_by_error}
use Rattle.tcap_model.specs.Procedures.ComponentHandling.{SentInvocation, last_by, more_by, error_by, reject_by}
use Rattle.tcap_model.specs.Procedures.Problems.{is_of_answer, remote_rejector}
use Rattle.tcap_model.specs.Statements.ClassTable.{IsLine, ClassTablesAgree}
use Rattle.tcap_model.specs.Words.Output.{Closing}
use Rattle.tcap_laws.proofs.Rows.LeftSentByRows.{reject_rule}

module _ (sent : SentInvocation) (id : ℤ) where
  last-line : (body : Option BodyParts) (class : Class)
      → IsLine sent id (class_rule class Received.return_result_last) (last_by sent id body (reports_success class))
      (closing_by_last class body)
  last-line body One = IsLine.a_result body
  last-line body Two = IsLine.no_result
  last-line body Three = IsLine.a_result body
  last-line body Four = IsLine.no_result

  more-line : (body : Option BodyParts) (class : Class)
      → IsLine sent id (class_rule class Received.return_result_not_last) (more_by sent id body (reports_success class))
      (closing_by_more class)
  more-line body One = IsLine.a_part body
  more-line body Two = IsLine.no_result
  more-line body Three = IsLine.a_part body
  more-line body Four = IsLine.no_result

  error-line : (code : CodeParts) (parameter : Option (List ℕ)) (class : Class)
      → IsLine sent id (class_rule class Received.return_error)
      (error_by sent id code parameter (reports_failure class))
      (closing_by_error class code parameter)
  error-line code parameter One = IsLine.an_error code parameter
  error-line code parameter Two = IsLine.an_error code parameter
  error-line code parameter Three = IsLine.no_error
  error-line code parameter Four = IsLine.no_error

  module _ (problem : ProblemParts) where
    reject-line : is_of_answer problem.kind ≡ false
        → IsLine sent id (class_rule sent.class (Received.reject problem.kind))
        (reject_by sent id problem (is_of_answer problem.kind))
        (Some (Closing.rejected problem (remote_rejector problem)))
    reject-line of = rw (reject_rule sent.class problem.kind, of) (IsLine.a_reject problem)

    answer-line : is_of_answer problem.kind ≡ true
        → IsLine sent id (class_rule sent.class (Received.reject problem.kind))
        (reject_by sent id problem (is_of_answer problem.kind)) None
    answer-line of = rw (reject_rule sent.class problem.kind, of) (IsLine.of_an_answer problem)

  pub class-tables : (timeout clock : ℕ) → ClassTablesAgree sent id timeout clock
  class-tables timeout clock = record {
    last = λ body. last-line body sent.class;
    more = λ body. more-line body sent.class;
    error = λ code parameter. error-line code parameter sent.class;
    reject = reject-line;
    reject_of_answer = answer-line;
  }
