-- Which marks of answers leave an invocation open.
use Rattle.std.proofs.Common.{◌≡◌, ℕ, false, List, Option, refl, sym, ◌∙◌}
use Rattle.std.specs.Prelude.{is_none}
use Rattle.tcap_component.specs.Component.{CodeParts, BodyParts}
use Rattle.tcap_component.specs.Problem.{ProblemParts}
use Rattle.tcap_invocation.specs.declared.class.Class.{Class}
use Rattle.tcap_invocation.specs.declared.class.Class.TheVariants.{One, Two, Three, Four}
use Rattle.tcap_invocation.specs.Class.{Received}
use Rattle.tcap_laws.proofs.Rows.LeftSentByRows.{stays, reject_stays}
use Rattle.tcap_laws.proofs.Rows.LeftSentByMarks.{IsMarkOf}
use Rattle.tcap_model.specs.Invocations.Closes.{closing_by_last, closing_by_more, closing_by_error}
use Rattle.tcap_model.specs.Invocations.Marks.{Mark}
use Rattle.tcap_model.specs.Procedures.Problems.{is_of_answer}

-- ---- the marks of answers

pub last_stays : (body : Option BodyParts) (class : Class)
    → is_none (closing_by_last class body) ≡ stays class Received.return_result_last
last_stays body One = refl
last_stays body Two = refl
last_stays body Three = refl
last_stays body Four = refl

pub more_stays : (class : Class) → is_none (closing_by_more class) ≡ stays class Received.return_result_not_last
more_stays One = refl
more_stays Two = refl
more_stays Three = refl
more_stays Four = refl

pub error_stays : (code : CodeParts) (parameter : Option (List ℕ)) (class : Class)
    → is_none (closing_by_error class code parameter) ≡ stays class Received.return_error
error_stays code parameter One = refl
error_stays code parameter Two = refl
error_stays code parameter Three = refl
error_stays code parameter Four = refl

pub mark_of_reject : (problem : ProblemParts) → is_of_answer problem.kind ≡ false
    → IsMarkOf (Received.reject problem.kind) (Mark.reject problem)
mark_of_reject problem of =
    record { sends_not = refl; closes = λ class timeout sent. sym (reject_stays class problem.kind ∙ of) }
